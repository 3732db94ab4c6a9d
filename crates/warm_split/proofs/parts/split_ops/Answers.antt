use Rattle.std.proofs.Common.{◌≡◌, ℕ, ◌<◌, List, length, take, get_or, arith, sym, ◌∙◌}
use Rattle.std.proofs.lemmas.List.{length-take-le}
use Rattle.std.proofs.lemmas.Result.{err_from_is_err_and}
use Rattle.txn_model.specs.declared.op.Op.{Op}
use Rattle.stage_layout.proofs.Firsts.{first_is, first_none, one_more_fails}
use Rattle.stage_layout.proofs.LateLaws.{length-parts_of, parts_of-more}
use Rattle.stage_layout.specs.Late.{parts_of, turns_badly}
use Rattle.stage_layout.specs.declared.layout.LayoutRow.{LayoutRow}
use Rattle.warm_split.proofs.Sets.{caught, passed}
use Rattle.warm_split.proofs.parts.split_ops.Invariants.{no_op}
use Rattle.warm_split.proofs.parts.split_ops.Goals as goal

-- as many parts as operations so far
so_far : (rows : List LayoutRow) (ops : List Op) (i : ℕ) → i < length ops → length (parts_of rows (take i ops)) ≡ i
so_far rows ops i lt = length-parts_of rows (take i ops) ∙ length-take-le i ops (omega arith)

pub returns-in_err-parts-clause-turn : goal.returns-in_err-parts-clause-turn
returns-in_err-parts-clause-turn c =
    let rows = c.args.layout.now in
    let ops = c.args.ops.now in
    let done = parts_of rows (take c.loop-i.i ops) in
    let answer = caught _ _ _ (c.in_err-parts.ensures.turn done c.loop-i.invariant.sets) in
    let p = err_from_is_err_and c.from_residual.result c.from_residual.ensures.1 in
    rw (p.1, p.2) (answer.1 ∙ sym (first_is (λ k (op : Op). turns_badly rows (parts_of rows (take k ops)) op) no_op ops c.loop-i.i (omega arith) c.loop-i.invariant.turns answer.0))

pub returns-clause-turn : goal.returns-clause-turn
returns-clause-turn c =
    let rows = c.args.layout.now in
    let ops = c.args.ops.now in
    sym (first_none (λ k (op : Op). turns_badly rows (parts_of rows (take k ops)) op) no_op ops (λ k lt. c.loop-i.invariant.turns k (omega arith)))

pub loop-i-preserved : goal.loop-i-preserved
loop-i-preserved c =
    let rows = c.args.layout.now in
    let ops = c.args.ops.now in
    let i = c.loop-i.i in
    let within : i < length ops = omega arith in
    let done = parts_of rows (take i ops) in
    let answer = c.in_ok-parts.ensures.turn done c.loop-i.invariant.sets in
    record {
      sets = rw (parts_of-more rows ops i no_op within) (c.in_ok-parts.ensures.parts done (so_far rows ops i within) c.loop-i.invariant.sets);
      turns = one_more_fails (λ k. turns_badly rows (parts_of rows (take k ops)) (get_or ops k no_op)) i c.loop-i.invariant.turns (passed _ _ answer);
    }
