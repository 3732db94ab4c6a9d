use Rattle.std.proofs.Common.{◌≡◌, ◌<◌, ◌≤◌, ◌+◌, List, length, set, slice_get, Some, ap, sym, subst, refl, ◌∙◌, arith}
use Rattle.txn_model.specs.Serial.{pair_at, pair_of}
use Rattle.txn_model.specs.declared.op.Op.{Op}
use Rattle.txn_model.specs.declared.pairs.Pair.{Pair}
use Rattle.txn_model.specs.Listed.{Listed}
use Rattle.warm_split.specs.Filled.{executed}
use Rattle.warm_split.proofs.FilledLaws.{FillsTo, fill_on, fill_off, filled_all, executed_end, no_op}
use Rattle.warm_split.proofs.pairs.execute_all.Goals as goal
use Rattle.warm_split.proofs.pairs.execute_all.Goals.{then-has, else-has}

pub execute-requires-clause-size : goal.execute-requires-clause-size
execute-requires-clause-size c = c.loop-op.invariant.so_far.size

pub execute-requires-clause-there : goal.execute-requires-clause-there
execute-requires-clause-there c = omega (arith, c.loop-op-test.true, c.len-op-end.ensures.value, c.requires.size)

pub loop-op-init : goal.loop-op-init
loop-op-init c = record {
  spare = refl;
  so_far = record { size = c.requires.size; all = refl; filled = λ k lt op on at. absurd (omega arith) };
}

pub loop-op-preserved : goal.loop-op-preserved
loop-op-preserved c =
    let ops = c.args.script.now.items in
    let i = c.loop-op.op in
    let chosen = c.args.set in
    let whole = executed chosen ops c.args.pairs.now.items in
    let had = c.loop-op.invariant.so_far in
    let lt : i < length ops = omega (arith, c.loop-op-test.true, c.len-op-end.ensures.value, c.requires.size) in
    elim c.if-has.branch [
      | then-has w ↦
          let items = ap (λ (p : Listed Pair). p.items) w.pairs-is in
          record {
            spare = ap (λ (p : Listed Pair). p.spare) w.pairs-is ∙ w.execute.ensures.spare ∙ c.loop-op.invariant.spare;
            so_far = fill_on chosen ops i no_op c.loop-op.pairs.items c.if-has.pairs.items whole c.requires.fit lt (sym c.has.ensures ∙ w.if-has.true) (λ o at. items ∙ w.execute.ensures.items o at) had;
          }
      | else-has w ↦ record {
        spare = ap (λ (p : Listed Pair). p.spare) w.pairs-is ∙ c.loop-op.invariant.spare;
        so_far = subst (λ (l : List Pair). FillsTo chosen ops (i + 1) l whole) (sym (ap (λ (p : Listed Pair). p.items) w.pairs-is)) (fill_off chosen ops i no_op c.loop-op.pairs.items whole lt (sym c.has.ensures ∙ w.if-has.false) had);
      }
    ]

pub returns-clause-items : goal.returns-clause-items
returns-clause-items c =
    let had = c.loop-op.invariant.so_far in
    sym (executed_end c.args.set c.args.script.now.items c.loop-op.op c.loop-op.pairs.items (omega (arith, c.loop-op-test.false, c.len-op-end.ensures.value, c.requires.size)) (omega (arith, c.loop-op-test.false, c.len-op-end.ensures.value, c.requires.size, had.size))) ∙ had.all

pub returns-clause-executed : goal.returns-clause-executed
returns-clause-executed c =
    filled_all c.args.set c.args.script.now.items c.loop-op.op c.loop-op.pairs.items _ (omega (arith, c.loop-op-test.false, c.len-op-end.ensures.value, c.requires.size)) c.loop-op.invariant.so_far
