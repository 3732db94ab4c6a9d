use Rattle.std.proofs.Common.{◌≡◌, ℕ, ◌<◌, [], List, length, take, arith, ◌∙◌}
use Rattle.std.proofs.lemmas.List.{length-take-le}
use Rattle.txn_model.specs.Needs.{needs_of}
use Rattle.txn_model.specs.declared.op.Act.TheVariants.{Read}
use Rattle.txn_model.specs.declared.op.Op.{Op}
use Rattle.stage_layout.proofs.LateLaws.{length-parts_of, parts_of-more}
use Rattle.stage_layout.specs.Late.{parts_of}
use Rattle.stage_layout.specs.declared.layout.LayoutRow.{LayoutRow}
use Rattle.declust.proofs.passes.parts_of.Goals as goal

abbrev no_op : Op
no_op = record { tuple = record { 0 = 0 }; act = Read; needs = needs_of [] }

-- as many parts as operations so far
so_far : (rows : List LayoutRow) (ops : List Op) (i : ℕ) → i < length ops → length (parts_of rows (take i ops)) ≡ i
so_far rows ops i lt = length-parts_of rows (take i ops) ∙ length-take-le i ops (omega arith)

pub loop-i-preserved : goal.loop-i-preserved
loop-i-preserved c =
    let rows = c.args.layout.now in
    let ops = c.args.ops.now in
    let i = c.loop-i.i in
    let within : i < length ops = omega arith in
    let done = parts_of rows (take i ops) in
    rw (parts_of-more rows ops i no_op within) (c.placed-parts.ensures done (so_far rows ops i within) c.loop-i.invariant)
