use Rattle.std.proofs.Common.{◌≡◌, ◌<◌, ◌+◌, ◌-◌, ℤ, pos, length, get_or, slice_get, Some, SFits, w64, rules, refl, arith}
use Rattle.std.proofs.lemmas.Int.{to_z-of_z}
use Rattle.std.proofs.lemmas.Option.{slice_get-get_or}
use Rattle.txn_model.specs.declared.place.Place.{Place}
use Rattle.pipeline.proofs.Registers.{row_written}
use Rattle.pipeline.proofs.pipeline.write_rows.Goals as goal

pub loop-i-preserved : goal.loop-i-preserved
loop-i-preserved c =
    let i = c.loop-i.i - 1 in
    let rows = c.args.rows.now in
    let none : Place × ℤ = (record { stage = 0; array = 0; cell = 0 }, pos 0) in
    let within : i < length rows = omega arith in
    let at : slice_get rows i ≡ Some (get_or rows i none) = slice_get-get_or rows i none within in
    let next : c.loop-i.i ≡ i + 1 = omega arith in
    let fits : SFits w64 (get_or rows i none).1 = search rules in
    let w = row_written c.args.shape.now c.args.stages.now c.loop-i.stages rows i c.loop-i.i (get_or rows i none) _ c.index-stages-place.result c.set_cell.new.self _ next at c.requires.places
    (record { stages = c.loop-i.invariant.stages; numbers = c.loop-i.invariant.numbers }) refl c.set_cell.ensures (to_z-of_z w64 (get_or rows i none).1 fits) in
    record { stages = w.stages; numbers = w.numbers }
