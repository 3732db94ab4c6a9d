use Rattle.std.proofs.Common.{◌+ℤ◌, SFits, w64, to_z, sym, ap, ◌∙◌, rules, arith, ℤ, pos}
use Rattle.std.proofs.lemmas.Int.{to_z-of_z}
use Rattle.std.proofs.lemmas.Option.{get_or_from_slice_get}
use Rattle.txn_model.specs.Number.{wrap}
use Rattle.txn_model.specs.Needs.{needs_list}
use Rattle.txn_model.specs.Serial.{operand, needed, part_of}
use Rattle.txn_model.proofs.OperandLaws.{needed_step, needed_end}
use Rattle.txn_model.proofs.serial.operand.Goals as goal

pub loop-i-preserved : goal.loop-i-preserved
loop-i-preserved c =
    let sum = to_z w64 c.loop-i.sum-bits in
    let need = c.get-need.result in
    let part_fits : SFits w64 c.part_of.result = search rules in
    let next_fits : SFits w64 c.plus-sum.result = search rules in
    let read = get_or_from_slice_get c.args.done.now.items need.from c.get.result (record { was = pos 0; now = pos 0 }) c.get.ensures in
    let part = to_z-of_z w64 c.part_of.result part_fits ∙ c.part_of.ensures ∙ ap (part_of need.which) (sym read) in
    let next = to_z-of_z w64 c.plus-sum.result next_fits ∙ c.plus-sum.ensures ∙ ap (λ (p : ℤ). wrap (sum +ℤ p)) part in
    needed_step (needs_list c.args.needs.now) c.loop-i.i need c.args.done.now.items sum _ c.get-need.ensures next ∙ c.loop-i.invariant

pub returns : goal.returns
unfolding operand
returns c =
    let needs = needs_list c.args.needs.now in
    let sum = to_z w64 c.loop-i.sum-bits in
    let fits : SFits w64 sum = search rules in
    needed_end needs c.loop-i.i c.args.done.now.items sum (omega (arith, c.len-i-end.ensures.value)) fits
    ∙ c.loop-i.invariant
    ∙ ap (λ (b : ℤ). wrap (b +ℤ needed needs c.args.done.now.items)) (to_z-of_z w64 c.args.bias c.ranges.bias)
