use Rattle.std.proofs.Common.{List, length, arith, sym, ap, ◌∙◌}
use Rattle.std.specs.List.{list_any}
use Rattle.txn_model.specs.declared.op.Op.{Op}
use Rattle.txn_model.proofs.SerialLaws.{sound_length}
use Rattle.stage_layout.specs.Late.{is_hot}
use Rattle.declust.proofs.ScriptPasses.{some_hot, cold_passes, has_places}
use Rattle.declust.proofs.passes.script_passes.Goals as goal

pub returns-then-not-any_hot : goal.returns-then-not-any_hot
returns-then-not-any_hot c =
    let rows = c.args.layout.now in
    let same = ap (λ (l : List Op). list_any (λ op. is_hot rows op.tuple) l) c.as_slice-ops.ensures in
    sym (cold_passes c.args.shape.now rows c.args.script.now.items (sym same ∙ sym c.any_hot.ensures ∙ c.if-not-any_hot.true))

pub parts_of-requires : goal.parts_of-requires
parts_of-requires c = omega (arith, ap length c.as_slice-ops.ensures, sound_length c.args.script.now.items c.requires.sound)

pub hot_plan-requires-clause-hot : goal.hot_plan-requires-clause-hot
hot_plan-requires-clause-hot c =
    let rows = c.args.layout.now in
    let same = ap (λ (l : List Op). list_any (λ op. is_hot rows op.tuple) l) c.as_slice-ops.ensures in
    some_hot rows c.args.script.now.items (sym same ∙ sym c.any_hot.ensures ∙ c.if-not-any_hot.false)

pub hot_plan-requires-clause-places : goal.hot_plan-requires-clause-places
hot_plan-requires-clause-places c = has_places c.args.shape.now c.args.layout.now c.args.script.now.items c.requires.inside
