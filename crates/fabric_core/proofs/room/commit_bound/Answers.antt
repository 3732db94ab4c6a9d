use Rattle.std.proofs.Common.{◌+◌, ◌*◌, ℕ, length, List, refl, ap, ap₂, ◌∙◌, arith}
use Rattle.txn_model.specs.declared.op.Op.{Op}
use Rattle.stage_layout.specs.Passes as passes
use Rattle.catalogue.specs.PlanOf.{plan_of}
use Rattle.fabric_core.proofs.HotPlaces.{has_places}
use Rattle.fabric_core.proofs.PartsOfScripts.{above_zero, none_hot, some_hot, bound_without, bound_with}
use Rattle.fabric_core.proofs.room.commit_bound.Goals as goal

pub returns-then-is_empty : goal.returns-then-is_empty
returns-then-is_empty c =
    let plan = plan_of c.args.session.now in
    let ops = c.args.script.now.items in
    bound_without plan ops (none_hot plan.layout ops c.args.parts (record { script = c.requires.fit.script; turns = c.requires.fit.turns }) c.requires.sets (c.if-is_empty.ensures.0 refl))

pub hot_plan-requires-clause-hot : goal.hot_plan-requires-clause-hot
hot_plan-requires-clause-hot c = λ none.
    let plan = plan_of c.args.session.now in
    let ops = c.args.script.now.items in
    let some = some_hot plan.layout ops c.args.parts (record { script = c.requires.fit.script; turns = c.requires.fit.turns }) c.requires.sets (above_zero c.args.parts.hot.0 c.if-is_empty.ensures) (omega (arith, c.well_formed)) in
    omega (arith, ap (λ (l : List Op). length l) none, some)

pub hot_plan-requires-clause-places : goal.hot_plan-requires-clause-places
hot_plan-requires-clause-places c = has_places c.args.session.now.shape c.args.session.now.tuples c.args.session.now.layout c.args.script.now.items c.requires.sound.layout

pub returns : goal.returns
returns c =
    let plan = plan_of c.args.session.now in
    let ops = c.args.script.now.items in
    let some = some_hot plan.layout ops c.args.parts (record { script = c.requires.fit.script; turns = c.requires.fit.turns }) c.requires.sets (above_zero c.args.parts.hot.0 c.if-is_empty.ensures) (omega (arith, c.well_formed)) in
    ap₂ (λ (a b : ℕ). 3 + a * (1 + b)) (c.from.ensures ∙ c.passes-passes.ensures ∙ ap (λ (p : passes.Plan). passes.greatest p.passes) c.hot_plan.ensures) c.from-2.ensures ∙ bound_with plan ops some
