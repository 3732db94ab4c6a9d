use Rattle.std.proofs.Common.{◌-◌, ◌*◌, ◌∙◌, arith}
use Rattle.catalogue.specs.PlanOf.{plan_of}
use Rattle.core_model.proofs.SmallBounds.{short_script}
use Rattle.fabric_model.proofs.FromCore.{times_up}
use Rattle.fabric_core.proofs.PartsOfScripts.{locks_are, bound_is, parts_small}
use Rattle.fabric_core.proofs.room.script_bound.Goals as goal

pub overflow_cast-len : goal.overflow_cast-len
overflow_cast-len c = omega (arith, c.len.ensures, short_script c.args.script.now.items c.requires.fit.script)

pub overflow_mul-twice : goal.overflow_mul-twice
overflow_mul-twice c = omega (arith, c.others-twice.ensures, c.len.ensures, short_script c.args.script.now.items c.requires.fit.script)

pub overflow_mul-result : goal.overflow_mul-result
overflow_mul-result c =
    let few = times_up c.from-refused.result 255 c.saturating_sub-in-Ok.result (omega (arith, c.from-refused.ensures, c.saturating_sub.type_inv)) in
    omega (arith, few, c.saturating_sub-in-Ok.ensures, c.others-twice.ensures, c.len.ensures, short_script c.args.script.now.items c.requires.fit.script)

pub overflow_add-result : goal.overflow_add-result
overflow_add-result c =
    let plan = plan_of c.args.session.now in
    let ops = c.args.script.now.items in
    let locks = locks_are plan ops c.in-Ok.parts (record { script = c.requires.fit.script; turns = c.requires.fit.turns }) c.in-Ok.ensures.parts c.others-twice.result c.len.result c.len.ensures c.others-twice.ensures in
    let whole = bound_is plan ops c.others-twice.result (c.args.session.now.tries - 1) c.from-refused.result c.saturating_sub-in-Ok.result c.commit_bound.result locks (c.from-refused.ensures ∙ c.saturating_sub.ensures) c.saturating_sub-in-Ok.ensures c.commit_bound.ensures in
    omega (arith, (parts_small (c.from-refused.result * c.saturating_sub-in-Ok.result) (2 * c.others-twice.result) c.commit_bound.result _ whole c.requires.small).1)

pub overflow_add-result-in-Ok : goal.overflow_add-result-in-Ok
overflow_add-result-in-Ok c =
    let plan = plan_of c.args.session.now in
    let ops = c.args.script.now.items in
    let locks = locks_are plan ops c.in-Ok.parts (record { script = c.requires.fit.script; turns = c.requires.fit.turns }) c.in-Ok.ensures.parts c.others-twice.result c.len.result c.len.ensures c.others-twice.ensures in
    let whole = bound_is plan ops c.others-twice.result (c.args.session.now.tries - 1) c.from-refused.result c.saturating_sub-in-Ok.result c.commit_bound.result locks (c.from-refused.ensures ∙ c.saturating_sub.ensures) c.saturating_sub-in-Ok.ensures c.commit_bound.ensures in
    omega (arith, (parts_small (c.from-refused.result * c.saturating_sub-in-Ok.result) (2 * c.others-twice.result) c.commit_bound.result _ whole c.requires.small).2)

pub returns : goal.returns
returns c =
    let plan = plan_of c.args.session.now in
    let ops = c.args.script.now.items in
    let locks = locks_are plan ops c.in-Ok.parts (record { script = c.requires.fit.script; turns = c.requires.fit.turns }) c.in-Ok.ensures.parts c.others-twice.result c.len.result c.len.ensures c.others-twice.ensures in
    bound_is plan ops c.others-twice.result (c.args.session.now.tries - 1) c.from-refused.result c.saturating_sub-in-Ok.result c.commit_bound.result locks (c.from-refused.ensures ∙ c.saturating_sub.ensures) c.saturating_sub-in-Ok.ensures c.commit_bound.ensures
