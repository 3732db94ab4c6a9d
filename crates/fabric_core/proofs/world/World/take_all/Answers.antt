use Rattle.std.proofs.Common.{refl, subst}
use Rattle.std.proofs.lemmas.Result.{err_from_is_err_and}
use Rattle.fabric_core.specs.Running.{Running}
use Rattle.fabric_core.proofs.Takes as takes
use Rattle.fabric_core.proofs.Worlds.{IsRun, is_run}
use Rattle.fabric_core.proofs.world.World.take_all.Goals as goal

pub loop-actor-init : goal.loop-actor-init
loop-actor-init g c = takes.taking_begins _ c.args.actors.now c.args.self.now _ refl (subst (λ (r : Running _). IsRun r) c.self.view_is (is_run c.self.invariant c.self.inside.stop c.self.inside.rack)) c.requires.goes_on

pub take-requires-clause-goes_on : goal.take-requires-clause-goes_on
take-requires-clause-goes_on g c = c.loop-actor.invariant.goes

pub returns-in_err-take : goal.returns-in_err-take
returns-in_err-take g c =
    let p = err_from_is_err_and c.from_residual.result c.from_residual.ensures.1 in
    rw (p.1, p.2)
    (takes.taking_ends_one _ _ _ _ c.args.self.now c.loop-actor.self c.take.new.self _ _ _ (takes.listed_next c.args.actors.now c.loop-actor.actor-index _ c.loop-actor-test.true) c.loop-actor.invariant c.in_err-take.field-0.0 c.in_err-take.ensures)

pub loop-actor-preserved : goal.loop-actor-preserved
loop-actor-preserved g c =
    takes.taking_one _ _ _ _ c.args.self.now c.loop-actor.self c.take.new.self _ _ _ (takes.listed_next c.args.actors.now c.loop-actor.actor-index _ c.loop-actor-test.true) c.loop-actor.invariant c.in_ok-take.ensures

pub returns : goal.returns
returns g c = takes.taking_done _ _ c.args.self.now c.loop-actor.self _ _ (takes.none_listed c.args.actors.now c.loop-actor.actor-index c.loop-actor-test.false) c.loop-actor.invariant
