use Rattle.std.proofs.Common.{ℕ, ◌-◌, ◌∷◌, [], map, ap, subst, arith}
use Rattle.std.specs.Prelude.{reverse}
use Rattle.std.proofs.lemmas.Result.{err_from_is_err_and}
use Rattle.catalogue.specs.declared.actor.Actor.TheVariants.{Stage}
use Rattle.core_model.specs.Rota.{numbers_below}
use Rattle.fabric_core.specs.Running.{Running}
use Rattle.fabric_core.proofs.Takes as takes
use Rattle.fabric_core.proofs.Worlds.{IsRun, is_run}
use Rattle.fabric_core.proofs.world.World.take_stages.Goals as goal

pub loop-stage-init : goal.loop-stage-init
loop-stage-init g c =
    let stages = ap (λ (r : Running _). r.plan.shape.stages) c.self.view_is in
    record {
      below = omega (arith, stages);
      taking = takes.taking_begins _ _ c.args.self.now _ (ap (λ (n : ℕ). map Stage (reverse (numbers_below n))) stages) (subst (λ (r : Running _). IsRun r) c.self.view_is (is_run c.self.invariant c.self.inside.stop c.self.inside.rack)) c.requires;
    }

pub take-requires-clause-goes_on : goal.take-requires-clause-goes_on
take-requires-clause-goes_on g c = c.loop-stage.invariant.taking.goes

pub returns-in_err-take : goal.returns-in_err-take
returns-in_err-take g c =
    let p = err_from_is_err_and c.from_residual.result c.from_residual.ensures.1 in
    rw (p.1, p.2) (takes.taking_ends (Stage (c.loop-stage.stage - 1) ∷ []) _ _ _ c.args.self.now c.loop-stage.self c.take.new.self _ _ _ (takes.numbered_back Stage c.loop-stage.stage c.loop-stage-test.true) c.loop-stage.invariant.taking c.in_err-take.field-0.0 c.in_err-take.ensures)

pub loop-stage-preserved : goal.loop-stage-preserved
loop-stage-preserved g c = record {
  below = omega (arith, c.loop-stage.invariant.below);
  taking = takes.taking_next (Stage (c.loop-stage.stage - 1) ∷ []) _ _ _ c.args.self.now c.loop-stage.self c.take.new.self _ _ _ (takes.numbered_back Stage c.loop-stage.stage c.loop-stage-test.true) c.loop-stage.invariant.taking c.in_ok-take.ensures;
}

pub returns : goal.returns
returns g c = takes.taking_done _ _ c.args.self.now c.loop-stage.self _ _ (takes.none_back Stage c.loop-stage.stage c.loop-stage-test.false) c.loop-stage.invariant.taking
