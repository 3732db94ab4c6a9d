use Rattle.std.proofs.Common.{ap, ◌∙◌, arith}
use Rattle.catalogue.specs.PlanOf.{plan_of}
use Rattle.fabric_core.specs.declared.runner.Runner.{Runner}
use Rattle.fabric_model.specs.Run.{state_now}
use Rattle.fabric_core.proofs.Phases.{is_kept, phase_kept}
use Rattle.fabric_core.proofs.Worlds.{is_reached}
use Rattle.fabric_core.proofs.world.World.phase.Goals as goal

pub index-requires : goal.index-requires
index-requires g c =
    let plan = plan_of c.self.inside.session in
    let s = state_now plan c.self.inside.trace.items in
    let within = rw (← c.self.view_is) at c.requires in
    omega (arith, is_kept plan s c.self.inside.core c.args.client (is_reached c.self.invariant) c.self.invariant.stands within, c.self.inside.core.runners.ok.0)

pub returns : goal.returns
returns g c =
    let plan = plan_of c.self.inside.session in
    let s = state_now plan c.self.inside.trace.items in
    let within = rw (← c.self.view_is) at c.requires in
    let same = phase_kept plan s c.self.inside.core c.args.client c.index.result.now (is_reached c.self.invariant) c.self.invariant.stands within in
    rw (← c.self.view_is) (ap (λ (x : Runner). x.state.phase) c.index.ensures ∙ same)
