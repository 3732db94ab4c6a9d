use Rattle.std.proofs.Common.{◌&&◌, Bool, List, sym, ap, ◌∙◌}
use Rattle.std.specs.List.{list_all}
use Rattle.catalogue.specs.PlanOf.{plan_of}
use Rattle.fabric_core.specs.declared.runner.Runner.{Runner}
use Rattle.core_model.specs.Rota.{is_finished}
use Rattle.fabric_model.specs.Run.{state_now}
use Rattle.fabric_core.proofs.Phases.{finished_exact}
use Rattle.fabric_core.proofs.world.World.finished.Goals as goal

pub returns-then-self : goal.returns-then-self
returns-then-self g c =
    let plan = plan_of c.self.inside.session in
    let core = c.self.inside.core in
    let finished = c.have_finished.ensures ∙ ap (λ (l : List Runner). list_all (λ runner. is_finished runner.state.phase) l) c.as_slice.ensures.value in
    rw (← c.self.view_is) (finished_exact plan (state_now plan c.self.inside.trace.items) core c.have_finished.result c.self.invariant.stands
    (finished ∙ ap (λ (b : Bool). b && list_all (λ runner. is_finished runner.state.phase) core.runners.items) (sym c.if-self.true)))

pub returns-else-self : goal.returns-else-self
returns-else-self g c =
    let plan = plan_of c.self.inside.session in
    let core = c.self.inside.core in
    rw (← c.self.view_is) (finished_exact plan (state_now plan c.self.inside.trace.items) core core.is_up c.self.invariant.stands
    (c.if-self.false ∙ ap (λ (b : Bool). b && list_all (λ runner. is_finished runner.state.phase) core.runners.items) (sym c.if-self.false)))
