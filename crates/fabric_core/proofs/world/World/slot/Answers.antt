use Rattle.std.proofs.Common.{◌∙◌}
use Rattle.catalogue.specs.PlanOf.{plan_of}
use Rattle.fabric_model.specs.Run.{state_now}
use Rattle.fabric_core.proofs.SwitchSeen.{slot_shown}
use Rattle.fabric_core.proofs.Worlds.{is_reached}
use Rattle.fabric_core.proofs.world.World.slot.Goals as goal

pub returns : goal.returns
returns g c =
    let plan = plan_of c.self.inside.session in
    rw (← c.self.view_is) (c.slot.ensures ∙ slot_shown plan (state_now plan c.self.inside.trace.items) c.self.inside.core (is_reached c.self.invariant) c.self.invariant.stands c.args.stage)
