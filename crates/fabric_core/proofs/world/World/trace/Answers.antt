use Rattle.fabric_core.proofs.Worlds.{is_reached}
use Rattle.fabric_core.proofs.world.World.trace.Goals as goal

pub returns-clause-reached : goal.returns-clause-reached
returns-clause-reached g c = rw (← c.self.view_is) (is_reached c.self.invariant)
