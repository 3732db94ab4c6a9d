use Rattle.std.proofs.Common.{arith}
use Rattle.catalogue.specs.PlanOf.{plan_of}
use Rattle.fabric_model.proofs.SmallBounds.{small_bound}
use Rattle.fabric_core.proofs.world.room_of.Goals as goal

pub returns-clause-space : goal.returns-clause-space
returns-clause-space c = omega (arith, small_bound (plan_of c.args.session.now) c.requires, c.of.ensures.spare, c.in_ok-trace.ensures.capacity, c.in_ok-trace.ensures.len)
