use Rattle.std.proofs.Common.{◌≡◌, ◌+◌, drop}
use Rattle.catalogue.specs.PlanOf.{plan_of}
use Rattle.fabric_model.specs.Bound as bound
use Rattle.fabric_core.proofs.room.move_bound.Given as goal

-- the moves so far and those of the clients that are left make the whole
abbrev pub invariant-loop-client : goal.invariant-loop-client
invariant-loop-client l = l.moves + bound.clients_bound (plan_of l.session) (drop l.client l.session.clients) ≡ bound.move_bound (plan_of l.fn.session)
