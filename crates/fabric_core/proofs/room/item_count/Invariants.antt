use Rattle.std.proofs.Common.{◌≡◌, ◌+◌, drop, length}
use Rattle.std.specs.Prelude.{sum_by}
use Rattle.fabric_core.proofs.room.item_count.Given as goal

-- the count so far and the items of the clients that are left make the whole
abbrev pub invariant-loop-client : goal.invariant-loop-client
invariant-loop-client l = l.items + sum_by length (drop l.client l.session.clients) ≡ sum_by length l.fn.session.clients
