-- Recovery: what an order of all tasks of the clients' logs makes of a state whose switch was lost.
use Rattle.std.specs.Prelude.{ℕ, zero, suc, ◌+◌, ◌==◌, ◌&&◌, Bool, false, List, [], ◌∷◌, map, is_none, Option, Some, None}
use Rattle.std.specs.List.{position_from}
use Rattle.history_model.specs.History.{History, with_entry}
use Rattle.placement_model.specs.Placements.{Task}
use Rattle.switch_model.specs.Switch.{Desk, Vacant, Entered}
use Rattle.switch_packet.specs.Packets.{PlainOutcome, PlainLog}
use Rattle.core_model.specs.declared.phase.Phase.{Phase}
use Rattle.core_model.specs.declared.phase.Phase.TheVariants.{Ready, Locking, Aborting, Logged, Waiting, Installing, Finished}
use Rattle.core_model.specs.State.{ClientState}
use Rattle.fabric_model.specs.State.{Records}

-- a client's log, without a torn end
abbrev pub plain_log : Records → PlainLog
plain_log log = record { intents = log.intents; outcomes = log.outcomes; torn = false }

abbrev pub plain_logs : List Records → List PlainLog
plain_logs logs = map plain_log logs

-- an intent of this client that no outcome answers
abbrev pub is_open_of : ℕ → Task → Bool
is_open_of c task = task.client == c && is_none task.outcome

-- the answer to the packet at this place of the order lies in the box
abbrev pub desk_for : Option ℕ → Desk
desk_for None = Vacant
desk_for (Some k) = Entered k

-- what a client has under way in the rebuilt switch: the answer to the packet of its open intent, where it has one
abbrev pub desk_in : List Task → ℕ → Desk
desk_in order c = desk_for (position_from (is_open_of c) 0 order)

-- the desks of so many clients, of which this is the first
abbrev pub desks_from : List Task → ℕ → ℕ → List Desk
desks_from order c zero = []
desks_from order c (suc n) = desk_in order c ∷ desks_from order (c + 1) n

-- a client that had logged its packet, and perhaps posted it, waits for the answer
abbrev pub waits_again : Phase → Phase
waits_again Ready = Ready
waits_again Locking = Locking
waits_again Aborting = Aborting
waits_again Logged = Waiting
waits_again Waiting = Waiting
waits_again Installing = Installing
waits_again Finished = Finished

abbrev pub resumed : ClientState → ClientState
resumed x = record x { phase = waits_again x.phase }

-- the history with an entry of the task at this number, where no outcome answers it
abbrev pub with_open : ℕ → Task → Option PlainOutcome → History → History
with_open number task None h = with_entry (record { entry = record { stamp = record { number = number; sub = 0 }; client = task.client; seq = task.intent.packet.seq }; pairs = None }) h
with_open number task (Some outcome) h = h

-- with those of all open tasks of an order that begins with this number
abbrev pub filled_from : ℕ → List Task → History → History
filled_from number [] h = h
filled_from number (task ∷ tasks) h = filled_from (number + 1) tasks (with_open number task task.outcome h)

-- the history with an unanswered entry for each open intent, at its number in the order
abbrev pub filled : List Task → History → History
filled order h = filled_from 1 order h
