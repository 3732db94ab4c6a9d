-- The step of the fabric: what the move of an actor makes of a state; None where it can't move.
use Rattle.std.specs.Prelude.{ℕ, ◌+◌, ◌-◌, ◌==◌, ◌&&◌, nat_lt, Bool, List, [], ◌∷◌, ◌++◌, map, length, take, set, slice_get, Option, Some, None, option_map, option_and_then, if◌then◌else◌}
use Rattle.std.specs.List.{list_any}
use Rattle.txn_model.specs.declared.op.Op.{Op}
use Rattle.txn_model.specs.declared.pairs.Pair.{Pair}
use Rattle.txn_model.specs.declared.stamp.Stamp.{Stamp}
use Rattle.stage_layout.specs.Late.{is_hot}
use Rattle.host_store.specs.Store as hosts
use Rattle.history_model.specs.Chain.{Step}
use Rattle.history_model.specs.History.{HistoryEntry, History, with_entry}
use Rattle.switch_packet.specs.Packets.{PlainPacket}
use Rattle.placement_model.specs.FirstOrder.{first_order}
use Rattle.placement_model.specs.Placements.{Task, packets_of}
use Rattle.switch_model.specs.Switch.{Switch, Answer, Desk, Vacant, Posted, Entered, desk_at, next_number, answer_of, restored}
use Rattle.switch_model.specs.Event as switch
use Rattle.warm_split.specs.Joined.{joined}
use Rattle.catalogue.specs.Plan.{Plan, PlainItem, Run, Lose, item_of, hot_cells}
use Rattle.catalogue.specs.declared.actor.Actor.{Actor}
use Rattle.catalogue.specs.declared.actor.Actor.TheVariants.{Client, Port, Stage, Recover}
use Rattle.core_model.specs.declared.phase.Phase.{Phase}
use Rattle.core_model.specs.declared.phase.Phase.TheVariants.{Ready, Locking, Aborting, Logged, Waiting, Installing, Finished}
use Rattle.core_model.specs.State.{ClientState, script_now}
use Rattle.core_model.specs.Locks.{cold_ops, holder_from}
use Rattle.core_model.specs.Decision.{decision_stamp, cold_steps}
use Rattle.core_model.specs.Step.{next_item, aborting, installed_one}
use Rattle.fabric_model.specs.Intents.{values_of, packet_now, intent_now, with_intent, with_outcome}
use Rattle.fabric_model.specs.Recovery.{plain_logs, desks_from, resumed, filled}
use Rattle.fabric_model.specs.State.{State, client_at, log_at, answered_ones}

-- one move, which changes this client
abbrev pub moved : State → ℕ → ClientState → State
moved s c client = record s { clients = set s.clients c client; moves = s.moves + 1 }

-- The switch is lost, and with it all that it had and its counter; what has no answer leaves the history. The client goes on to
-- its next item.
unfoldable pub lost : Plan → State → ℕ → ClientState → State
lost plan s c client = record (moved s c (next_item plan c client)) { switch = None; history = answered_ones s.history }

-- the lock is granted: value and stamp are noted
unfoldable pub granted : State → ℕ → ClientState → Op → State
granted s c client op = moved s c (record client { phase = Locking; noted = client.noted ++ hosts.seen_at s.store op.tuple ∷ [] })

-- the lock is refused, since this client holds another one: the try ends, or its locks are to be released first
unfoldable pub refused : Plan → State → ℕ → ClientState → Op → ℕ → State
refused plan s c client op by = record (moved s c (aborting plan c client client.noted)) {
  refusals = s.refusals ++ record { client = c; seq = client.seq; tuple = op.tuple; holder = by; at = s.moves } ∷ [];
}

-- the least other client whose lock stands in the way of the operation
abbrev pub holder : Plan → State → ℕ → Op → Option ℕ
holder plan s me op = holder_from plan me op 0 s.clients

-- a client asks for the lock of this operation: it is granted where no client stands in the way
abbrev pub asked : Plan → State → ℕ → ClientState → Op → Option ℕ → State
asked plan s c client op None = granted s c client op
asked plan s c client op (Some other) = refused plan s c client op other

-- the lock that was taken last is released
unfoldable pub released : Plan → State → ℕ → ClientState → State
released plan s c client = moved s c (aborting plan c client (take (length client.noted - 1) client.noted))

-- a transaction on hosts is decided: reply, stamp and entry are fixed, and the entry is answered
unfoldable pub decided : Plan → State → ℕ → ClientState → State
decided plan s c client =
    let reply = joined plan.layout (script_now plan c client) (values_of client.noted) [] in
    let stamp = decision_stamp client.last client.noted in
    record (moved s c (record client { phase = Installing; last = stamp; reply = reply })) {
      history = with_entry (record { entry = record { stamp = stamp; client = c; seq = client.seq }; pairs = Some reply }) s.history;
    }

-- what a transaction is about to do in the switch stands in its client's log
unfoldable pub logged : Plan → State → ℕ → ClientState → State
logged plan s c client = record (moved s c (record client { phase = Logged })) { logs = set s.logs c (with_intent (intent_now plan c client) (log_at s c)) }

-- the packet is at the port, and the switch is this one
unfoldable pub posted : State → ℕ → ClientState → Switch → State
posted s c client after = record (moved s c (record client { phase = Waiting })) { switch = Some after }

-- the entry, answered by these pairs where it is that of the packet with this number
abbrev pub answered_entry : ℕ → List Pair → HistoryEntry → HistoryEntry
answered_entry number reply e = if e.entry.stamp.number == number && e.entry.stamp.sub == 0 then record e { pairs = Some reply } else e

-- the history in which the packet with this number is answered
abbrev pub with_reply : ℕ → List Pair → History → History
with_reply number reply h = map (answered_entry number reply) h

-- the client whose transaction has this stamp and this reply: values are to be installed where it has locks
abbrev pub replied : Plan → ℕ → ClientState → Stamp → List Pair → ClientState
replied plan c client stamp reply =
    let now = record client { phase = Installing; last = stamp; reply = reply } in
    if length client.noted == 0 then next_item plan c now else now

-- the answer to a client's packet: number and pairs stand in the log, and its entry is answered
unfoldable pub taken : Plan → State → ℕ → ClientState → Answer → Switch → State
taken plan s c client answer after =
    let reply = joined plan.layout (script_now plan c client) (values_of client.noted) answer.pairs in
    record (moved s c (replied plan c client (record { number = answer.number; sub = 0 }) reply)) {
      logs = set s.logs c (with_outcome (record { seq = client.seq; number = answer.number; pairs = answer.pairs }) (log_at s c));
      switch = Some after;
      history = with_reply answer.number reply s.history;
    }

-- a tuple gets its new value, and the greater of its stamp and the transaction's
unfoldable pub installed : Plan → State → ℕ → ClientState → Step → State
installed plan s c client step =
    let all = length (cold_steps plan.layout (script_now plan c client) client.reply) in
    record (moved s c (installed_one plan c client all)) {
      store = hosts.installed s.store step.0.tuple step.1.now client.last;
    }

-- the switch is this one after a move of its own
unfoldable pub switched : State → Switch → State
switched s after = record s { switch = Some after; moves = s.moves + 1 }

-- a packet has entered the switch: it has the next number, and its transaction an unanswered entry
unfoldable pub entered : State → ℕ → PlainPacket → ℕ → Switch → State
entered s c packet number after = record (switched s after) {
  history = with_entry (record { entry = record { stamp = record { number = number; sub = 0 }; client = c; seq = packet.seq }; pairs = None }) s.history;
}

-- an operation of the script is on a tuple in the switch
abbrev pub has_hot : Plan → List Op → Bool
has_hot plan ops = list_any (λ op. is_hot plan.layout op.tuple) ops

-- the move of a client that has all its locks: its intent is logged, or it is decided where all its operations are on hosts
abbrev pub logs_or_decides : Plan → State → ℕ → ClientState → Option State
logs_or_decides plan s c client =
    if has_hot plan (script_now plan c client) then Some (logged plan s c client) else
    (if nat_lt 0 (length client.noted) then Some (decided plan s c client) else None)

-- the move of a client that asks for its next lock where one is left
abbrev pub asks_or_goes_on : Plan → State → ℕ → ClientState → Option Op → Option State
asks_or_goes_on plan s c client (Some op) = Some (asked plan s c client op (holder plan s c op))
asks_or_goes_on plan s c client None = logs_or_decides plan s c client

abbrev pub next_op : Plan → ℕ → ClientState → Option Op
next_op plan c client = slice_get (cold_ops plan.layout (script_now plan c client)) (length client.noted)

-- what the switch makes of it, where it is up
abbrev pub up : {T : Type 0} → State → (Switch → Option T) → Option T
up s f = option_and_then f s.switch

-- the move of a client that waits: it takes its answer, where there is one
abbrev pub takes : Plan → State → ℕ → ClientState → Switch → Option Answer → Option State
takes plan s c client now None = None
takes plan s c client now (Some answer) = option_map (taken plan s c client answer) (switch.take_answer now c)

-- the move of a client that is ready: it asks for the first lock of a transaction, or loses the switch where that is up
abbrev pub begins : Plan → State → ℕ → ClientState → Option PlainItem → Option State
begins plan s c client None = None
begins plan s c client (Some (Run ops)) = asks_or_goes_on plan s c client (next_op plan c client)
begins plan s c client (Some Lose) = option_map (λ now. lost plan s c client) s.switch

abbrev pub client_step : Plan → State → ℕ → ClientState → Phase → Option State
client_step plan s c client Ready = begins plan s c client (item_of plan c client.seq)
client_step plan s c client Locking = asks_or_goes_on plan s c client (next_op plan c client)
client_step plan s c client Aborting = Some (released plan s c client)
client_step plan s c client Logged = option_map (posted s c client) (up s (λ now. switch.post now c (packet_now plan c client)))
client_step plan s c client Waiting = up s (λ now. takes plan s c client now (answer_of now c))
client_step plan s c client Installing = option_map (installed plan s c client) (slice_get (cold_steps plan.layout (script_now plan c client) client.reply) client.installed)
client_step plan s c client Finished = None

-- the state behind the entry of the packet on this desk: one that was posted enters for its first pass and gets the number
abbrev pub behind_entry : State → ℕ → Desk → ℕ → Switch → State
behind_entry s c Vacant number after = switched s after
behind_entry s c (Posted packet) number after = entered s c packet number after
behind_entry s c (Entered k) number after = switched s after

abbrev pub enters : Plan → State → ℕ → Switch → Option State
enters plan s c now = option_map (behind_entry s c (desk_at now c) (next_number now)) (switch.enter plan.shape now c)

-- The switch is rebuilt from the clients' logs, whose tasks stand in this order: registers and counter are what the packets leave
-- that are executed whole in this order. Each open intent has an unanswered entry with its number and its answer in its client's
-- box, and its client waits.
unfoldable pub recovered : Plan → State → List Task → State
recovered plan s order = record s {
  clients = map resumed s.clients;
  switch = Some (restored (hot_cells plan) (packets_of order) (desks_from order 0 (length s.clients)));
  history = filled order s.history;
  moves = s.moves + 1;
}

-- the first order of the tasks of the clients' logs
unfoldable pub order_now : Plan → State → Option (List Task)
order_now plan s = first_order (plain_logs s.logs) (hot_cells plan)

abbrev pub recovers : Plan → State → Option Switch → Option State
recovers plan s None = option_map (recovered plan s) (order_now plan s)
recovers plan s (Some now) = None

-- what an actor's move makes of the state
unfoldable pub step : Plan → State → Actor → Option State
step plan s (Client c) = if nat_lt c (length s.clients) then client_step plan s c (client_at s c) (client_at s c).phase else None
step plan s (Port c) = up s (enters plan s c)
step plan s (Stage x) = option_map (switched s) (up s (λ now. switch.advance plan.shape now x))
step plan s Recover = recovers plan s s.switch
