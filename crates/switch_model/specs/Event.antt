-- Events: what happens to the switch, one thing at a time. Each is None exactly where its condition fails.
use Rattle.std.specs.Prelude.{ℕ, ◌+◌, ◌==◌, ◌&&◌, ◌||◌, Bool, List, [], ◌∷◌, ◌++◌, length, nat_lt, set, Option, Some, None, if◌then◌else◌}
use Rattle.std.specs.List.{position}
use Rattle.stage_layout.specs.declared.shape.Shape.{Shape}
use Rattle.switch_packet.specs.Packets.{PlainPacket}
use Rattle.switch_packet.specs.Replay.{Replayed, execute}
use Rattle.switch_model.specs.Flight.{Flight, fresh_flight, flight_at, is_done, is_waiting, is_in_slot, is_free, may_enter, is_due}
use Rattle.switch_model.specs.Switch.{Switch, Desk, Vacant, Posted, Entered, desk_at}

-- the state with this desk of a client
abbrev pub with_desk : Switch → ℕ → Desk → Switch
with_desk s c desk = record { registers = s.registers; flights = s.flights; desks = set s.desks c desk }

-- the state with this k-th flight
abbrev pub with_flight : Switch → ℕ → Flight → Switch
with_flight s k f = record { registers = s.registers; flights = set s.flights k f; desks = s.desks }

-- ---- posting: a client with nothing under way puts a packet at the port

abbrev pub posted : Switch → ℕ → PlainPacket → Desk → Option Switch
posted s c p Vacant = if nat_lt c (length s.desks) then Some (with_desk s c (Posted p)) else None
posted s c p (Posted q) = None
posted s c p (Entered k) = None

unfoldable pub post : Switch → ℕ → PlainPacket → Option Switch
post s c p = posted s c p (desk_at s c)

-- ---- entering: for the first pass where slot 0 and the regions that the packet touches are free, and it gets the next
-- number; for a later one where slot 0 is free

abbrev pub first_entry : Switch → ℕ → PlainPacket → Switch
first_entry s c p = record { registers = s.registers; flights = s.flights ++ fresh_flight p ∷ []; desks = set s.desks c (Entered (length s.flights)) }

abbrev pub in_first_slot : Flight → Flight
in_first_slot f = record { packet = f.packet; pass = f.pass; depth = 1; pairs = f.pairs }

abbrev pub entered_from : Shape → Switch → ℕ → Desk → Option Switch
entered_from shape s c Vacant = None
entered_from shape s c (Posted p) = if may_enter shape s.flights p then Some (first_entry s c p) else None
entered_from shape s c (Entered k) =
    let f = flight_at s.flights k in
    if is_waiting f && is_free s.flights 0 then Some (with_flight s k (in_first_slot f)) else None

unfoldable pub enter : Shape → Switch → ℕ → Option Switch
enter shape s c = entered_from shape s c (desk_at s c)

-- ---- a stage: the packet in its slot leaves it where it is the last stage or the next slot is empty. Its operations that are
-- due are executed, and it goes on to the next slot, or from the last one to its next pass

abbrev pub moved_on : Shape → ℕ → Flight → Replayed → Flight
moved_on shape x f done =
    if x + 1 == shape.stages then record { packet = f.packet; pass = f.pass + 1; depth = 0; pairs = done.pairs } else
    record { packet = f.packet; pass = f.pass; depth = f.depth + 1; pairs = done.pairs }

-- the operations of a flight that are due at stage x, executed
abbrev pub executed_at : Switch → ℕ → Flight → Replayed
executed_at s x f = execute (is_due f.pass x) f.packet.ops [] f.pairs s.registers

abbrev pub advanced : Shape → Switch → ℕ → ℕ → Switch
advanced shape s x k =
    let f = flight_at s.flights k in
    let done = executed_at s x f in
    record { registers = done.after; flights = set s.flights k (moved_on shape x f done); desks = s.desks }

-- slot x can be left
abbrev pub may_leave : Shape → List Flight → ℕ → Bool
may_leave shape flights x = (x + 1 == shape.stages) || is_free flights (x + 1)

abbrev pub advanced_from : Shape → Switch → ℕ → Option ℕ → Option Switch
advanced_from shape s x None = None
advanced_from shape s x (Some k) = if may_leave shape s.flights x then Some (advanced shape s x k) else None

unfoldable pub advance : Shape → Switch → ℕ → Option Switch
advance shape s x = advanced_from shape s x (position (is_in_slot x) s.flights)

-- ---- taking: the answer is taken out of the client's box

abbrev pub taken : Switch → ℕ → Desk → Option Switch
taken s c Vacant = None
taken s c (Posted p) = None
taken s c (Entered k) = if is_done (flight_at s.flights k) then Some (with_desk s c Vacant) else None

unfoldable pub take_answer : Switch → ℕ → Option Switch
take_answer s c = taken s c (desk_at s c)

-- ---- all of them

pub data Event : Type 0 where
  Post : (client : ℕ) (packet : PlainPacket) → Event
  Enter : (client : ℕ) → Event
  Advance : (stage : ℕ) → Event
  Take : (client : ℕ) → Event

abbrev pub step : Shape → Switch → Event → Option Switch
step shape s (Post c p) = post s c p
step shape s (Enter c) = enter shape s c
step shape s (Advance x) = advance shape s x
step shape s (Take c) = take_answer s c
