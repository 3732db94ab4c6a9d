-- What each call of the pipeline does, as a function of what is seen of it.
use Rattle.std.specs.Prelude.{◌≡◌, ◌≢◌, ℕ, ◌+◌, ◌%◌, ◌^◌, ◌==◌, ◌&&◌, ◌||◌, Bool, nat_lt, nat_le, pos, List, [], ◌∷◌, length, map, set, replicate, slice_index_or, Option, Some, None, is_none, if◌then◌else◌}
use Rattle.txn_model.specs.Places.{Places}
use Rattle.txn_model.specs.declared.pairs.Pair.{Pair}
use Rattle.stage_layout.specs.declared.shape.Shape.{Shape}
use Rattle.switch_packet.specs.Packets.{PlainPacket}
use Rattle.switch_packet.specs.Replay.{Replayed, execute, register_at}
use Rattle.switch_model.specs.Flight.{zero_pair, is_due}
use Rattle.pipeline_locks.specs.Holders.{first_held, given, without}
use Rattle.pipeline.specs.Numbers.{numbers_of}
use Rattle.pipeline.specs.Plain.{PlainFlight, PlainBox, PlainPipeline}
use Rattle.pipeline.specs.declared.step.Step.{Step}
use Rattle.pipeline.specs.declared.step.Step.TheVariants.{Moved, Idle}

-- ---- what is where

-- the packet in the slot of stage x
abbrev pub in_slot : PlainPipeline → ℕ → Option PlainFlight
in_slot s x = slice_index_or s.slots x None

-- the packet of client c that waits at the port
abbrev pub waiting_of : PlainPipeline → ℕ → Option PlainFlight
waiting_of s c = slice_index_or s.waiting c None

-- the answer in the box of client c
abbrev pub box_of : PlainPipeline → ℕ → Option PlainBox
box_of s c = slice_index_or s.boxes c None

-- no slot has a packet of this client
abbrev pub IsOutOfSlots : PlainPipeline → ℕ → Type 0
IsOutOfSlots s c = (x : ℕ) (f : PlainFlight) → in_slot s x ≡ Some f → f.packet.client ≢ c

-- the client has no packet and no answer
pub record IsVacant (s : PlainPipeline) (c : ℕ) : Type 0 where
  pub slots : IsOutOfSlots s c
  pub waiting : waiting_of s c ≡ None
  pub box : box_of s c ≡ None

-- ---- with one part changed

abbrev pub with_waiting : PlainPipeline → ℕ → Option PlainFlight → PlainPipeline
with_waiting s c f = record s { waiting = set s.waiting c f }

abbrev pub with_box : PlainPipeline → ℕ → Option PlainBox → PlainPipeline
with_box s c box = record s { boxes = set s.boxes c box }

abbrev pub with_slot : PlainPipeline → ℕ → Option PlainFlight → PlainPipeline
with_slot s x f = record s { slots = set s.slots x f }

-- ---- beginnings

-- these numbers in the registers, and nothing under way for so many clients
abbrev pub idle_pipeline : Shape → Places → ℕ → ℕ → PlainPipeline
idle_pipeline shape registers clients next = record {
  shape = shape;
  registers = registers;
  slots = replicate shape.stages None;
  waiting = replicate clients None;
  boxes = replicate clients None;
  halves = None ∷ None ∷ [];
  next = next;
}

-- the registers are as in this map, 0 where it has none, and the next number is 1
abbrev pub fresh_pipeline : Shape → Places → ℕ → PlainPipeline
fresh_pipeline shape first clients = idle_pipeline shape (numbers_of shape (register_at first)) clients 1

-- registers 0, everything else empty, next number 1
abbrev pub erased : PlainPipeline → PlainPipeline
erased s = idle_pipeline s.shape (numbers_of s.shape (λ _. pos 0)) (length s.waiting) 1

-- the registers are as in this map, 0 where it has none, and so is the next number
abbrev pub restored : PlainPipeline → Places → ℕ → PlainPipeline
restored s first next = record s { registers = numbers_of s.shape (register_at first); next = next }

-- ---- posting

-- a packet as it waits for its first pass
abbrev pub posted_flight : PlainPacket → PlainFlight
posted_flight p = record { packet = p; pairs = map (λ op. zero_pair) p.ops; pass = 1; number = 0 }

-- the client's packet waits at the port
abbrev pub posted : PlainPipeline → ℕ → PlainPacket → PlainPipeline
posted s c p = with_waiting s c (Some (posted_flight p))

-- ---- entering: slot 0 gets the packet

-- the number behind this one; the last of 64 bits is followed by 0
abbrev pub number_behind : ℕ → ℕ
number_behind n = (n + 1) % 2 ^ 64

-- slot 0 is there and empty
abbrev pub has_free_first_slot : PlainPipeline → Bool
has_free_first_slot s = nat_lt 0 (length s.slots) && is_none (in_slot s 0)

-- the first entry: the packet gets the next number, and with two or more passes the halves that it touches
abbrev pub first_entry : PlainPipeline → ℕ → PlainFlight → PlainPipeline
first_entry s c f = record {
  shape = s.shape;
  registers = s.registers;
  slots = set s.slots 0 (Some (record { packet = f.packet; pairs = f.pairs; pass = f.pass; number = s.next }));
  waiting = set s.waiting c None;
  boxes = s.boxes;
  halves = if nat_le 2 f.packet.passes then given f.packet.halves c s.halves else s.halves;
  next = number_behind s.next;
}

-- a later entry: for its last pass the packet gives its halves back
abbrev pub later_entry : PlainPipeline → ℕ → PlainFlight → PlainPipeline
later_entry s c f = record {
  shape = s.shape;
  registers = s.registers;
  slots = set s.slots 0 (Some f);
  waiting = set s.waiting c None;
  boxes = s.boxes;
  halves = if f.pass == f.packet.passes then without c s.halves else s.halves;
  next = s.next;
}

-- for the first pass all halves that the packet touches must be free
abbrev pub first_entered : PlainPipeline → ℕ → PlainFlight → Option PlainPipeline
first_entered s c f = if is_none (first_held f.packet.halves s.halves) then Some (first_entry s c f) else None

-- the entry for the pass that the packet waits for
abbrev pub entered_for : PlainPipeline → ℕ → PlainFlight → Option PlainPipeline
entered_for s c f = if f.pass == 1 then first_entered s c f else Some (later_entry s c f)

abbrev pub entered_from : PlainPipeline → ℕ → Option PlainFlight → Option PlainPipeline
entered_from s c None = None
entered_from s c (Some f) = if has_free_first_slot s then entered_for s c f else None

-- the packet of client c enters; None where none waits, slot 0 is taken, or a half that it touches is held
abbrev pub entered : PlainPipeline → ℕ → Option PlainPipeline
entered s c = entered_from s c (waiting_of s c)

-- ---- advancing: the packet in a slot leaves it where it is the last stage or the next slot is empty

-- slot x can be left
abbrev pub may_leave : PlainPipeline → ℕ → Bool
may_leave s x = (x + 1 == s.shape.stages) || is_none (in_slot s (x + 1))

-- the packet's operations of this pass at stage x, executed
abbrev pub executed_at : PlainPipeline → ℕ → PlainFlight → Replayed
executed_at s x f = execute (is_due f.pass x) f.packet.ops [] f.pairs s.registers

-- behind the last stage: it waits for its next pass, or becomes the answer
abbrev pub come_through : PlainPipeline → PlainFlight → PlainPipeline
come_through s f =
    if nat_lt f.pass f.packet.passes
    then with_waiting s f.packet.client (Some (record { packet = f.packet; pairs = f.pairs; pass = f.pass + 1; number = f.number }))
    else with_box s f.packet.client (Some (record { number = f.number; pairs = f.pairs }))

-- the packet, which has left slot x, goes on
abbrev pub gone_on : PlainPipeline → ℕ → PlainFlight → PlainPipeline
gone_on s x f = if x + 1 == s.shape.stages then come_through s f else with_slot s (x + 1) (Some f)

abbrev pub left_slot : PlainPipeline → ℕ → PlainFlight → PlainPipeline
left_slot s x f =
    let done = executed_at s x f in
    gone_on (record s { registers = done.after; slots = set s.slots x None }) x (record { packet = f.packet; pairs = done.pairs; pass = f.pass; number = f.number })

abbrev pub advanced_from : PlainPipeline → ℕ → Option PlainFlight → Option PlainPipeline
advanced_from s x None = None
advanced_from s x (Some f) = if may_leave s x then Some (left_slot s x f) else None

-- the packet in the slot of stage x goes on; None where there is none, or the next slot is taken
abbrev pub advanced : PlainPipeline → ℕ → Option PlainPipeline
advanced s x = advanced_from s x (in_slot s x)

-- ---- answers

abbrev pub dropped : PlainPipeline → ℕ → PlainPipeline
dropped s c = with_box s c None

abbrev pub given_answer : PlainPipeline → ℕ → ℕ → List Pair → PlainPipeline
given_answer s c number pairs = with_box s c (Some (record { number = number; pairs = pairs }))

-- ---- what is answered

-- the step is the one that is made, and Idle exactly where there is none: then nothing changed
abbrev pub IsStep : Option PlainPipeline → (before now : PlainPipeline) → Step → Type 0
IsStep made before now Moved = made ≡ Some now
IsStep made before now Idle = (made ≡ None) × (now ≡ before)
