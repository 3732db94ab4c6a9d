-- What is seen of a state of the switch's model, as a pipeline shows it.
use Rattle.std.specs.Prelude.{ℕ, ◌+◌, List, [], ◌∷◌, map, length, Option, Some, None, option_map, if◌then◌else◌}
use Rattle.std.specs.List.{position, range_with_len}
use Rattle.stage_layout.specs.declared.shape.Shape.{Shape}
use Rattle.switch_packet.specs.Replay.{register_at}
use Rattle.switch_model.specs.Flight.{Flight, flight_at, is_waiting, is_in_slot, holds}
use Rattle.switch_model.specs.Switch.{Switch, Desk, Vacant, Posted, Entered, Answer, answer_on}
use Rattle.pipeline.specs.Numbers.{numbers_of}
use Rattle.pipeline.specs.Plain.{PlainFlight, PlainBox, PlainPipeline}
use Rattle.pipeline.specs.Rows.{posted_flight}

-- the packet that entered as number k + 1
abbrev pub seen_flight : List Flight → ℕ → PlainFlight
seen_flight flights k = let f = flight_at flights k in record { packet = f.packet; pairs = f.pairs; pass = f.pass; number = k + 1 }

-- the packet in slot x
abbrev pub slot_of : List Flight → ℕ → Option PlainFlight
slot_of flights x = option_map (seen_flight flights) (position (is_in_slot x) flights)

-- the packet that waits at the port, for its first pass or for a later one
abbrev pub waiting_on : List Flight → Desk → Option PlainFlight
waiting_on flights Vacant = None
waiting_on flights (Posted p) = Some (posted_flight p)
waiting_on flights (Entered k) = if is_waiting (flight_at flights k) then Some (seen_flight flights k) else None

-- an answer in a box
abbrev pub boxed : Answer → PlainBox
boxed answer = record { number = answer.number; pairs = answer.pairs }

abbrev pub box_on : List Flight → Desk → Option PlainBox
box_on flights desk = option_map boxed (answer_on flights desk)

-- the client whose packet holds the region
abbrev pub holder_of : Shape → List Flight → ℕ → Option ℕ
holder_of shape flights region = option_map (λ k. (flight_at flights k).packet.client) (position (holds shape region) flights)

-- a slot for each stage, and for each client what waits at the port and what is in its box
unfoldable pub seen_of : Shape → Switch → PlainPipeline
seen_of shape s = record {
  shape = shape;
  registers = numbers_of shape (register_at s.registers);
  slots = map (slot_of s.flights) (range_with_len 0 shape.stages);
  waiting = map (waiting_on s.flights) s.desks;
  boxes = map (box_on s.flights) s.desks;
  halves = holder_of shape s.flights 0 ∷ holder_of shape s.flights 1 ∷ [];
  next = length s.flights + 1;
}
