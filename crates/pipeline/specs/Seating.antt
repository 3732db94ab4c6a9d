-- How a seat changes.
use Rattle.std.specs.Prelude.{◌≡◌, ℕ, pos, ◌+◌, ◌≤◌, ◌<◌, List, length, nat_lt, slice_index_or, Option, None, if◌then◌else◌}
use Rattle.stage_layout.specs.declared.shape.Shape.{Shape}
use Rattle.switch_packet.specs.PacketText.{packet_text}
use Rattle.switch_packet.specs.Packets.{PlainPacket, room_of}
use Rattle.switch_packet.specs.Ranges.{IsPacket}
use Rattle.register_stage.specs.Registers.{Registers, full_map}
use Rattle.register_stage.specs.declared.flight.Flight.{Flight}
use Rattle.pipeline.specs.Seats.{seat_at, stage_at}
use Rattle.pipeline.specs.declared.seat.Seat.{Seat}
use Rattle.pipeline.specs.declared.seat.Spot.{Spot}
use Rattle.pipeline.specs.declared.seat.Spot.TheVariants.{Vacant, AtPort, InBox}

-- there is room for 16 operations and their pairs
pub record HasRoom (seat : Seat) : Type 0 where
  pub ops : 16 ≤ room_of seat.flight.packet.ops
  pub pairs : 16 ≤ room_of seat.flight.pairs

-- the bytes are a packet's text
pub record IsText (bytes : List ℕ) : Type 0 where
  pub packet : PlainPacket
  pub is_packet : IsPacket packet
  pub text : bytes ≡ packet_text packet

-- behind the last stage a packet waits for its next pass, or has become the answer
abbrev pub come_through_spot : Flight → Spot
come_through_spot f = if nat_lt f.pass f.packet.passes then AtPort else InBox

abbrev pub come_through_pass : Flight → ℕ
come_through_pass f = if nat_lt f.pass f.packet.passes then f.pass + 1 else f.pass

-- the seat with nothing under way
abbrev pub vacated : Seat → Seat
vacated seat = record { spot = Vacant; flight = seat.flight; due = seat.due }

-- there is nothing under way, and room for a packet
pub record IsFree (seat : Seat) : Type 0 where
  pub spot : seat.spot ≡ Vacant
  pub room : HasRoom seat

-- so many seats, all of them free
pub record AreVacant (clients : ℕ) (seats : List Seat) : Type 0 where
  pub count : length seats ≡ clients
  pub each : (c : ℕ) → c < clients → IsFree (seat_at seats c)

-- the first so many stages of the switch, with 0 at each place
pub record AreFresh (shape : Shape) (count : ℕ) (stages : List Registers) : Type 0 where
  pub size : length stages ≡ count
  pub each : (x : ℕ) → x < count → stage_at stages x ≡ record { stage = x; numbers = full_map x (λ _. pos 0) shape.arrays shape.cells }

-- so many slots, all of them empty
pub record AreEmpty (count : ℕ) (slots : List (Option ℕ)) : Type 0 where
  pub size : length slots ≡ count
  pub each : (x : ℕ) → slice_index_or slots x None ≡ None
