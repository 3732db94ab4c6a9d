-- What the pipeline's fields keep.
use Rattle.std.specs.Prelude.{◌≡◌, ℕ, ◌≤◌, ◌<◌, Bool, false, List, length, slice_index_or, Option, Some, None, is_some, IsTrue}
use Rattle.std.specs.FinMap as fin
use Rattle.std.specs.List.{list_any, AllByRecursion}
use Rattle.txn_model.specs.declared.place.Place.{Place}
use Rattle.stage_layout.specs.Shape.{has_place}
use Rattle.stage_layout.specs.declared.shape.Shape.{Shape}
use Rattle.switch_packet.specs.Packets.{plain, room_of}
use Rattle.switch_packet.specs.Ranges.{Fits}
use Rattle.switch_packet.specs.declared.packet.PacketOp.{PacketOp}
use Rattle.switch_model.specs.Flight.{is_due}
use Rattle.register_stage.specs.Registers.{Registers, is_inside}
use Rattle.register_stage.specs.declared.flight.Flight.{Flight}
use Rattle.pipeline.specs.Seats.{seat_at, stage_at}
use Rattle.pipeline.specs.declared.seat.Seat.{Seat}
use Rattle.pipeline.specs.declared.seat.Spot.TheVariants.{AtPort, InSlot}

-- the packet is one of client c in this switch, in one of its passes, with a pair for each operation
pub record IsOnItsWay (shape : Shape) (c : ℕ) (f : Flight) : Type 0 where
  pub own : f.packet.client ≡ c
  pub fits : Fits (plain f.packet)
  pub places : AllByRecursion (λ op. IsTrue (has_place shape op.place)) f.packet.ops.items
  pub from_one : 1 ≤ f.pass
  pub to_last : f.pass ≤ f.packet.passes
  pub paired : length f.pairs.items ≡ length f.packet.ops.items

-- the marks say at which stages operations are due in the pass
abbrev pub AreMarks : List PacketOp → ℕ → List Bool → Type 0
AreMarks ops pass due = (x : ℕ) → slice_index_or due x false ≡ list_any (is_due pass x) ops

-- client c's packet stands in the slot of stage x
pub record IsStanding (shape : Shape) (slots : List (Option ℕ)) (c x : ℕ) (seat : Seat) : Type 0 where
  pub way : IsOnItsWay shape c seat.flight
  pub due : AreMarks seat.flight.packet.ops.items seat.flight.pass seat.due
  pub slot : slice_index_or slots x None ≡ Some c

-- client c's seat
pub record IsSeat (shape : Shape) (slots : List (Option ℕ)) (c : ℕ) (seat : Seat) : Type 0 where
  pub ops_room : 16 ≤ room_of seat.flight.packet.ops
  pub pairs_room : 16 ≤ room_of seat.flight.pairs
  pub waits : seat.spot ≡ AtPort → IsOnItsWay shape c seat.flight
  pub stands : (x : ℕ) → seat.spot ≡ InSlot x → IsStanding shape slots c x seat

-- client c stands in the slot of stage x
pub record IsSlotted (seats : List Seat) (c x : ℕ) : Type 0 where
  pub there : c < length seats
  pub spot : (seat_at seats c).spot ≡ InSlot x

-- stage x has a number at each of its places
pub record IsStage (shape : Shape) (x : ℕ) (stage : Registers) : Type 0 where
  pub is : stage.stage ≡ x
  pub inside : (q : Place) → is_some (fin.get stage.numbers q) ≡ is_inside x shape.arrays shape.cells q

-- all stages of the switch
pub record AreStages (shape : Shape) (stages : List Registers) : Type 0 where
  pub count : length stages ≡ shape.stages
  pub each : (x : ℕ) → x < shape.stages → IsStage shape x (stage_at stages x)

-- slots and seats name each other
pub record AreSeated (shape : Shape) (slots : List (Option ℕ)) (seats : List Seat) : Type 0 where
  pub count : length slots ≡ shape.stages
  pub slot : (x c : ℕ) → slice_index_or slots x None ≡ Some c → IsSlotted seats c x
  pub seat : (c : ℕ) → c < length seats → IsSeat shape slots c (seat_at seats c)

pub record Keeps (shape : Shape) (registers : List Registers) (slots : List (Option ℕ)) (seats : List Seat) : Type 0 where
  pub stages : AreStages shape registers
  pub seated : AreSeated shape slots seats
