-- What holds of the switch between any two events.
use Rattle.std.proofs.Common.{◌≡◌, ◌⊎◌, ℕ, ◌+◌, ◌<◌, ◌≤◌, true, List, length, get_or, slice_get, Some}
use Rattle.std.specs.FinMap as fin
use Rattle.txn_model.specs.Places.{Places}
use Rattle.txn_model.specs.Serial.{pair_at}
use Rattle.txn_model.specs.declared.place.Place.{Place}
use Rattle.stage_layout.specs.declared.shape.Shape.{Shape}
use Rattle.switch_packet.specs.declared.packet.PacketOp.{PacketOp}
use Rattle.switch_packet.specs.Packets.{PlainPacket, blank_packet}
use Rattle.switch_model.specs.Fitting.{FitsSwitch}
use Rattle.switch_model.specs.Flight.{Flight, flight_at, packet_touches}
use Rattle.switch_model.specs.Switch.{Switch, Posted, Entered, desk_at, entered}
use Rattle.switch_model.proofs.Before.{before, pairs_of}

-- ---- where packets are

-- a packet's pass and depth: in its first pass it stands in a slot, and when it is done in none
pub record Spot (shape : Shape) (f : Flight) : Type 0 where
  pub from_one : 1 ≤ f.pass
  pub to_done : f.pass ≤ f.packet.passes + 1
  pub deepest : f.depth ≤ shape.stages
  pub first : f.pass ≡ 1 → 1 ≤ f.depth
  pub done : f.packet.passes < f.pass → f.depth ≡ 0

-- the first is in its last pass, and the second in its first one behind it
pub record IsLastBefore (f g : Flight) : Type 0 where
  pub last : f.pass ≡ f.packet.passes
  pub first : g.pass ≡ 1
  pub deeper : g.depth < f.depth

abbrev pub IsAhead : Flight → Flight → Type 0
IsAhead f g = (f.packet.passes < f.pass) ⊎ IsLastBefore f g

-- two packets touch the region
pub record Meet (shape : Shape) (region : ℕ) (f g : Flight) : Type 0 where
  pub first : packet_touches shape f.packet region ≡ true
  pub second : packet_touches shape g.packet region ≡ true

-- of n packets
pub record Positions (shape : Shape) (n : ℕ) (at : ℕ → Flight) : Type 0 where
  pub spot : (i : ℕ) → i < n → Spot shape (at i)
  pub order : (i j region : ℕ) → i < j → j < n → Meet shape region (at i) (at j) → IsAhead (at i) (at j)
  pub firsts : (i j : ℕ) → i < j → j < n → (at i).pass ≡ 1 → (at j).pass ≡ 1 → (at j).depth < (at i).depth
  pub single : (i j : ℕ) → i < j → j < n → 1 ≤ (at i).depth → (at i).depth ≡ (at j).depth → ⊥

-- ---- what was executed

-- in an earlier pass, or in this one at a stage behind the packet
abbrev pub IsExecuted : Flight → PacketOp → Type 0
IsExecuted f op = (op.pass < f.pass) ⊎ ((op.pass ≡ f.pass) × (op.place.stage + 1 < f.depth))

-- the operations on the place that were executed are those of the first packets, and the register is what these leave
pub record Counted (first registers : Places) (packets : List PlainPacket) (at : ℕ → Flight) (place : Place) : Type 0 where
  pub count : ℕ
  pub small : count ≤ length packets
  pub within : (j i : ℕ) (op : PacketOp) → j < count → slice_get (get_or packets j blank_packet).ops i ≡ Some op → op.place ≡ place → IsExecuted (at j) op
  pub beyond : (j i : ℕ) (op : PacketOp) → count ≤ j → slice_get (get_or packets j blank_packet).ops i ≡ Some op → op.place ≡ place → IsExecuted (at j) op → ⊥
  pub number : fin.get registers place ≡ fin.get (before packets first count) place

pub record Values (shape : Shape) (first registers : Places) (packets : List PlainPacket) (at : ℕ → Flight) : Type 0 where
  pub packet : (k : ℕ) → (at k).packet ≡ get_or packets k blank_packet
  pub fits : (k : ℕ) → k < length packets → FitsSwitch shape (get_or packets k blank_packet)
  pub size : (k : ℕ) → length (at k).pairs ≡ length (get_or packets k blank_packet).ops
  pub pairs : (k i : ℕ) (op : PacketOp) → slice_get (get_or packets k blank_packet).ops i ≡ Some op → IsExecuted (at k) op → pair_at (at k).pairs i ≡ pair_at (pairs_of packets first k) i
  pub counted : (place : Place) → Counted first registers packets at place

-- ---- what clients have under way

pub record Desks (shape : Shape) (s : Switch) : Type 0 where
  pub posted : (c : ℕ) (p : PlainPacket) → desk_at s c ≡ Posted p → FitsSwitch shape p × (p.client ≡ c)
  pub entered : (c k : ℕ) → desk_at s c ≡ Entered k → (k < length s.flights) × ((flight_at s.flights k).packet.client ≡ c)
  -- a packet that isn't done is on its client's desk
  pub under_way : (k : ℕ) → k < length s.flights → (flight_at s.flights k).pass ≤ (flight_at s.flights k).packet.passes → desk_at s (flight_at s.flights k).packet.client ≡ Entered k

pub record Holds (shape : Shape) (first : Places) (s : Switch) : Type 0 where
  pub stages : 1 ≤ shape.stages
  pub positions : Positions shape (length s.flights) (flight_at s.flights)
  pub values : Values shape first s.registers (entered s) (flight_at s.flights)
  pub desks : Desks shape s
