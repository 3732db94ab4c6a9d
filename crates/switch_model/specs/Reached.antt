-- States that fitting events reach.
use Rattle.std.specs.Prelude.{◌≡◌, ℕ, ◌≤◌, ◌<◌, List, length, slice_index_or, Some, ⊤}
use Rattle.std.specs.List.{AllByRecursion}
use Rattle.txn_model.specs.Places.{Places}
use Rattle.stage_layout.specs.declared.shape.Shape.{Shape}
use Rattle.switch_packet.specs.Packets.{PlainPacket, blank_packet}
use Rattle.switch_model.specs.Switch.{Switch, Desk, Vacant, Posted, Entered, restored}
use Rattle.switch_model.specs.Event.{Event, Post, Enter, Advance, Take, step}
use Rattle.switch_model.specs.Fitting.{FitsSwitch}

-- a packet that is posted fits the switch, and is its client's
abbrev pub FitsEvent : Shape → Event → Type 0
FitsEvent shape (Post c p) = FitsSwitch shape p × (p.client ≡ c)
FitsEvent shape (Enter c) = ⊤
FitsEvent shape (Advance x) = ⊤
FitsEvent shape (Take c) = ⊤

-- a client's desk, where these packets have entered: a packet that it posted, or the one of them that is named, fits and is
-- its own
abbrev pub FitsDesk : Shape → List PlainPacket → ℕ → Desk → Type 0
FitsDesk shape packets c Vacant = ⊤
FitsDesk shape packets c (Posted p) = FitsSwitch shape p × (p.client ≡ c)
FitsDesk shape packets c (Entered k) = (k < length packets) × ((slice_index_or packets k blank_packet).client ≡ c)

-- a state to begin with: packets that fit were executed whole
pub record IsStart (shape : Shape) (first : Places) (s : Switch) : Type 0 where
  pub packets : List PlainPacket
  pub desks : List Desk
  pub is : s ≡ restored first packets desks
  pub stages : 1 ≤ shape.stages
  pub fit : AllByRecursion (FitsSwitch shape) packets
  pub own : (c : ℕ) → FitsDesk shape packets c (slice_index_or desks c Vacant)

-- a state that fitting events make of one to begin with
pub data IsReached (shape : Shape) (first : Places) : Switch → Type 0 where
  Starts : (s : Switch) → IsStart shape first s → IsReached shape first s
  GoesOn : (s next : Switch) (event : Event) → IsReached shape first s → FitsEvent shape event → step shape s event ≡ Some next → IsReached shape first next
