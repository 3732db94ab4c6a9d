-- What a packet must be like for the switch to execute it as a whole: which passes and places its operations have.
use Rattle.std.specs.Prelude.{◌≡◌, ℕ, ◌<◌, ◌≤◌, true, Some, slice_get}
use Rattle.std.specs.List.{AllByRecursion}
use Rattle.txn_model.specs.Needs.{needs_list}
use Rattle.stage_layout.specs.declared.shape.Shape.{Shape}
use Rattle.stage_layout.specs.Passes.{ComesBefore}
use Rattle.stage_layout.specs.Regions.{halves_of}
use Rattle.stage_layout.specs.Shape.{has_place}
use Rattle.switch_packet.specs.declared.packet.PacketOp.{PacketOp}
use Rattle.switch_packet.specs.Packets.{PlainPacket}
use Rattle.switch_packet.specs.Replay.{PlacesDiffer}
use Rattle.switch_model.specs.Flight.{places_of}

-- the operation's pass is one of the packet's, and its stage one of the switch's
pub record IsWithin (shape : Shape) (p : PlainPacket) (op : PacketOp) : Type 0 where
  pub from_one : 1 ≤ op.pass
  pub to_last : op.pass ≤ p.passes
  pub stage : op.place.stage < shape.stages

-- what operation i needs is an earlier operation, which is executed before it: in an earlier pass, or in the same one at an
-- earlier stage
pub record IsMet (p : PlainPacket) (i : ℕ) (op : PacketOp) (from : ℕ) : Type 0 where
  pub earlier : from < i
  pub before : (other : PacketOp) → slice_get p.ops from ≡ Some other → ComesBefore (record { pass = other.pass; place = other.place }) op.pass op.place.stage

-- the packet fits a switch of this shape
pub record FitsSwitch (shape : Shape) (p : PlainPacket) : Type 0 where
  pub passes : 1 ≤ p.passes
  pub within : (i : ℕ) (op : PacketOp) → slice_get p.ops i ≡ Some op → IsWithin shape p op
  pub needs : (i : ℕ) (op : PacketOp) → slice_get p.ops i ≡ Some op → AllByRecursion (λ need. IsMet p i op need.from) (needs_list op.needs)
  pub apart : PlacesDiffer p.ops

-- the packet is one that was planned for a switch of this shape: it fits, says which halves it touches, and names places that
-- there are
pub record IsPlanned (shape : Shape) (p : PlainPacket) : Type 0 where
  pub fits : FitsSwitch shape p
  pub halves : p.halves ≡ halves_of shape (places_of p)
  pub places : (i : ℕ) (op : PacketOp) → slice_get p.ops i ≡ Some op → has_place shape op.place ≡ true
