use Rattle.std.proofs.Common.{◌≡◌, ◌<◌, ℕ, Some, true, slice_get}
use Rattle.std.specs.BTreeSet as set
use Rattle.switch_packet.specs.declared.packet.PacketOp.{PacketOp}
use Rattle.txn_model.specs.Places.{place_cmp}
use Rattle.gap_placement.specs.Near.{StayIn}
use Rattle.gap_placement.proofs.near.add_places.Given as goal

abbrev pub invariant-loop-i : goal.invariant-loop-i
invariant-loop-i l = record {
  kept : StayIn l.fn.to l.to;
  added : (k : ℕ) (op : PacketOp) → k < l.i → slice_get l.packet.ops.items k ≡ Some op → set.contains place_cmp l.to op.place ≡ true;
}
