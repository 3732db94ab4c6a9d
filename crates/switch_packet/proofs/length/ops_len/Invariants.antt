use Rattle.std.proofs.Common.{◌≡◌, ◌≤◌, ◌*◌, take, length}
use Rattle.std.specs.List.{flat_map}
use Rattle.switch_packet.specs.PacketText.{op_text}
use Rattle.switch_packet.proofs.length.ops_len.Given as goal

abbrev pub invariant-loop-op : goal.invariant-loop-op
invariant-loop-op l = (l.len ≡ length (flat_map op_text (take l.op-index l.ops))) × (l.len ≤ 48 * l.op-index)
