use Rattle.std.proofs.Common.{drop}
use Rattle.std.specs.List.{flat_map, AllByRecursion}
use Rattle.switch_packet.specs.Ranges.{OpIsTyped}
use Rattle.switch_packet.specs.PacketText.{op_text}
use Rattle.switch_packet.proofs.WritingLaws.{IsAdding}
use Rattle.switch_packet.proofs.encode.push_ops.Given as goal

abbrev pub invariant-loop-op : goal.invariant-loop-op
invariant-loop-op l =
    IsAdding l.fn.to l.to (flat_map op_text (drop l.op-index l.ops)) (flat_map op_text l.ops)
    × (AllByRecursion OpIsTyped (drop l.op-index l.ops) → AllByRecursion OpIsTyped l.ops)
