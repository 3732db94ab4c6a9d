use Rattle.std.proofs.Common.{◌≡◌, ◌+◌, ◌-◌, length}
use Rattle.switch_packet.specs.Reading.{each_at}
use Rattle.switch_packet.specs.PacketReading.{op_at}
use Rattle.switch_packet.proofs.Loops.{with_front}
use Rattle.switch_packet.proofs.decode.read_ops.Given as goal

abbrev pub invariant-loop-number : goal.invariant-loop-number
invariant-loop-number l =
    (with_front l.to.items (each_at (op_at l.passes) l.number (l.count - l.number) l.reader) ≡ each_at (op_at l.passes) 0 l.count l.fn.reader)
    × (length l.to.items ≡ l.number) × (length l.to.items + l.to.spare ≡ l.fn.to.spare)
