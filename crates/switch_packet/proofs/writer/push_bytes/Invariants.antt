use Rattle.std.proofs.Common.{take}
use Rattle.switch_packet.specs.Writing.{Adds}
use Rattle.switch_packet.proofs.writer.push_bytes.Given as goal

abbrev pub invariant-loop-byte : goal.invariant-loop-byte
invariant-loop-byte l = Adds l.fn.to l.to (take l.byte-index l.bytes)
