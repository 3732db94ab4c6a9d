use Rattle.std.proofs.Common.{arith}
use Rattle.switch_packet.specs.Packets.{plain}
use Rattle.switch_packet.specs.PacketText.{packet_text}
use Rattle.switch_packet.proofs.LengthLaws.{length-packet_text-le}
use Rattle.switch_packet.proofs.length.packet_len.Goals as goal

pub returns-clause-bound : goal.returns-clause-bound
unfolding packet_text
returns-clause-bound c =
    let ops = rw c.as_slice.ensures at c.ops_len.ensures.value in
    omega (arith, length-packet_text-le (plain c.args.packet.now) c.requires)
