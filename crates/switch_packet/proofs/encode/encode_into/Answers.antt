use Rattle.std.proofs.Common.{refl}
use Rattle.switch_packet.specs.PacketText.{packet_text}
use Rattle.switch_packet.proofs.WritingLaws.{Adds-then, Adds-as}
use Rattle.switch_packet.proofs.encode.encode_into.Goals as goal

pub returns-clause-added : goal.returns-clause-added
unfolding packet_text
returns-clause-added c =
    Adds-as (rw (c.as_slice.ensures, c.len-count.ensures) refl)
    (Adds-then (Adds-then (Adds-then c.push_bytes.ensures c.push_u32.ensures) c.push_bytes-2.ensures) c.push_ops.ensures.added)
