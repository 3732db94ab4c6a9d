use Rattle.std.proofs.Common.{[], sym, ◌∙◌, append-nil}
use Rattle.switch_packet.specs.PacketText.{packet_text}
use Rattle.pipeline.proofs.seat.Seat.post.Goals as goal

pub returns-clause-packet : goal.returns-clause-packet
returns-clause-packet c packet is text = (c.decode_into.ensures.only packet [] is (text ∙ sym (append-nil (packet_text packet)))).1
