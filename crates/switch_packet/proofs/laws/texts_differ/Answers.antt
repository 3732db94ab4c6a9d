use Rattle.switch_packet.specs.Ranges.{IsPacket}
use Rattle.switch_packet.specs.PacketText.{packet_text}
use Rattle.switch_packet.specs.PacketReading.{packet_at}
use Rattle.switch_packet.proofs.PacketCodecs.{packet_codec}
use Rattle.switch_packet.proofs.Exactness.{texts_differ}
use Rattle.switch_packet.proofs.laws.texts_differ.Goals as goal

pub returns : goal.returns
returns c = texts_differ packet_text IsPacket packet_at packet_codec
