use Rattle.std.proofs.Common.{◌≡◌, List, ℕ, Ok, ap, subst, ◌∙◌, arith}
use Rattle.switch_packet.specs.Packets.{plain}
use Rattle.switch_packet.specs.Ranges.{IsPacket}
use Rattle.switch_packet.specs.PacketText.{packet_text}
use Rattle.switch_packet.specs.Reading.{Cursor, start}
use Rattle.switch_packet.specs.PacketReading.{packet_at}
use Rattle.switch_packet.proofs.Codecs.{cursor}
use Rattle.switch_packet.proofs.PacketCodecs.{packet_codec}
use Rattle.switch_packet.proofs.Exactness.{found}
use Rattle.switch_packet.proofs.decode.decode.Goals as goal

pub returns-clause-exact : goal.returns-clause-exact
returns-clause-exact c =
    let to = plain c.read_packet.new.to in
    let reader = c.read_packet.new.reader in
    let bytes = c.args.bytes.now in
    let read : packet_at (start bytes) ≡ Ok (to, reader) = subst (λ (from : Cursor). packet_at from ≡ Ok (to, reader)) c.new-reader.ensures c.in_ok-read_packet.ensures.value in
    let f = found packet_text IsPacket packet_at packet_codec bytes to reader (λ i. omega (arith, c.type_inv.bytes i)) read in
    rw c.place.ensures (read ∙ ap (λ (left : List ℕ). Ok (to, cursor reader.at left)) f.3)
