-- What decoding answers, from what reading gives.
use Rattle.std.proofs.Common.{◌≡◌, ℕ, ◌≤◌, ◌↔◌, List, ◌++◌, length, take, drop, Result, Ok, Err, IfOk, sym, ap, ◌∙◌}
use Rattle.switch_packet.specs.declared.fault.PacketFault.{PacketFault}
use Rattle.switch_packet.specs.declared.fault.PacketFault.TheVariants.{Short, BadByte}
use Rattle.switch_packet.specs.Packets.{PlainPacket}
use Rattle.switch_packet.specs.Ranges.{IsPacket}
use Rattle.switch_packet.specs.PacketText.{packet_text}
use Rattle.switch_packet.specs.Fronts.{IsFront, IsBadAt}
use Rattle.switch_packet.specs.Reading.{Cursor, start}
use Rattle.switch_packet.specs.PacketReading.{packet_at, Decodes}
use Rattle.switch_packet.proofs.Codecs.{IsBytes, cursor, ok_is}
use Rattle.switch_packet.proofs.PacketCodecs.{packet_codec}
use Rattle.switch_packet.proofs.Exactness.{found, only, short, short_only, bad, bad_only}

module _ (to : PlainPacket) (bytes : List ℕ) (fits : IsBytes bytes) where
  pub decoded_found : (r : Result ℕ PacketFault) → Decodes to bytes r (packet_at (start bytes)) → IfOk r (λ n. IsPacket to × (n ≤ length bytes) × (take n bytes ≡ packet_text to))
  decoded_found (Ok n) read = let f = found packet_text IsPacket packet_at packet_codec bytes to (cursor n (drop n bytes)) fits read in (f.0, f.1, f.2)
  decoded_found (Err e) read = tt

  pub decoded_only : (r : Result ℕ PacketFault) → Decodes to bytes r (packet_at (start bytes)) → (p : PlainPacket) (rest : List ℕ) → IsPacket p → bytes ≡ packet_text p ++ rest → (r ≡ Ok (length (packet_text p))) × (to ≡ p)
  decoded_only (Ok n) read p rest v e =
      let made : PlainPacket × Cursor = (to, cursor n (drop n bytes)) in
      let want : PlainPacket × Cursor = (p, cursor (length (packet_text p)) rest) in
      let same = ok_is made want (sym read ∙ only packet_text IsPacket packet_at packet_codec bytes p rest v e) in
      (ap (λ (q : PlainPacket × Cursor). Ok q.1.at) same, ap (λ (q : PlainPacket × Cursor). q.0) same)
  decoded_only (Err f) read p rest v e = cc (sym read ∙ only packet_text IsPacket packet_at packet_codec bytes p rest v e)

  pub decoded_short : (r : Result ℕ PacketFault) → Decodes to bytes r (packet_at (start bytes)) → (r ≡ Err Short) ↔ IsFront packet_text IsPacket bytes
  decoded_short (Ok n) read = (λ e. absurd cc, λ f. cc (sym read ∙ short_only packet_text IsPacket packet_at packet_codec bytes fits f))
  decoded_short (Err g) read = (
    λ e. short packet_text IsPacket packet_at packet_codec bytes fits (let same : g ≡ Short = cc in rw (← same) read),
    λ f. let same = sym read ∙ short_only packet_text IsPacket packet_at packet_codec bytes fits f in cc,
  )

  pub decoded_bad : (r : Result ℕ PacketFault) → Decodes to bytes r (packet_at (start bytes)) → (place : ℕ) → (r ≡ Err (BadByte place)) ↔ IsBadAt packet_text IsPacket bytes place
  decoded_bad (Ok n) read place = (λ e. absurd cc, λ b. cc (sym read ∙ bad_only packet_text IsPacket packet_at packet_codec bytes place fits b))
  decoded_bad (Err g) read place = (
    λ e. bad packet_text IsPacket packet_at packet_codec bytes place fits (let same : g ≡ BadByte place = cc in rw (← same) read),
    λ b. let same = sym read ∙ bad_only packet_text IsPacket packet_at packet_codec bytes place fits b in cc,
  )
