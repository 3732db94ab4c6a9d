use Rattle.std.proofs.Common.{◌≡◌, ◌==◌, ℕ, List, drop, length, ap, sym, ◌∙◌}
use Rattle.std.specs.List.{list_any}
use Rattle.std.proofs.lemmas.List.{length-map, take_rest}
use Rattle.switch_packet.specs.Packets.{PlainIntent, plain_outcome}
use Rattle.switch_packet.specs.declared.record.Intent.{Intent}
use Rattle.fabric_core.proofs.Recoveries.{seen_among}
use Rattle.fabric_core.proofs.recovery.awaits.Goals as goal

pub returns : goal.returns
returns c =
    let seq = c.args.seq in
    let xs = c.intents.result.now in
    let n = length c.outcomes.result.now in
    let many : n ≡ length c.args.log.now.outcomes = sym (length-map c.outcomes.result.now plain_outcome) ∙ ap length c.outcomes.ensures in
    c.is_among.ensures ∙ ap (list_any {X = Intent} (λ i. i.packet.seq == seq)) (take_rest xs n) ∙ sym (seen_among seq n xs) ∙ ap (λ (l : List PlainIntent). list_any (λ i. i.packet.seq == seq) (drop n l)) c.intents.ensures
    ∙ ap (λ (k : ℕ). list_any (λ i. i.packet.seq == seq) (drop k c.args.log.now.intents)) many
