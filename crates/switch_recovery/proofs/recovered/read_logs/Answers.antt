use Rattle.std.proofs.Common.{ℕ, List, length, map, sym, ap, subst, ◌∙◌, arith}
use Rattle.std.specs.Prelude.{Option}
use Rattle.std.proofs.lemmas.List.{length-map, length_push}
use Rattle.port_io.proofs.Causes.{ok_is_no_failure}
use Rattle.switch_packet.specs.Packets.{plain_log}
use Rattle.switch_packet.specs.declared.record.LogView.{LogView}
use Rattle.intent_log.specs.Grammar.{IsLog}
use Rattle.intent_log.specs.Told.{ReadWithin}
use Rattle.switch_recovery.specs.Recovering.{AreRead}
use Rattle.switch_recovery.proofs.RecoveringLaws.{read_more, views_more}
use Rattle.switch_recovery.proofs.recovered.read_logs.Goals as goal

pub loop-client-preserved : goal.loop-client-preserved
loop-client-preserved g c =
    let told = g.L.LogRack.told c.args.rack.now in
    let client = c.loop-client.client in
    let views = c.loop-client.views.items in
    let view = c.in-Ok.view in
    let items = c.push_reserved.ensures.items in
    let read = subst (λ (t : Option (List ℕ)). ReadWithin t (λ bytes. IsLog client bytes (plain_log view))) (c.loop-client.invariant.stay client) c.in-Ok.ensures.read in
    record {
      count = omega (arith, ap length items, length_push views view, c.loop-client.invariant.count);
      room = omega (arith, c.push_reserved.ensures.capacity, c.loop-client.invariant.room);
      read = subst (AreRead told 0) (sym (ap (λ (l : List LogView). map plain_log l) items ∙ views_more views view))
          (read_more told 0 client (map plain_log views) (plain_log view) (omega (arith, length-map views plain_log, c.loop-client.invariant.count)) c.loop-client.invariant.read read);
      stay = λ other. c.in-Ok.ensures.unchanged other ∙ c.loop-client.invariant.stay other;
      keeps_on = λ k. c.in-Ok.ensures.keeps_on (c.loop-client.invariant.keeps_on k);
      still = c.in-Ok.ensures.cause.still (ok_is_no_failure _ _) ∙ c.loop-client.invariant.still;
    }
