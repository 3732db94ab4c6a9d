use Rattle.std.proofs.Common.{ℕ, List, ◌++◌, ap, sym, subst, ◌∙◌, arith}
use Rattle.std.proofs.lemmas.List.{length-take}
use Rattle.port_io.proofs.Causes.{false_is_not_true}
use Rattle.port_io.proofs.Known.{take-written}
use Rattle.intent_log.specs.Checking.{Begins}
use Rattle.intent_log.proofs.TakenLaws.{begins_more}
use Rattle.intent_log.proofs.read.read_bytes.Goals as goal

pub loop-count-preserved : goal.loop-count-preserved
loop-count-preserved g c =
    let count = c.in-Ok.count in
    let read = c.read_some.new.buf in
    let found = c.loop-count.bytes.items in
    let same = take-written _ read _ _ count c.deref.ensures.value (omega (arith, c.in-Ok.ensures.bound)) (omega (arith, c.in-Ok.ensures.bound)) in
    record {
      room = omega arith;
      within = omega (arith, c.in_ok-extend_from_slice.ensures.len, length-take count c.deref.result.now);
      found = subst (Begins (g.L.LogRack.told c.args.rack.now c.args.client)) (sym (c.in_ok-extend_from_slice.ensures.items ∙ ap (λ (t : List ℕ). found ++ t) same))
          (begins_more _ _ found read _ count (c.loop-count.invariant.stay c.args.client) (omega (arith, c.loop-count.bytes.ok.0)) (omega (arith, c.in-Ok.ensures.bound)) c.loop-count.invariant.found c.in-Ok.ensures.bytes);
      stay = λ client. c.in-Ok.ensures.unchanged client ∙ c.loop-count.invariant.stay client;
      keeps_on = λ k. c.in-Ok.ensures.keeps_on (c.loop-count.invariant.keeps_on k);
      still = c.in-Ok.ensures.cause.still false_is_not_true ∙ c.loop-count.invariant.still;
    }
