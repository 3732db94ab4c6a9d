use Rattle.std.proofs.Common.{ℕ, List, length, sym, ap, subst, arith}
use Rattle.std.proofs.lemmas.List.{length_push}
use Rattle.catalogue.specs.PlanOf.{plan_of}
use Rattle.core_model.specs.Run.{first_clients}
use Rattle.core_model.specs.State.{ClientState}
use Rattle.fabric_core.specs.Standing.{IsRunner, client_in}
use Rattle.fabric_core.specs.declared.runner.Runner.{Runner}
use Rattle.fabric_core.proofs.Openings.{begun, pushed}
use Rattle.fabric_core.proofs.first.first_runners.Goals as goal

pub loop-client-preserved : goal.loop-client-preserved
loop-client-preserved c =
    let plan = plan_of c.args.session.now in
    record {
      count = omega (arith, ap (λ (l : List Runner). length l) c.in_ok-push.ensures.items, length_push c.loop-client.runners.items c.in_ok-fresh.field-0, c.loop-client.invariant.count);
      each = pushed (λ (n : ℕ) (r : Runner). IsRunner plan n (client_in (first_clients plan.clients) n) r) c.loop-client.runners.items c.push.new.self.items c.in_ok-fresh.field-0 c.loop-client.client c.loop-client.invariant.count c.in_ok-push.ensures.items c.loop-client.invariant.each
          (subst (λ (x : ClientState). IsRunner plan c.loop-client.client x c.in_ok-fresh.field-0) (sym (begun plan c.loop-client.client (omega (arith, c.loop-client-test.true, c.clients-clients.ensures.value)))) c.in_ok-fresh.ensures);
    }
