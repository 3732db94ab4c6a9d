use Rattle.std.proofs.Common.{ℕ, ◌-◌, ◌∷◌, [], length, map, ap, subst, ◌∙◌, arith}
use Rattle.std.specs.List.{range_with_len}
use Rattle.std.proofs.lemmas.Result.{err_from_is_err_and}
use Rattle.catalogue.specs.declared.actor.Actor.TheVariants.{Port}
use Rattle.core_model.specs.Rota.{numbers_below}
use Rattle.fabric_core.specs.Running.{Running}
use Rattle.fabric_core.proofs.Takes as takes
use Rattle.fabric_core.proofs.Worlds.{IsRun, is_run}
use Rattle.fabric_core.proofs.world.World.take_ports.Goals as goal

pub loop-client-init : goal.loop-client-init
loop-client-init g c =
    let end = c.clients-client-end.ensures.value ∙ ap (λ (r : Running _). length r.plan.clients) c.self.view_is in
    record {
      end = end;
      taking = takes.taking_begins _ (map Port (numbers_below (length c.args.self.now.plan.clients))) c.args.self.now _
          (ap (λ (n : ℕ). map Port (range_with_len 0 n)) {x = c.clients-client-end.result - 0} {y = length c.args.self.now.plan.clients} (omega (arith, end)))
          (subst (λ (r : Running _). IsRun r) c.self.view_is (is_run c.self.invariant c.self.inside.stop c.self.inside.rack)) c.requires;
    }

pub take-requires-clause-goes_on : goal.take-requires-clause-goes_on
take-requires-clause-goes_on g c = c.loop-client.invariant.taking.goes

pub returns-in_err-take : goal.returns-in_err-take
returns-in_err-take g c =
    let p = err_from_is_err_and c.from_residual.result c.from_residual.ensures.1 in
    rw (p.1, p.2) (takes.taking_ends (Port c.loop-client.client ∷ []) _ _ _ c.args.self.now c.loop-client.self c.take.new.self _ _ _ (takes.numbered_next Port c.clients-client-end.result c.loop-client.client c.loop-client-test.true) c.loop-client.invariant.taking c.in_err-take.field-0.0 c.in_err-take.ensures)

pub loop-client-preserved : goal.loop-client-preserved
loop-client-preserved g c = record {
  end = c.loop-client.invariant.end;
  taking = takes.taking_next (Port c.loop-client.client ∷ []) _ _ _ c.args.self.now c.loop-client.self c.take.new.self _ _ _ (takes.numbered_next Port c.clients-client-end.result c.loop-client.client c.loop-client-test.true) c.loop-client.invariant.taking c.in_ok-take.ensures;
}

pub returns : goal.returns
returns g c = takes.taking_done _ _ c.args.self.now c.loop-client.self _ _ (takes.none_numbered Port c.clients-client-end.result c.loop-client.client c.loop-client-test.false) c.loop-client.invariant.taking
