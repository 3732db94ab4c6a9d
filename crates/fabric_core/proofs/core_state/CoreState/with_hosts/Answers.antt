use Rattle.std.proofs.Common.{ℕ, ◌*◌, length, map, refl, sym, ap, subst, ◌∙◌, arith}
use Rattle.switch_model.specs.Switch.{fresh_switch}
use Rattle.pipeline.specs.Plain.{PlainPipeline}
use Rattle.pipeline.specs.Rows.{fresh_pipeline}
use Rattle.pipeline.specs.Shows.{Shows}
use Rattle.pipeline.proofs.Events.{fresh_shown}
use Rattle.history_core.specs.Recorded.{Recorded}
use Rattle.catalogue.specs.Plan.{hot_cells}
use Rattle.catalogue.specs.PlanOf.{plan_of}
use Rattle.catalogue.specs.Sound.{item_count}
use Rattle.fabric_model.specs.Run.{opening}
use Rattle.fabric_core.proofs.Held.{locks_at_opening}
use Rattle.fabric_core.proofs.Openings.{host_tuples, first_store}
use Rattle.fabric_core.proofs.Switches.{is_switch}
use Rattle.fabric_core.proofs.core_state.CoreState.with_hosts.Goals as goal

pub returns : goal.returns
unfolding opening
returns c =
    let plan = plan_of c.args.session.now in
    record {
      runners = c.in_ok-first_runners.ensures;
      logs = c.in_ok-first_logs.ensures;
      switch = is_switch refl (record {
        now = fresh_switch (hot_cells plan) (length plan.clients);
        up = refl;
        shows = subst (λ (seen : PlainPipeline). Shows plan.shape seen (fresh_switch (hot_cells plan) (length plan.clients)))
            (sym (c.in_ok-fresh.ensures ∙ ap (λ (n : ℕ). fresh_pipeline plan.shape (hot_cells plan) n) c.clients.ensures.value)) (fresh_shown plan.shape (hot_cells plan) (length plan.clients));
      });
      locks = locks_at_opening plan c.in_ok-fresh-2.field-0 c.in_ok-fresh-2.ensures.free;
      tuples = λ t. c.in_ok-fresh-2.ensures.tuples t ∙ host_tuples plan t c.as_slice.result.now c.requires.sound (c.as_slice.ensures.value ∙ c.in_ok-ids.ensures ∙ ap (map (λ row. row.0)) (c.rows.ensures ∙ c.requires.hosts));
      store = first_store plan c.args.hosts.now c.in_ok-fresh-3.field-0 c.requires.hosts c.in_ok-fresh-3.ensures;
      history = ap (λ (h : Recorded). h.items) c.in_ok-for_session.ensures;
      runs = ap (λ (h : Recorded). h.runs) c.in_ok-for_session.ensures;
      refusals = c.of.ensures.items ∙ c.in_ok-with_capacity.ensures.items;
      refused = omega (arith, c.of.ensures.spare, c.in_ok-with_capacity.ensures.capacity, c.in_ok-with_capacity.ensures.len, ap (λ (n : ℕ). n * item_count plan) c.from.ensures, ap (λ (n : ℕ). c.from.result * n) c.item_count.ensures);
      draft = c.in_ok-fresh-4.ensures;
    }
