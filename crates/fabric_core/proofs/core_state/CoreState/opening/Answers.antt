use Rattle.std.proofs.Common.{sym, ◌∙◌}
use Rattle.catalogue.specs.PlanOf.{plan_of}
use Rattle.gap_placement.proofs.Seeking.{is_nothing}
use Rattle.fabric_core.proofs.Openings.{ascend_as, all_on_hosts, entries_of_hosts}
use Rattle.fabric_core.proofs.core_state.CoreState.opening.Goals as goal

pub with_hosts-requires-clause-hosts : goal.with_hosts-requires-clause-hosts
with_hosts-requires-clause-hosts c = all_on_hosts (plan_of c.args.session.now) (sym c.as_slice.ensures.rows ∙ is_nothing c.as_slice.result.now (sym c.is_empty.ensures ∙ c.if-is_empty.true))

pub of-requires : goal.of-requires
of-requires c = record { ascending = ascend_as (plan_of c.args.session.now) c.as_slice-2.result.now (c.as_slice-2.ensures.value ∙ c.in_ok-rows.ensures) }

pub with_hosts-requires-2-clause-hosts : goal.with_hosts-requires-2-clause-hosts
with_hosts-requires-2-clause-hosts c = entries_of_hosts (plan_of c.args.session.now) c.as_slice-2.result.now c.in_ok-hosts.hosts (c.as_slice-2.ensures.value ∙ c.in_ok-rows.ensures) c.in_ok-hosts.ensures
