use Rattle.std.proofs.Common.{◌≡◌, List, [], map, take, ap, ◌∙◌, arith, length, Option, ℕ}
use Rattle.std.proofs.lemmas.List.Elements.{recursion_from_All}
use Rattle.std.proofs.lemmas.List.{take_all}
use Rattle.catalogue.specs.Plan.{PlainItem}
use Rattle.catalogue.specs.PlanOf.{plan_of}
use Rattle.history_core.specs.Plain.{Own}
use Rattle.history_core.specs.Runs.{ops_of}
use Rattle.history_core.proofs.Changes.{opened, opened_view}
use Rattle.history_core.proofs.history.History.for_session.Goals as goal

pub invariant_of-result : goal.invariant_of-result
invariant_of-result c =
    let plan = plan_of c.args.session.now in
    opened plan c.loop-client.owns.items
    (c.loop-client.invariant.runs ∙ ap (map (map ops_of)) (take_all c.loop-client.client plan.clients (omega (arith, c.loop-client-test.false, c.clients-clients.ensures.value))))
    (recursion_from_All (λ (own : Own). own.entries ≡ []) c.loop-client.owns.items c.loop-client.invariant.none) c.requires

pub returns : goal.returns
returns c =
    let plan = plan_of c.args.session.now in
    opened_view plan c.loop-client.owns.items
    (c.loop-client.invariant.runs ∙ ap (map (map ops_of)) (take_all c.loop-client.client plan.clients (omega (arith, c.loop-client-test.false, c.clients-clients.ensures.value))))
    (recursion_from_All (λ (own : Own). own.entries ≡ []) c.loop-client.owns.items c.loop-client.invariant.none) c.requires
