use Rattle.std.proofs.Common.{◌≡◌, ◌+◌, ◌*◌, ◌<◌, ◌≤◌, List, [], length, drop, arith, rules, refl, sym, ap, subst, ◌∙◌}
use Rattle.std.specs.Prelude.{sum_by}
use Rattle.std.proofs.lemmas.List.{length-map}
use Rattle.catalogue.specs.Items.{plain_item, plain_items}
use Rattle.catalogue.specs.Plan.{PlainItem}
use Rattle.catalogue.specs.PlanOf.{plan_of}
use Rattle.declust.specs.Total.{passes_of, HaveNoFault}
use Rattle.declust.proofs.Totals.{client_fit, client_few, length_more, sum_more, nothing_left}
use Rattle.declust.proofs.UseLists.{few_items}
use Rattle.declust.proofs.passes.total.Goals as goal

pub list_passes-passes-requires-clause-few : goal.list_passes-passes-requires-clause-few
list_passes-passes-requires-clause-few c =
    let plan = plan_of c.args.session.now in
    omega (arith, length-map c.items.result.now plain_item, ap length c.items.ensures.items, client_few plan c.loop-client.client c.requires.sound (omega arith))

pub list_passes-passes-requires-clause-sound : goal.list_passes-passes-requires-clause-sound
list_passes-passes-requires-clause-sound c =
    let plan = plan_of c.args.session.now in
    subst (λ (l : List PlainItem). HaveNoFault l) (sym c.items.ensures.items) (client_fit plan c.loop-client.client c.requires.sound (omega arith))

pub overflow_add-passes : goal.overflow_add-passes
overflow_add-passes c =
    let plan = plan_of c.args.session.now in
    let client = c.loop-client.client in
    omega (arith, length-map c.items.result.now plain_item, ap length c.items.ensures.items, length_more plan.clients client (omega arith), c.loop-client.invariant.bound, c.list_passes-passes.ensures.bound, few_items plan c.requires.sound)

pub loop-client-preserved : goal.loop-client-preserved
loop-client-preserved c =
    let plan = plan_of c.args.session.now in
    let client = c.loop-client.client in
    let lt : client < length plan.clients = omega arith in
    let f = passes_of c.args.session.now.shape c.args.layout.now in
    record {
      value = omega (arith, sum_more plan.clients client lt f, ap (sum_by f) c.items.ensures.items, c.list_passes-passes.ensures.value, c.loop-client.invariant.value);
      bound = omega (arith, length-map c.items.result.now plain_item, ap length c.items.ensures.items, length_more plan.clients client lt, c.loop-client.invariant.bound, c.list_passes-passes.ensures.bound);
    }

pub returns : goal.returns
returns c =
    let plan = plan_of c.args.session.now in
    let f = passes_of c.args.session.now.shape c.args.layout.now in
    let none = nothing_left plan.clients c.loop-client.client (omega arith) in
    let zero : sum_by f [] ≡ 0 = refl in
    omega (arith, ap (sum_by f) none, zero, c.loop-client.invariant.value)
