use Rattle.std.proofs.Common.{◌≡◌, ◌+◌, ◌++◌, ◌<◌, ◌≤◌, List, length, drop, map, arith, rules, sym, ap, ap₂, subst, ◌∙◌, append_assoc, append-nil}
use Rattle.std.specs.List.Sorted.{IsPermutation}
use Rattle.std.proofs.lemmas.List.{length-map}
use Rattle.std.proofs.lemmas.List.Sorted.{IsNonDecreasingBy-from_sort_by_key}
use Rattle.catalogue.specs.Items.{plain_item, plain_items}
use Rattle.catalogue.specs.Plan.{PlainItem}
use Rattle.catalogue.specs.PlanOf.{plan_of}
use Rattle.catalogue.specs.declared.item.Item.{Item}
use Rattle.declust.specs.Greedy.{all_items}
use Rattle.declust.specs.Uses.{tuple_number, uses_from}
use Rattle.declust.specs.declared.uses.Use.{Use}
use Rattle.declust.proofs.Totals.{all_of, length_more, uses_more, nothing_left}
use Rattle.declust.proofs.UseLists.{few_items}
use Rattle.declust.proofs.uses.Uses.in_session.Goals as goal

pub push_items-requires : goal.push_items-requires
push_items-requires c =
    let plan = plan_of c.args.session.now in
    let size : length (plain_items c.items-of_client.result.now) ≡ length c.items-of_client.result.now = length-map c.items-of_client.result.now plain_item in
    omega (arith, size, ap length c.items-of_client.ensures.items, c.loop-client.invariant.items, length_more plan.clients c.loop-client.client (omega arith), few_items plan c.requires)

pub overflow_add-items : goal.overflow_add-items
overflow_add-items c =
    let plan = plan_of c.args.session.now in
    let size : length (plain_items c.items-of_client.result.now) ≡ length c.items-of_client.result.now = length-map c.items-of_client.result.now plain_item in
    omega (arith, size, ap length c.items-of_client.ensures.items, c.loop-client.invariant.items, length_more plan.clients c.loop-client.client (omega arith), few_items plan c.requires)

pub loop-client-preserved : goal.loop-client-preserved
loop-client-preserved c =
    let plan = plan_of c.args.session.now in
    let client = c.loop-client.client in
    let items = c.loop-client.items in
    let lt : client < length plan.clients = omega arith in
    let here = c.items-of_client.ensures.items in
    let size : length (plain_items c.items-of_client.result.now) ≡ length c.items-of_client.result.now = length-map c.items-of_client.result.now plain_item in
    let rest = all_of (drop (client + 1) plan.clients) in
    let pushed = c.in_ok-push_items.ensures in
    let left : uses_from items (all_of (drop client plan.clients)) ≡ uses_from items (plain_items c.items-of_client.result.now) ++ uses_from (items + length c.items-of_client.result.now) rest =
    uses_more plan.clients client lt items ∙ ap (λ (l : List PlainItem). uses_from items l ++ uses_from (items + length l) rest) (sym here) ∙ ap (λ n. uses_from items (plain_items c.items-of_client.result.now) ++ uses_from (items + n) rest) size in
    record {
      items = omega (arith, size, ap length here, c.loop-client.invariant.items, length_more plan.clients client lt);
      list = ap (λ (l : List Use). l ++ uses_from (items + length c.items-of_client.result.now) rest) pushed
          ∙ append_assoc c.loop-client.list.items (uses_from items (plain_items c.items-of_client.result.now)) (uses_from (items + length c.items-of_client.result.now) rest)
          ∙ ap (λ (l : List Use). c.loop-client.list.items ++ l) (sym left) ∙ c.loop-client.invariant.list;
    }

pub returns : goal.returns
returns c =
    let plan = plan_of c.args.session.now in
    let none = nothing_left plan.clients c.loop-client.client (omega arith) in
    let all : c.loop-client.list.items ≡ uses_from 0 (all_items plan) =
    sym (append-nil c.loop-client.list.items) ∙ ap (λ (l : List PlainItem). c.loop-client.list.items ++ uses_from c.loop-client.items l) (sym none) ∙ c.loop-client.invariant.list in
    record {
      all = subst (λ (l : List Use). IsPermutation l c.sort_unstable_by_key.new.self.items) all c.sort_unstable_by_key.ensures.permutation;
      sorted = IsNonDecreasingBy-from_sort_by_key tuple_number c.sort_unstable_by_key.new.self.items c.sort_unstable_by_key.ensures.sorted (λ a r f k. search rules);
      items = omega (arith, ap (length {A = PlainItem}) none, c.loop-client.invariant.items);
    }
