use Rattle.std.proofs.Common.{◌≡◌, List, length, arith, rules, sym, ap, subst, ◌∙◌}
use Rattle.std.specs.List.Sorted.{IsNonDecreasingBy, IsPermutation}
use Rattle.std.proofs.lemmas.List.Sorted.{IsNonDecreasingBy-from_sort, answers_always, length_permutation}
use Rattle.txn_model.specs.declared.op.TupleId.{TupleId}
use Rattle.catalogue.specs.PlanOf.{plan_of}
use Rattle.hot_set.specs.Uses.{used_tuples}
use Rattle.hot_set.proofs.Ranked.{is_hot_list, are_there, are_once}
use Rattle.hot_set.proofs.UseCounts.{few_uses}
use Rattle.hot_set.proofs.ranking.pick.Goals as goal

pub use_rows-requires-clause-sorted : goal.use_rows-requires-clause-sorted
use_rows-requires-clause-sorted c =
    subst (λ (l : List TupleId). IsNonDecreasingBy (λ (t : TupleId). t.0) l) (sym c.as_slice.ensures.value) (IsNonDecreasingBy-from_sort (λ (t : TupleId). t.0) c.sort_unstable.new.self.items c.sort_unstable.ensures.sorted)

pub use_rows-requires-clause-few : goal.use_rows-requires-clause-few
use_rows-requires-clause-few c =
    let size : length c.as_slice.result.now ≡ length (used_tuples (plan_of c.args.session.now)) =
    ap length c.as_slice.ensures.value ∙ length_permutation _ _ c.sort_unstable.ensures.permutation ∙ ap length c.in_ok-used.ensures in
    omega (arith, size, few_uses (plan_of c.args.session.now) c.requires)

pub returns : goal.returns
returns c =
    let plan = plan_of c.args.session.now in
    let same = subst (λ (l : List TupleId). IsPermutation (used_tuples plan) l) (sym c.as_slice.ensures.value)
    (subst (λ (l : List TupleId). IsPermutation l c.sort_unstable.new.self.items) c.in_ok-used.ensures c.sort_unstable.ensures.permutation) in
    let front = c.of.ensures.items ∙ c.truncate.ensures.items in
    let order = c.sort_unstable_by_key.ensures.sorted (λ row. (record { 0 = row.uses }, row.tuple)) (answers_always _ _ _ (λ f a r g called. search rules)) in
    record {
      list = is_hot_list plan c.args.k c.as_slice.result.now c.rows.result.now c.in_ok-rows.rows.items c.sort_unstable_by_key.new.self.items c.of.result.items same c.rows.ensures c.in_ok-rows.ensures c.sort_unstable_by_key.ensures.permutation front order;
      there = are_there plan c.args.k c.as_slice.result.now c.rows.result.now c.in_ok-rows.rows.items c.sort_unstable_by_key.new.self.items c.of.result.items same c.rows.ensures c.in_ok-rows.ensures c.sort_unstable_by_key.ensures.permutation front;
      once = are_once plan c.args.k c.as_slice.result.now c.rows.result.now c.in_ok-rows.rows.items c.sort_unstable_by_key.new.self.items c.of.result.items same c.rows.ensures c.in_ok-rows.ensures c.sort_unstable_by_key.ensures.permutation front;
    }
