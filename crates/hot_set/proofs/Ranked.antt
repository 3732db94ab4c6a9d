-- What the front of the sorted rows is.
use Rattle.std.proofs.Common.{◌≡◌, ℕ, ℤ, ◌≤◌, cond, List, map, take, All, IsSome, arith, sym, ap, subst, ◌∙◌}
use Rattle.std.specs.FinMap as fin
use Rattle.std.specs.List.{count_by}
use Rattle.std.specs.List.Sorted.{IsPermutation, IsSorted}
use Rattle.std.proofs.lemmas.List.Elements.{All-map, All-take}
use Rattle.std.proofs.lemmas.List.Sorted.{All-permutation, sum_by-IsPermutation}
use Rattle.std.proofs.lemmas.List.Sums.{sum_by-take-le}
use Rattle.txn_model.specs.declared.op.TupleId.{TupleId}
use Rattle.stage_layout.specs.Layout.{same_tuple}
use Rattle.catalogue.specs.Plan.{Plan}
use Rattle.hot_set.specs.Hottest.{use_row, use_rows, hot_cmp, IsHotList, IsOnceEach}
use Rattle.hot_set.specs.Uses.{used_tuples}
use Rattle.hot_set.specs.declared.ranking.HotRow.{HotRow}
use Rattle.hot_set.proofs.UseCounts.{once, rows_there}

module _ (plan : Plan) (k : ℕ) (used : List TupleId) (es : List (TupleId × ℤ)) (rows sorted front : List HotRow)
    (same_uses : IsPermutation (used_tuples plan) used)
    (es_are : es ≡ fin.entries plan.tuples)
    (rows_are : rows ≡ map (λ (e : TupleId × ℤ). use_row used e.0) es)
    (moved : IsPermutation rows sorted)
    (front_is : front ≡ take k sorted)
  where
    made : rows ≡ map (λ (e : TupleId × ℤ). use_row used e.0) (fin.entries plan.tuples)
    made = rows_are ∙ ap (map (λ (e : TupleId × ℤ). use_row used e.0)) es_are

    counted : map (λ (e : TupleId × ℤ). use_row used e.0) (fin.entries plan.tuples) ≡ use_rows plan
    counted = λ i. map (λ (e : TupleId × ℤ). record { tuple = e.0; uses = sum_by-IsPermutation (λ (u : TupleId). cond (same_tuple u e.0) 1 0) (used_tuples plan) used same_uses i }) (fin.entries plan.tuples)

    pub is_hot_list : IsSorted hot_cmp sorted → IsHotList plan k front
    is_hot_list order = record {
      ranking = sorted;
      ranked = record { all = subst (λ (l : List HotRow). IsPermutation l sorted) (made ∙ counted) moved; order = order };
      front = front_is;
    }

    pub are_there : All (λ (row : HotRow). IsSome (fin.get plan.tuples row.tuple)) front
    are_there =
        let first = All-map (λ (row : HotRow). IsSome (fin.get plan.tuples row.tuple)) (λ (e : TupleId × ℤ). use_row used e.0) (fin.entries plan.tuples) (rows_there plan.tuples) in
        subst (All (λ (row : HotRow). IsSome (fin.get plan.tuples row.tuple))) (sym front_is)
        (All-take (λ (row : HotRow). IsSome (fin.get plan.tuples row.tuple)) k sorted
        (All-permutation (λ (row : HotRow). IsSome (fin.get plan.tuples row.tuple)) rows sorted moved
        (subst (All (λ (row : HotRow). IsSome (fin.get plan.tuples row.tuple))) (sym made) first)))

    pub are_once : IsOnceEach front
    are_once t =
        let fewer = sum_by-take-le (λ (row : HotRow). cond (same_tuple row.tuple t) 1 0) sorted k in
        let kept = sum_by-IsPermutation (λ (row : HotRow). cond (same_tuple row.tuple t) 1 0) rows sorted moved in
        let one = subst (λ (l : List HotRow). count_by (λ (row : HotRow). same_tuple row.tuple t) l ≤ 1) (sym made) (once used t (fin.entries plan.tuples) (fin.entries_sorted plan.tuples)) in
        subst (λ (l : List HotRow). count_by (λ (row : HotRow). same_tuple row.tuple t) l ≤ 1) (sym front_is) (omega (arith, fewer, kept, one))
