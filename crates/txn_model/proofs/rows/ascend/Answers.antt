use Rattle.std.proofs.Common.{◌≡◌, is_lt, nat_lt, rules, sym, ◌∙◌}
use Rattle.std.proofs.lemmas.List.Sorted.{answers_always}
use Rattle.txn_model.specs.Tuples.{tuple_cmp}
use Rattle.txn_model.proofs.AscendingRows.{is_lt-nat_cmp, is_sorted_by_neighbours}
use Rattle.txn_model.proofs.TupleOrder.{tuple_cmp_total}
use Rattle.txn_model.proofs.rows.ascend.Goals as goal

pub returns : goal.returns
returns g c =
    is_sorted_by_neighbours tuple_cmp_total c.args.rows.now _
    (c.is_sorted_by.ensures.cases (λ a b. is_lt (tuple_cmp a.0 b.0))
    (answers_always _ _ _ (λ f a r g called.
    let below : r ≡ nat_lt a.0.now.0.0 a.1.0.now.0.0 = search rules in
    below ∙ sym (is_lt-nat_cmp a.0.now.0.0 a.1.0.now.0.0))))
