use Rattle.std.proofs.Common.{rules}
use Rattle.std.proofs.lemmas.List.Sorted.{answers_always}
use Rattle.txn_model.proofs.SortedRows.{searched}
use Rattle.txn_model.proofs.TupleOrder.{tuple_cmp_total}
use Rattle.txn_model.proofs.rows.row_of.Goals as goal

pub returns-in_default : goal.returns-in_default
returns-in_default g c =
    let facts = c.binary_search_by_key.ensures in
    rw c.ok.ensures.value (searched tuple_cmp_total c.args.rows.now c.requires c.args.tuple c.binary_search_by_key.result facts.bound (facts.position (λ row. row.0.0) (answers_always _ _ _ (λ f a r g called. search rules))))
