use Rattle.std.proofs.lemmas.List.Filters.{dedup_is}
use Rattle.host_locks.proofs.FreeRows.{free_sorted, free_tuples, none_held}
use Rattle.host_locks.proofs.lock_table.LockTable.fresh.Goals as goal

pub invariant_of-result : goal.invariant_of-result
invariant_of-result c =
    free_sorted _ _ _ _ c.sort_unstable.ensures.permutation c.sort_unstable.ensures.sorted (dedup_is _ _ _ c.dedup.ensures.filtered) (rw c.as_slice.ensures.value at c.in_ok-free_rows.ensures)

pub returns-clause-tuples : goal.returns-clause-tuples
returns-clause-tuples c =
    let given = c.in_ok-ascending.ensures.items in
    free_tuples _ _ _ _ (rw given at c.sort_unstable.ensures.permutation) c.sort_unstable.ensures.sorted (dedup_is _ _ _ c.dedup.ensures.filtered) (rw c.as_slice.ensures.value at c.in_ok-free_rows.ensures)

pub returns-clause-free : goal.returns-clause-free
returns-clause-free c =
    none_held _ _ _ _ c.sort_unstable.ensures.permutation c.sort_unstable.ensures.sorted (dedup_is _ _ _ c.dedup.ensures.filtered) (rw c.as_slice.ensures.value at c.in_ok-free_rows.ensures)
