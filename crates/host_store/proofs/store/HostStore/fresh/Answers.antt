use Rattle.host_store.proofs.StoreRows.{first_sorted, first_values}
use Rattle.host_store.proofs.store.HostStore.fresh.Goals as goal

pub invariant_of-result : goal.invariant_of-result
invariant_of-result c = first_sorted c.args.tuples.now _ (rw c.rows.ensures at c.in_ok-first_rows.ensures)

pub returns : goal.returns
returns c = first_values c.args.tuples.now _ (rw c.rows.ensures at c.in_ok-first_rows.ensures)
