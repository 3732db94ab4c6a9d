use Rattle.std.proofs.Common.{w64}
use Rattle.std.proofs.lemmas.Int.{to_z-of_z}
use Rattle.txn_model.proofs.SortedRows.{insert_at}
use Rattle.txn_model.proofs.TupleOrder.{tuple_cmp_total, tuple_cmp_exact}
use Rattle.host_store.proofs.StoreRows.{is_found, install_at}
use Rattle.host_store.proofs.store.HostStore.install.Goals as goal

pub place_of-at-requires-clause-there : goal.place_of-at-requires-clause-there
place_of-at-requires-clause-there c = is_found _ c.self.invariant _ c.self.view_is c.args.tuple _ c.as_slice.ensures.value c.requires

pub invariant_of-self : goal.invariant_of-self
invariant_of-self c =
    let found = rw c.as_slice.ensures.value at c.place_of-at.ensures.found in
    let bound = rw c.as_slice.ensures.value at c.place_of-at.ensures.bound in
    (insert_at tuple_cmp_total tuple_cmp_exact _ c.self.invariant c.args.tuple _ c.place_of-at.result c.index.result.now bound (found c.index.result.now)).0

pub returns : goal.returns
returns c =
    let found = rw c.as_slice.ensures.value at c.place_of-at.ensures.found in
    let bound = rw c.as_slice.ensures.value at c.place_of-at.ensures.bound in
    install_at _ c.self.invariant _ c.self.view_is c.args.tuple c.place_of-at.result c.index.result.now bound (found c.index.result.now) c.index.ensures
    c.args.value _ (to_z-of_z w64 c.args.value c.ranges.value) c.args.stamp _ c.greater-stamp.ensures
