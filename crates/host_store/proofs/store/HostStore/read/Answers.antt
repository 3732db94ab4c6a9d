use Rattle.host_store.proofs.StoreRows.{is_found, read_at}
use Rattle.host_store.proofs.store.HostStore.read.Goals as goal

pub place_of-at-requires-clause-there : goal.place_of-at-requires-clause-there
place_of-at-requires-clause-there c = is_found _ c.self.invariant _ c.self.view_is c.args.tuple _ c.as_slice.ensures.value c.requires

pub returns : goal.returns
returns c =
    let found = rw c.as_slice.ensures.value at c.place_of-at.ensures.found in
    let bound = rw c.as_slice.ensures.value at c.place_of-at.ensures.bound in
    read_at _ c.self.invariant _ c.self.view_is c.args.tuple c.place_of-at.result c.index.result.now bound (found c.index.result.now) c.index.ensures
