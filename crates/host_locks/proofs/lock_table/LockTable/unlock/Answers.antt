use Rattle.std.proofs.Common.{sym, subst, None, IsSome}
use Rattle.host_locks.specs.Locks.{IsWithLock}
use Rattle.host_locks.proofs.TableLaws.{is_found, held_there, mode_read, read_at, still_sorted, written, with_lock}
use Rattle.host_locks.proofs.lock_table.LockTable.unlock.Goals as goal

pub place_of-at-requires-clause-there : goal.place_of-at-requires-clause-there
place_of-at-requires-clause-there c = is_found _ c.self.invariant _ c.self.view_is c.args.tuple _ c.as_slice.ensures.value (held_there _ c.args.tuple c.args.client c.requires)

pub unlocked-requires : goal.unlocked-requires
unlocked-requires c =
    let found = rw c.as_slice.ensures.value at c.place_of-at.ensures.found in
    let bound = rw c.as_slice.ensures.value at c.place_of-at.ensures.bound in
    let row = c.index.result.now in
    let is = read_at _ c.self.invariant _ c.self.view_is c.args.tuple c.place_of-at.result row bound (found row) c.index.ensures in
    subst IsSome (mode_read _ c.args.tuple row.1 is c.args.client) c.requires

pub invariant_of-self : goal.invariant_of-self
invariant_of-self c =
    let found = rw c.as_slice.ensures.value at c.place_of-at.ensures.found in
    let bound = rw c.as_slice.ensures.value at c.place_of-at.ensures.bound in
    still_sorted _ c.self.invariant _ c.self.view_is c.args.tuple c.place_of-at.result c.index.result.now bound (found c.index.result.now) c.unlocked.result

pub returns : goal.returns
returns c =
    let found = rw c.as_slice.ensures.value at c.place_of-at.ensures.found in
    let bound = rw c.as_slice.ensures.value at c.place_of-at.ensures.bound in
    let row = c.index.result.now in
    let is = read_at _ c.self.invariant _ c.self.view_is c.args.tuple c.place_of-at.result row bound (found row) c.index.ensures in
    let now = written _ c.self.invariant _ c.self.view_is c.args.tuple c.place_of-at.result row bound (found row) c.unlocked.result in
    subst (λ after. IsWithLock c.args.self.now after c.args.tuple c.args.client None) (sym now)
    (with_lock _ c.args.tuple row.1 is c.unlocked.result c.args.client None c.unlocked.ensures)
