use Rattle.std.proofs.Common.{◌∙◌, sym, refl, subst, Some, None}
use Rattle.host_locks.specs.Locks.{IsWithLock}
use Rattle.host_locks.proofs.TableLaws.{is_found, mode_read, way_read, read_at, still_sorted, written, with_lock}
use Rattle.host_locks.proofs.lock_table.LockTable.try_lock.Goals as goal

pub place_of-at-requires-clause-there : goal.place_of-at-requires-clause-there
place_of-at-requires-clause-there c = is_found _ c.self.invariant _ c.self.view_is c.args.tuple _ c.as_slice.ensures.value c.requires.there

pub returns-in-Some : goal.returns-in-Some
returns-in-Some c =
    let found = rw c.as_slice.ensures.value at c.place_of-at.ensures.found in
    let bound = rw c.as_slice.ensures.value at c.place_of-at.ensures.bound in
    let row = c.index.result.now in
    let is = read_at _ c.self.invariant _ c.self.view_is c.args.tuple c.place_of-at.result row bound (found row) c.index.ensures in
    (way_read _ c.args.tuple row.1 is c.args.mode c.args.client (Some c.in-Some.other) c.in-Some.ensures, refl)

pub locked-requires-clause-free : goal.locked-requires-clause-free
locked-requires-clause-free c =
    let found = rw c.as_slice.ensures.value at c.place_of-at.ensures.found in
    let bound = rw c.as_slice.ensures.value at c.place_of-at.ensures.bound in
    let row = c.index.result.now in
    let is = read_at _ c.self.invariant _ c.self.view_is c.args.tuple c.place_of-at.result row bound (found row) c.index.ensures in
    sym (mode_read _ c.args.tuple row.1 is c.args.client) ∙ c.requires.free

pub invariant_of-self : goal.invariant_of-self
invariant_of-self c =
    let found = rw c.as_slice.ensures.value at c.place_of-at.ensures.found in
    let bound = rw c.as_slice.ensures.value at c.place_of-at.ensures.bound in
    still_sorted _ c.self.invariant _ c.self.view_is c.args.tuple c.place_of-at.result c.index.result.now bound (found c.index.result.now) c.locked.result

pub returns : goal.returns
returns c =
    let found = rw c.as_slice.ensures.value at c.place_of-at.ensures.found in
    let bound = rw c.as_slice.ensures.value at c.place_of-at.ensures.bound in
    let row = c.index.result.now in
    let is = read_at _ c.self.invariant _ c.self.view_is c.args.tuple c.place_of-at.result row bound (found row) c.index.ensures in
    let now = written _ c.self.invariant _ c.self.view_is c.args.tuple c.place_of-at.result row bound (found row) c.locked.result in (
      way_read _ c.args.tuple row.1 is c.args.mode c.args.client None c.in_default.ensures,
      subst (λ after. IsWithLock c.args.self.now after c.args.tuple c.args.client (Some c.args.mode)) (sym now)
          (with_lock _ c.args.tuple row.1 is c.locked.result c.args.client (Some c.args.mode) c.locked.ensures),
    )
