use Rattle.std.proofs.Common.{◌∙◌, ap, sym}
use Rattle.std.specs.Option.{option_and_then}
use Rattle.host_locks.specs.Words.{mode_in}
use Rattle.host_locks.proofs.TableLaws.{mode_read, read_at, read_absent}
use Rattle.host_locks.proofs.lock_table.LockTable.mode_of.Goals as goal

pub returns-in-Some : goal.returns-in-Some
returns-in-Some c =
    let found = rw c.as_slice.ensures.value at c.in-Some.ensures in
    let row = c.index.result.now in
    c.mode_of.ensures ∙ sym (mode_read _ c.args.tuple row.1 (read_at _ c.self.invariant _ c.self.view_is c.args.tuple c.in-Some.at row found.0 (found.1 row) c.index.ensures) c.args.client)

pub returns-in-None : goal.returns-in-None
returns-in-None c = sym (ap (option_and_then (λ word. mode_in word c.args.client)) (read_absent _ c.self.invariant _ c.self.view_is c.args.tuple _ c.as_slice.ensures.value c.in-None.ensures))
