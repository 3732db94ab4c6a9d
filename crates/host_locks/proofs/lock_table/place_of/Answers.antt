use Rattle.std.proofs.Common.{sym, true≢false}
use Rattle.host_locks.proofs.lock_table.place_of.Goals as goal

pub unreachable-requires : goal.unreachable-requires
unreachable-requires c = absurd (true≢false (sym (rw c.in-None.ensures at c.requires.there)))
