-- The locks of the clients, as a lock table has them.
use Rattle.std.specs.Prelude.{◌≡◌, ℕ, ◌==◌, List, [], ◌∷◌, Option, Some, None, if◌then◌else◌}
use Rattle.txn_model.specs.ScriptCheck.{is_read}
use Rattle.txn_model.specs.declared.op.Op.{Op}
use Rattle.txn_model.specs.declared.op.TupleId.{TupleId}
use Rattle.catalogue.specs.Plan.{Plan}
use Rattle.host_locks.specs.Locks.{Locks, mode_held}
use Rattle.host_locks.specs.declared.mode.Mode.{Mode}
use Rattle.host_locks.specs.declared.mode.Mode.TheVariants.{Shared, Exclusive}
use Rattle.fabric_model.specs.State.{State, client_at}
use Rattle.core_model.specs.Locks.{held}

-- the mode of the lock for an operation: shared where it only reads
abbrev pub mode_of : Op → Mode
mode_of op = if is_read op.act then Shared else Exclusive

-- the mode in which a client that holds the locks for these operations holds a tuple; None where it doesn't
abbrev pub lock_of : List Op → TupleId → Option Mode
lock_of [] t = None
lock_of (op ∷ ops) t = if op.tuple.0 == t.0 then Some (mode_of op) else lock_of ops t

-- the table has exactly the locks that the clients hold
abbrev pub HasLocks : Plan → State → Locks → Type 0
HasLocks plan s locks = (t : TupleId) (c : ℕ) → mode_held locks t c ≡ lock_of (held plan c (client_at s c)) t
