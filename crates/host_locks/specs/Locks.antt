-- Lock tables: for each tuple, the mode in which each client holds it.
use Rattle.std.specs.Prelude.{◌≡◌, ℕ, ◌==◌, ◌&&◌, Bool, Option, Some, is_some, if◌then◌else◌}
use Rattle.std.specs.Coded.{Coded}
use Rattle.std.specs.FinMap as fin
use Rattle.std.specs.Option.{option_and_then}
use Rattle.txn_model.specs.Tuples.{tuple_cmp, coded_tuple}
use Rattle.txn_model.specs.declared.op.TupleId.{TupleId}
use Rattle.host_locks.specs.Conflict.{stops, IsFree, IsLeastInTheWay}
use Rattle.host_locks.specs.Words.{PlainWord, coded_word, mode_in}
use Rattle.host_locks.specs.declared.mode.Grant.{Grant}
use Rattle.host_locks.specs.declared.mode.Grant.TheVariants.{Granted, HeldBy}
use Rattle.host_locks.specs.declared.mode.Mode.{Mode}

-- the tuples of a table, each with its lock word
abbrev pub Locks : Type 0
Locks = fin.FinMap tuple_cmp PlainWord

abbrev pub locks_code : Coded Locks
locks_code = fin.code coded_tuple coded_word

-- the tuple is in the table
abbrev pub has_tuple : Locks → TupleId → Bool
has_tuple locks t = is_some (fin.get locks t)

-- the mode in which the client holds the tuple; None where it doesn't
abbrev pub mode_held : Locks → TupleId → ℕ → Option Mode
mode_held locks t client = option_and_then (λ word. mode_in word client) (fin.get locks t)

-- a client's lock on the tuple stands in the way of one who asks for it in this mode
abbrev pub in_the_way : Locks → TupleId → Mode → ℕ → Bool
in_the_way locks t mode client = stops mode (mode_held locks t client)

-- the client's lock on the tuple is now this one, or none; all others are as before, and so are the tuples of the table
pub record IsWithLock (before now : Locks) (tuple : TupleId) (client : ℕ) (mode : Option Mode) : Type 0 where
  pub held : (t : TupleId) (c : ℕ) → mode_held now t c ≡ (if (t.0 == tuple.0) && (c == client) then mode else mode_held before t c)
  pub tuples : (t : TupleId) → has_tuple now t ≡ has_tuple before t

-- what became of a client that asked for the tuple: the lock is its own, where no one is in the way; else nothing changed, and
-- the answer is the least client in the way
abbrev pub IsTried : (before now : Locks) → TupleId → Mode → ℕ → Grant → Type 0
IsTried before now tuple mode client Granted = IsFree (in_the_way before tuple mode) client × IsWithLock before now tuple client (Some mode)
IsTried before now tuple mode client (HeldBy other) = IsLeastInTheWay (in_the_way before tuple mode) client other × (now ≡ before)
