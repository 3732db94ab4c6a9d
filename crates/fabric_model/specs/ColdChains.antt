-- What ties the tuples of hosts, the locks on them and the history to each other, between any two moves.
use Rattle.std.specs.Prelude.{◌≡◌, ◌≢◌, ℕ, ◌==◌, ◌&&◌, Bool, true, false, not, filter, slice_get, Some}
use Rattle.std.specs.List.{AllByRecursion}
use Rattle.txn_model.specs.ScriptCheck.{names, is_read}
use Rattle.txn_model.specs.Tuples.{value_at}
use Rattle.txn_model.specs.declared.op.Op.{Op}
use Rattle.txn_model.specs.declared.op.TupleId.{TupleId}
use Rattle.txn_model.specs.declared.stamp.Seen.{Seen}
use Rattle.stage_layout.specs.Late.{is_hot}
use Rattle.host_store.specs.Store.{seen_at}
use Rattle.history_model.specs.Chain.{all_steps, last_value}
use Rattle.history_model.specs.History.{HistoryEntry, History}
use Rattle.catalogue.specs.Plan.{Plan}
use Rattle.core_model.specs.Facts.{Stands, answered, script_of_entry, writes}
use Rattle.core_model.specs.Locks.{cold_ops, held}
use Rattle.core_model.specs.StampOrder.{AtMost}
use Rattle.core_model.specs.State.{script_now}
use Rattle.fabric_model.specs.Recorded.{has_open}
use Rattle.fabric_model.specs.State.{State, client_at, answered_ones}

-- the entry's client still holds the lock on the tuple that it took for this entry's script
abbrev pub holds_lock : Plan → State → TupleId → HistoryEntry → Bool
holds_lock plan s t e =
    let client = client_at s e.entry.client in
    (e.entry.seq == client.seq) && names (held plan e.entry.client client) t

-- the script names the tuple, and the lock on it was given back
abbrev pub is_past_entry : Plan → State → TupleId → HistoryEntry → Bool
is_past_entry plan s t e = names (script_of_entry plan e) t && not (holds_lock plan s t e)

-- the past ones of a tuple's answered entries, in history order
abbrev pub past_entries : Plan → State → TupleId → History
past_entries plan s t = filter (is_past_entry plan s t) (answered_ones s.history)

pub record HasColdChains (plan : Plan) (s : State) : Type 0 where
  -- two locks of two clients on one tuple are both shared
  pub shared : (c d k j : ℕ) (op other : Op) → c ≢ d → Stands plan c (client_at s c) k op → Stands plan d (client_at s d) j other → (op.tuple.0 == other.tuple.0) ≡ true
      → (is_read op.act ≡ true) × (is_read other.act ≡ true)
  -- the value that was noted with a lock which stands is the stored one
  pub noted : (c k : ℕ) (op : Op) (seen : Seen) → Stands plan c (client_at s c) k op → slice_get (client_at s c).noted k ≡ Some seen → seen.value ≡ (seen_at s.store op.tuple).value
  -- the stamp that was noted with it is at least that of each past entry that changes the tuple, and with an exclusive lock at
  -- least that of each past entry
  pub writers : (c k : ℕ) (op : Op) (seen : Seen) → Stands plan c (client_at s c) k op → slice_get (client_at s c).noted k ≡ Some seen
      → AllByRecursion (λ e. writes (script_of_entry plan e) op.tuple ≡ true → AtMost e.entry.stamp seen.stamp) (past_entries plan s op.tuple)
  pub exclusive : (c k : ℕ) (op : Op) (seen : Seen) → Stands plan c (client_at s c) k op → slice_get (client_at s c).noted k ≡ Some seen → is_read op.act ≡ false
      → AllByRecursion (λ e. AtMost e.entry.stamp seen.stamp) (past_entries plan s op.tuple)
  -- the stamp of a host's tuple is at least that of each past entry, and its value is what the last one left, or its first value
  pub stamps : (t : TupleId) → is_hot plan.layout t ≡ false → AllByRecursion (λ e. AtMost e.entry.stamp (seen_at s.store t).stamp) (past_entries plan s t)
  pub values : (t : TupleId) → is_hot plan.layout t ≡ false → (seen_at s.store t).value ≡ last_value t (value_at plan.tuples t) (all_steps (answered plan (past_entries plan s t)))
  -- a client whose packet is in its log, or on its way, holds all its locks
  pub open_locks : (c : ℕ) → has_open (client_at s c).phase ≡ true → held plan c (client_at s c) ≡ cold_ops plan.layout (script_now plan c (client_at s c))
