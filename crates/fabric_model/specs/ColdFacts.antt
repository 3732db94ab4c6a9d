-- What holds between any two moves of the clients, the hosts' store and the answered entries of the history. It knows no switch:
-- the chains are those of the tuples of hosts.
use Rattle.std.specs.Prelude.{◌≡◌, ◌≢◌, ◌⊎◌, ℕ, ◌<◌, ◌≤◌, ◌==◌, true, false, [], length, slice_get, Some}
use Rattle.std.specs.List.{AllByRecursion}
use Rattle.txn_model.specs.ScriptCheck.{names, is_read}
use Rattle.txn_model.specs.Tuples.{value_at}
use Rattle.txn_model.specs.declared.op.Op.{Op}
use Rattle.txn_model.specs.declared.op.TupleId.{TupleId}
use Rattle.txn_model.specs.declared.pairs.Pair.{Pair}
use Rattle.txn_model.specs.declared.stamp.Seen.{Seen}
use Rattle.history_model.specs.Chain.{IsLocal, Chain, all_steps, last_value}
use Rattle.history_model.specs.History.{History, IsInStampOrder}
use Rattle.catalogue.specs.Plan.{Plan}
use Rattle.core_model.specs.declared.phase.Phase.{Phase}
use Rattle.core_model.specs.declared.phase.Phase.TheVariants.{Ready, Locking, Aborting, Logged, Waiting, Installing, Finished}
use Rattle.core_model.specs.State.{ClientState, Store, seen_at, script_now}
use Rattle.core_model.specs.Locks.{cold_ops}
use Rattle.core_model.specs.StampOrder.{AtMost}
use Rattle.stage_layout.specs.Late.{is_hot}
use Rattle.core_model.specs.Facts.{Clients, Stands, IsOpen, NoOpenWriter, script_of_entry, answered, writes, steps_now}

-- the locks of a client in this phase: how many there are, and how many are installed
abbrev pub FitsPhase : Plan → ℕ → ClientState → Phase → Type 0
FitsPhase plan c x Ready = (x.noted ≡ []) × (x.installed ≡ 0)
FitsPhase plan c x Locking = (length x.noted ≤ length (cold_ops plan.layout (script_now plan c x))) × (x.installed ≡ 0)
FitsPhase plan c x Aborting = (x.installed ≡ 0) × (0 < length x.noted) × (length x.noted ≤ length (cold_ops plan.layout (script_now plan c x)))
FitsPhase plan c x Logged = (length x.noted ≡ length (cold_ops plan.layout (script_now plan c x))) × (x.installed ≡ 0)
FitsPhase plan c x Waiting = (length x.noted ≡ length (cold_ops plan.layout (script_now plan c x))) × (x.installed ≡ 0)
FitsPhase plan c x Installing = (length x.noted ≡ length (cold_ops plan.layout (script_now plan c x))) × (length (steps_now plan c x) ≡ length x.noted) × (x.installed ≤ length x.noted)
FitsPhase plan c x Finished = (x.noted ≡ []) × (x.installed ≡ 0)

pub record ColdFacts (plan : Plan) (at : Clients) (store : Store) (h : History) : Type 0 where
  pub fits : (c : ℕ) → FitsPhase plan c (at c) (at c).phase
  -- two locks of two clients on one tuple are both shared
  pub apart : (c d k j : ℕ) (op other : Op) → c ≢ d → Stands plan c (at c) k op → Stands plan d (at d) j other → (op.tuple.0 == other.tuple.0) ≡ true → is_read op.act ≡ true
  -- what was read under a lock that stands is what the store has
  pub value : (c k : ℕ) (op : Op) (seen : Seen) → Stands plan c (at c) k op → slice_get (at c).noted k ≡ Some seen → seen.value ≡ (seen_at store op.tuple).value
  -- the stamp that was read is at least that of each entry that changes the tuple and no longer holds its lock, and under an
  -- exclusive lock of each that names it
  pub writers : (c k : ℕ) (op : Op) (seen : Seen) → Stands plan c (at c) k op → slice_get (at c).noted k ≡ Some seen
      → AllByRecursion (λ e. writes (script_of_entry plan e) op.tuple ≡ true → IsOpen plan at e op.tuple ⊎ AtMost e.entry.stamp seen.stamp) h
  pub namers : (c k : ℕ) (op : Op) (seen : Seen) → Stands plan c (at c) k op → is_read op.act ≡ false → slice_get (at c).noted k ≡ Some seen
      → AllByRecursion (λ e. names (script_of_entry plan e) op.tuple ≡ true → IsOpen plan at e op.tuple ⊎ AtMost e.entry.stamp seen.stamp) h
  -- a tuple's stamp is at least that of each entry that names it and no longer holds its lock
  pub settled : (t : TupleId) → is_hot plan.layout t ≡ false → AllByRecursion (λ e. names (script_of_entry plan e) t ≡ true → IsOpen plan at e t ⊎ AtMost e.entry.stamp (seen_at store t).stamp) h
  -- a client's last stamp is at least that of each of its entries
  pub own : (c : ℕ) → AllByRecursion (λ e. e.entry.client ≡ c → AtMost e.entry.stamp (at c).last) h
  pub sorted : IsInStampOrder h
  -- the pairs follow from what was found, and at each tuple of a host they form a chain in history order
  pub local : AllByRecursion IsLocal (answered plan h)
  pub chains : (t : TupleId) → is_hot plan.layout t ≡ false → Chain t (value_at plan.tuples t) (all_steps (answered plan h))
  -- the last value in history order is the stored one, unless a decided script is about to change it: then it is that one's
  pub unchanged : (t : TupleId) → is_hot plan.layout t ≡ false → NoOpenWriter plan at t → last_value t (value_at plan.tuples t) (all_steps (answered plan h)) ≡ (seen_at store t).value
  pub changed : (c k : ℕ) (op : Op) (p : Pair) → Stands plan c (at c) k op → (at c).phase ≡ Installing → is_read op.act ≡ false → slice_get (steps_now plan c (at c)) k ≡ Some (op, p)
      → last_value op.tuple (value_at plan.tuples op.tuple) (all_steps (answered plan h)) ≡ p.now
  -- a decided script found what was read under its locks, and leaves what it reads
  pub found : (c k : ℕ) (op : Op) (p : Pair) (seen : Seen) → Stands plan c (at c) k op → (at c).phase ≡ Installing → slice_get (steps_now plan c (at c)) k ≡ Some (op, p) → slice_get (at c).noted k ≡ Some seen → p.was ≡ seen.value
  pub leaves : (c k : ℕ) (op : Op) (p : Pair) → (at c).phase ≡ Installing → slice_get (steps_now plan c (at c)) k ≡ Some (op, p) → is_read op.act ≡ true → p.now ≡ p.was
