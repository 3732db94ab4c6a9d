-- Entries and locks, as they stand to scripts.
use Rattle.std.specs.Prelude.{◌≡◌, ℕ, ◌<◌, ◌≤◌, ◌==◌, ◌&&◌, Bool, true, not, List, [], map, length, slice_get, unwrap_or, Some}
use Rattle.std.specs.List.{list_any}
use Rattle.txn_model.specs.ScriptCheck.{is_read}
use Rattle.txn_model.specs.declared.op.Op.{Op}
use Rattle.txn_model.specs.declared.op.TupleId.{TupleId}
use Rattle.history_model.specs.Chain.{Answered, Step}
use Rattle.history_model.specs.History.{HistoryEntry, History}
use Rattle.catalogue.specs.Plan.{Plan, script_at}
use Rattle.core_model.specs.declared.phase.Phase.TheVariants.{Installing}
use Rattle.core_model.specs.State.{ClientState, script_now}
use Rattle.core_model.specs.Locks.{cold_ops}
use Rattle.core_model.specs.Decision.{cold_steps}

-- each client's state, by its number
abbrev pub Clients : Type 0
Clients = ℕ → ClientState

abbrev pub script_of_entry : Plan → HistoryEntry → List Op
script_of_entry plan e = script_at plan e.entry.client e.entry.seq

-- the entries' scripts with their pairs
abbrev pub answered : Plan → History → List Answered
answered plan h = map (λ e. (script_of_entry plan e, unwrap_or e.pairs [])) h

-- an operation of the script changes the tuple
abbrev pub writes : List Op → TupleId → Bool
writes ops t = list_any (λ op. (op.tuple.0 == t.0) && not (is_read op.act)) ops

-- the client's lock for its k-th operation on hosts stands
pub record Stands (plan : Plan) (c : ℕ) (x : ClientState) (k : ℕ) (op : Op) : Type 0 where
  pub from : x.installed ≤ k
  pub to : k < length x.noted
  pub is : slice_get (cold_ops plan.layout (script_now plan c x)) k ≡ Some op

-- the operations on hosts of a decided script, with their pairs
abbrev pub steps_now : Plan → ℕ → ClientState → List Step
steps_now plan c x = cold_steps plan.layout (script_now plan c x) x.reply

-- the entry is that of a decided script whose lock on the tuple still stands
pub record IsOpen (plan : Plan) (at : Clients) (e : HistoryEntry) (t : TupleId) : Type 0 where
  pub phase : (at e.entry.client).phase ≡ Installing
  pub seq : e.entry.seq ≡ (at e.entry.client).seq
  pub k : ℕ
  pub op : Op
  pub stands : Stands plan e.entry.client (at e.entry.client) k op
  pub on : (op.tuple.0 == t.0) ≡ true

-- no decided script is about to change the tuple
abbrev pub NoOpenWriter : Plan → Clients → TupleId → Type 0
NoOpenWriter plan at t = (c k : ℕ) (op : Op) → Stands plan c (at c) k op → (at c).phase ≡ Installing → (op.tuple.0 == t.0) ≡ true → is_read op.act ≡ true
