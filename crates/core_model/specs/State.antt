-- States of clients.
use Rattle.std.specs.Prelude.{ℕ, nat_le, if◌then◌else◌, List, [], unwrap_or}
use Rattle.txn_model.specs.declared.op.Op.{Op}
use Rattle.txn_model.specs.declared.pairs.Pair.{Pair}
use Rattle.txn_model.specs.declared.stamp.Seen.{Seen}
use Rattle.txn_model.specs.declared.stamp.Stamp.{Stamp}
pub use Rattle.host_store.specs.Store.{Store, first_seen, seen_at}
use Rattle.catalogue.specs.Plan.{Plan, script_of}
use Rattle.core_model.specs.declared.phase.Phase.{Phase}
use Rattle.core_model.specs.declared.phase.Phase.TheVariants.{Ready, Finished}

-- a client: its phase; the number of its present item and how often that was refused; what it read with each lock of this
-- try that it hasn't released in aborting, in the order of the locks; how many values of its reply it has installed; the
-- stamp of its last transaction; and the reply of a decided one
pub record ClientState : Type 0 where
  pub phase : Phase
  pub seq : ℕ
  pub refused : ℕ
  pub noted : List Seen
  pub installed : ℕ
  pub last : Stamp
  pub reply : List Pair

abbrev pub zero_stamp : Stamp
zero_stamp = record { number = 0; sub = 0 }

-- a client at the beginning of an item, where it has one
abbrev pub at_item : ℕ → ℕ → Stamp → ClientState
at_item items seq last = record { phase = if nat_le seq items then Ready else Finished; seq = seq; refused = 0; noted = []; installed = 0; last = last; reply = [] }

-- the script of a client's present item; no operations where there is none
abbrev pub script_now : Plan → ℕ → ClientState → List Op
script_now plan c client = unwrap_or (script_of plan c client.seq) []
