-- When the stamp of an entry was fixed, and above what it stood then.
use Rattle.std.specs.Prelude.{◌≡◌, ◌≢◌, ℕ, List, take, slice_get, Option, Some, Contains}
use Rattle.std.specs.List.{AllByRecursion}
use Rattle.txn_model.specs.declared.pairs.Pair.{Pair}
use Rattle.history_model.specs.declared.entry.Entry.{Entry}
use Rattle.catalogue.specs.Plan.{Plan}
use Rattle.catalogue.specs.declared.actor.Actor.{Actor}
use Rattle.core_model.specs.StampOrder.{Below}
use Rattle.fabric_model.specs.Run.{state_of}
use Rattle.fabric_model.specs.State.{State, client_at}
use Rattle.fabric_model.specs.Step.{step}

-- A move of the trace put the entry into the history. It is that of its client's present item then, and its stamp is above the
-- client's last one and above the stamp that was noted with each lock that the client held.
pub record IsFixed (plan : Plan) (trace : List Actor) (entry : Entry) : Type 0 where
  pub at : ℕ
  pub actor : Actor
  pub before : State
  pub after : State
  pub run : state_of plan (take at trace) ≡ Some before
  pub moves : slice_get trace at ≡ Some actor
  pub makes : step plan before actor ≡ Some after
  pub new : AllByRecursion (λ e. e.entry ≢ entry) before.history
  pub pairs : Option (List Pair)
  pub there : Contains after.history (record { entry = entry; pairs = pairs })
  pub item : (client_at before entry.client).seq ≡ entry.seq
  pub last : Below (client_at before entry.client).last entry.stamp
  pub noted : AllByRecursion (λ seen. Below seen.stamp entry.stamp) (client_at before entry.client).noted

-- that holds of each entry
abbrev pub HasStampsAbove : Plan → List Actor → State → Type 0
HasStampsAbove plan trace s = AllByRecursion (λ e. IsFixed plan trace e.entry) s.history
