-- Two-phase locking: a client takes locks one after another, and only then gives them back.
use Rattle.std.specs.Prelude.{◌≡◌, ◌⊎◌, ℕ, List, [], ◌∷◌, ◌++◌, Some}
use Rattle.host_store.specs.Store as hosts
use Rattle.txn_model.specs.declared.op.Op.{Op}
use Rattle.txn_model.specs.declared.pairs.Pair.{Pair}
use Rattle.catalogue.specs.Plan.{Plan}
use Rattle.catalogue.specs.declared.actor.Actor.{Actor}
use Rattle.catalogue.specs.declared.actor.Actor.TheVariants.{Client}
use Rattle.core_model.specs.declared.phase.Phase.{Phase}
use Rattle.core_model.specs.declared.phase.Phase.TheVariants.{Aborting, Installing}
use Rattle.core_model.specs.Asking.{IsAsking}
use Rattle.host_locks.specs.Conflict.{IsFree}
use Rattle.core_model.specs.Locks.{held}
use Rattle.fabric_model.specs.Asking.{in_the_way}
use Rattle.fabric_model.specs.State.{State, client_at}
use Rattle.fabric_model.specs.Step.{next_op}

-- the operations for whose tuples a client holds locks, in the order in which it took them
abbrev pub locks_at : Plan → State → ℕ → List Op
locks_at plan s c = held plan c (client_at s c)

-- the client goes on in this phase until it holds no lock
abbrev pub StaysUntilFree : Phase → Plan → State → ℕ → Type 0
StaysUntilFree phase plan next c = ((client_at next c).phase ≡ phase) ⊎ (locks_at plan next c ≡ [])

-- the lock for one more operation was granted, while its client asked for locks and no lock stood in the way
pub record IsTaken (plan : Plan) (s next : State) (c : ℕ) : Type 0 where
  pub op : Op
  pub phase : IsAsking (client_at s c)
  pub asked : next_op plan c (client_at s c) ≡ Some op
  pub free : IsFree (in_the_way plan s op) c
  pub locks : locks_at plan next c ≡ locks_at plan s c ++ op ∷ []

-- the lock that was taken last was released, while its client aborted; it then takes none until it has released all
pub record IsReleased (plan : Plan) (s next : State) (c : ℕ) : Type 0 where
  pub op : Op
  pub phase : (client_at s c).phase ≡ Aborting
  pub locks : locks_at plan s c ≡ locks_at plan next c ++ op ∷ []
  pub until : StaysUntilFree Aborting plan next c

-- the lock that was taken first of those that stand was given back when its tuple got the client's value and stamp; the client
-- then takes none until it has given back all
pub record IsInstalled (plan : Plan) (s next : State) (c : ℕ) : Type 0 where
  pub op : Op
  pub pair : Pair
  pub phase : (client_at s c).phase ≡ Installing
  pub locks : locks_at plan s c ≡ op ∷ locks_at plan next c
  pub store : next.store ≡ hosts.installed s.store op.tuple pair.now (client_at s c).last
  pub until : StaysUntilFree Installing plan next c

-- what a move does to the locks of a client: they stand, unless it is the client's move and one of these
abbrev pub KeepsLocks : Plan → State → State → Actor → ℕ → Type 0
KeepsLocks plan s next actor c =
    (locks_at plan next c ≡ locks_at plan s c) ⊎ ((actor ≡ Client c) × (IsTaken plan s next c ⊎ (IsReleased plan s next c ⊎ IsInstalled plan s next c)))
