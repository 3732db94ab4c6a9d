-- When a refusal is a true one.
use Rattle.std.specs.Prelude.{◌≡◌, ℕ, Bool, true, false, List, take, slice_get, Some}
use Rattle.std.specs.List.{list_any, list_all}
use Rattle.txn_model.specs.declared.op.Op.{Op}
use Rattle.stage_layout.specs.Late.{is_hot}
use Rattle.catalogue.specs.Plan.{Plan, script_at}
use Rattle.catalogue.specs.declared.actor.Actor.{Actor}
use Rattle.catalogue.specs.declared.actor.Actor.TheVariants.{Client}
use Rattle.host_locks.specs.Conflict.{IsLeastInTheWay}
use Rattle.core_model.specs.Asking.{IsAsking}
use Rattle.core_model.specs.Ends.{refused_times}
use Rattle.core_model.specs.Locks.{held, clashes}
use Rattle.core_model.specs.declared.refusal.Refusal.{Refusal}
use Rattle.fabric_model.specs.Run.{state_of}
use Rattle.fabric_model.specs.State.{State, client_at}
use Rattle.fabric_model.specs.Step.{next_op}

-- a client's locks stand in the way of the operation
abbrev pub in_the_way : Plan → State → Op → ℕ → Bool
in_the_way plan s op client = list_any (clashes op) (held plan client (client_at s client))

-- Behind as many moves of the trace as the refusal says, its client moved. It was at this item and asked for a lock on this
-- tuple, and the holder was the least other client whose lock stood in the way.
pub record IsTrue (plan : Plan) (trace : List Actor) (r : Refusal) : Type 0 where
  pub before : State
  pub run : state_of plan (take r.at trace) ≡ Some before
  pub actor : slice_get trace r.at ≡ Some (Client r.client)
  pub seq : (client_at before r.client).seq ≡ r.seq
  pub asking : IsAsking (client_at before r.client)
  pub op : Op
  pub next : next_op plan r.client (client_at before r.client) ≡ Some op
  pub tuple : op.tuple ≡ r.tuple
  pub holder : IsLeastInTheWay (in_the_way plan before op) r.client r.holder

-- the refused lock is that for an operation of the item's script on a tuple of a host
pub record IsOnHost (plan : Plan) (r : Refusal) : Type 0 where
  pub place : ℕ
  pub op : Op
  pub there : slice_get (script_at plan r.client r.seq) place ≡ Some op
  pub tuple : op.tuple ≡ r.tuple
  pub host : is_hot plan.layout op.tuple ≡ false

-- a script whose operations are all in the switch is never refused
abbrev pub HotAreNotRefused : Plan → State → Type 0
HotAreNotRefused plan s = (client seq : ℕ) → list_all (λ op. is_hot plan.layout op.tuple) (script_at plan client seq) ≡ true → refused_times client seq s.refusals ≡ 0
