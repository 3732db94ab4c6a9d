-- When a session is sound: within the limits, with a layout that fits, scripts that can be run, and a
-- schedule of its own actors.
use Rattle.std.specs.Prelude.{◌≡◌, ℕ, ◌<◌, ◌≤◌, List, All, length, sum_by, IsSome, None}
use Rattle.std.specs.FinMap as fin
use Rattle.txn_model.specs.ScriptCheck.{script_fault}
use Rattle.txn_model.specs.declared.op.Op.{Op}
use Rattle.stage_layout.specs.Late.{first_bad_turn}
use Rattle.stage_layout.specs.Layout.{layout_fault}
use Rattle.stage_layout.specs.Shape.{IsShape}
use Rattle.catalogue.specs.Plan.{Plan, PlainItem, Run, Lose}
use Rattle.catalogue.specs.declared.actor.Actor.{Actor}
use Rattle.catalogue.specs.declared.actor.Actor.TheVariants.{Client, Port, Stage, Recover}

-- how many items all clients have together
abbrev pub item_count : Plan → ℕ
item_count plan = sum_by length plan.clients

-- the limits on counts and numbers; those on scripts are a part of their faults
pub record IsWithinLimits (plan : Plan) : Type 0 where
  pub shape : IsShape plan.shape
  pub tuples : fin.len plan.tuples ≤ 65536
  pub rows : length plan.layout ≤ 65536
  pub tries : (1 ≤ plan.tries) × (plan.tries ≤ 16)
  pub clients : length plan.clients ≤ 8
  pub items : item_count plan ≤ 4096

-- the script can be run in the session: on tuples that are there, without a fault, in one visit of the switch
pub record IsFit (plan : Plan) (ops : List Op) : Type 0 where
  pub tuples : All (λ op. IsSome (fin.get plan.tuples op.tuple)) ops
  pub script : script_fault ops ≡ None
  pub turns : first_bad_turn plan.layout ops ≡ None

abbrev pub IsFitItem : Plan → PlainItem → Type 0
IsFitItem plan (Run ops) = IsFit plan ops
IsFitItem plan Lose = Unit {0}

-- the actor is one of the session's
abbrev pub IsActor : Plan → Actor → Type 0
IsActor plan (Client client) = client < length plan.clients
IsActor plan (Port client) = client < length plan.clients
IsActor plan (Stage stage) = stage < plan.shape.stages
IsActor plan Recover = Unit {0}

pub record IsSound (plan : Plan) : Type 0 where
  pub limits : IsWithinLimits plan
  pub layout : layout_fault plan.shape plan.tuples plan.layout ≡ None
  pub items : All (All (IsFitItem plan)) plan.clients
  pub schedule : All (IsActor plan) plan.schedule
