-- When a client can make its part of a move, and what that makes of what is kept of it.
use Rattle.std.specs.Prelude.{◌≡◌, ◌<◌, ◌≤◌, ℕ, length, Some}
use Rattle.warm_split.specs.Parts.{IsParts}
use Rattle.catalogue.specs.Plan.{Plan, PlainItem, items_of, script_at}
use Rattle.client_phase.specs.Fits.{Fits, FitsMet, ops_of}
use Rattle.client_phase.specs.NextAction.{next_action}
use Rattle.client_phase.specs.Shown.{plain_client, room_of}
use Rattle.client_phase.specs.Stepped.{stepped}
use Rattle.client_phase.specs.declared.action.Action.{Action}
use Rattle.client_phase.specs.declared.action.Met.{Met}
use Rattle.fabric_core.specs.declared.runner.Runner.{Runner}

-- the action is its next one at this item, what it met fits it, and its counts are small
pub record CanStep (plan : Plan) (item : PlainItem) (runner : Runner) (action : Action) (met : Met) : Type 0 where
  pub fits : Fits runner.parts item (plain_client runner.state)
  pub space : 16 ≤ room_of runner.state
  pub next : action ≡ next_action runner.parts (plain_client runner.state) (Some item)
  pub meets : FitsMet action met
  pub tries : runner.state.refused < plan.tries
  pub seq : runner.state.seq < 4294967295
  pub last : runner.state.last.sub < 4294967295
  pub met_sub : runner.state.met.sub < 4294967295

-- it made its part of the move, and has the parts of its present script
pub record HasStepped (plan : Plan) (c : ℕ) (item : PlainItem) (before now : Runner) (action : Action) (met : Met) : Type 0 where
  pub state : plain_client now.state ≡ stepped before.parts (ops_of item) (length (items_of plan c)) plan.tries action met (plain_client before.state)
  pub space : room_of now.state ≡ room_of before.state
  pub parts : IsParts plan.layout (script_at plan c before.state.seq) before.parts → IsParts plan.layout (script_at plan c now.state.seq) now.parts
