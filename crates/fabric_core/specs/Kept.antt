-- What is true of each world.
use Rattle.std.specs.Prelude.{◌≡◌, ℕ, ◌+◌, ◌≤◌, length, Option, Some}
use Rattle.txn_model.specs.Listed.{Listed}
use Rattle.catalogue.specs.Plan.{Plan}
use Rattle.catalogue.specs.Sound.{IsSound}
use Rattle.catalogue.specs.declared.actor.Actor.{Actor}
use Rattle.fabric_model.specs.Bound.{move_bound}
use Rattle.fabric_model.specs.Run.{state_of, state_now}
use Rattle.fabric_core.specs.Racks.{Rack}
use Rattle.fabric_core.specs.RecordTexts.{IsLogged}
use Rattle.fabric_core.specs.Standing.{StandsFor}
use Rattle.fabric_core.specs.declared.core_state.CoreState.{CoreState}
use Rattle.fabric_core.specs.declared.turn.Stop.{Stop}

-- The session is the named one, and sound. What is kept stands for the state that the trace makes of its opening. There is room for all moves that may come. The logs stand as the records do, from when the rack had counted so many
-- failures, and kept or not.
pub record IsKept (session plan : Plan) (faults : ℕ) (Kept : Type 0) (core : CoreState) (trace : Listed Actor) (stop : Option Stop) (rack : Rack) : Type 0 where
  pub named : plan ≡ session
  pub sound : IsSound plan
  pub run : state_of plan trace.items ≡ Some (state_now plan trace.items)
  pub stands : StandsFor plan (state_now plan trace.items) core
  pub space : move_bound plan ≤ length trace.items + trace.spare
  pub logged : IsLogged plan (state_now plan trace.items) stop faults Kept rack
