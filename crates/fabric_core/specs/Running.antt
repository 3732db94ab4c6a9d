-- A run as contracts see it.
use Rattle.std.specs.Prelude.{List, ◌++◌, Option}
use Rattle.catalogue.specs.Plan.{Plan}
use Rattle.catalogue.specs.declared.actor.Actor.{Actor}
use Rattle.fabric_model.specs.Rota.{movers}
use Rattle.fabric_model.specs.Run.{state_now}
use Rattle.fabric_model.specs.State.{State}
use Rattle.fabric_core.specs.declared.turn.Stop.{Stop}

-- what is run, who moved so far, why it stopped, where it did, and the logs
pub record Running (R : Type 0) : Type 0 where
  pub plan : Plan
  pub trace : List Actor
  pub stop : Option Stop
  pub rack : R

-- the state that the trace makes of the plan's opening
abbrev pub state_in : {R : Type 0} → Running R → State
state_in run = state_now run.plan run.trace

-- the run behind further moves, with its logs as these are
abbrev pub with_moves : {R : Type 0} → Running R → List Actor → R → Running R
with_moves run moves rack = record { plan = run.plan; trace = run.trace ++ moves; stop = run.stop; rack = rack }

-- the run where it stopped
abbrev pub stopped : {R : Type 0} → Running R → Option Stop → R → Running R
stopped run stop rack = record { plan = run.plan; trace = run.trace; stop = stop; rack = rack }

-- the run when these actors have taken their turns in order; none is taken once all clients have finished
abbrev pub taken : {R : Type 0} → Running R → List Actor → R → Running R
taken run actors rack = with_moves run (movers run.plan (state_in run) actors) rack
