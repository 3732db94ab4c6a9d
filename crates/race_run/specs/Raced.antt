-- What a run is whose turns many threads made.
use Rattle.std.specs.Prelude.{◌≡◌, Some, None}
use Rattle.catalogue.specs.Plan.{Plan}
use Rattle.fabric_model.specs.Driven.{IsFinished}
use Rattle.fabric_model.specs.Laws.{IsReached}
use Rattle.fabric_model.specs.Run.{state_of}
use Rattle.fabric_core.specs.Running.{Running, state_in}
use Rattle.fabric_core.specs.declared.turn.End.{End}
use Rattle.fabric_core.specs.declared.turn.End.TheVariants.{Finished, LogFault, LogChanged, NoMemory}
use Rattle.fabric_core.specs.declared.turn.Stop.TheVariants as stops

-- how it ended: all clients have finished; or a log has stopped it; or memory ran out, and it can go on
abbrev pub EndsWith : {R : Type 0} → Running R → End → Type 0
EndsWith run Finished = IsFinished (state_in run) × (run.stop ≡ None)
EndsWith run (LogFault c) = run.stop ≡ Some (stops.LogFault c)
EndsWith run (LogChanged c at) = run.stop ≡ Some (stops.LogChanged c at)
EndsWith run NoMemory = run.stop ≡ None

-- It is a run of this session: its state is what its moves make of the opening, and each of them could be made.
pub record IsRaced {R : Type 0} (session : Plan) (run : Running R) (end : End) : Type 0 where
  pub named : run.plan ≡ session
  pub moves : state_of run.plan run.trace ≡ Some (state_in run)
  pub reached : IsReached run.plan (state_in run)
  pub ends : EndsWith run end
