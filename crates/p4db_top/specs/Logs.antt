-- What is said of the logs of a run that takes its turns in this way.
use Rattle.std.specs.Prelude.{◌≡◌, ◌⊎◌, ℕ, List, ◌++◌, length, Some, IsTrue}
use Rattle.port_io.specs.Cause.{Rose}
use Rattle.catalogue.specs.Plan.{Plan}
use Rattle.catalogue.specs.declared.actor.Actor.{Actor}
use Rattle.fabric_core.specs.Begun.{IsNotReset}
use Rattle.fabric_core.specs.Racks.{Rack}
use Rattle.fabric_core.specs.RecordTexts.{HasStopCause, LogsMatch, TellsAll}
use Rattle.fabric_core.specs.declared.turn.Stop.{Stop}
use Rattle.fabric_core.specs.declared.turn.Stop.TheVariants as stops
use Rattle.fabric_model.specs.Run.{state_of}
use Rattle.fabric_model.specs.State.{State}
use Rattle.p4db_top.specs.Order.{Way, IsMade, LeavesOthers}
use Rattle.p4db_top.specs.declared.note.Note.{Note}
use Rattle.p4db_top.specs.declared.note.Note.TheVariants.{Usage, ReadFault, InputTooLong, Session, LogFault}

-- what the rack made of a state's records
pub record HasLogs (way : Way) (session : Plan) (s : State) (old new : Rack) : Type 0 where
  -- where the rack kept, the log of each client of the session is told as the text of its records
  pub told : IsTrue old.keeps → TellsAll session s new
  pub beyond : LeavesOthers way (length session.clients) old new

-- some of the moves of a trace were made, from the first on, and they make this state
pub record MakesSome (way : Way) (session : Plan) (s : State) : Type 0 where
  pub made : List Actor
  pub left : List Actor
  pub whole : IsMade way session (made ++ left)
  pub run : state_of session made ≡ Some s

-- Memory ran out in a run.
pub record StopsShort (way : Way) (session : Plan) (old new : Rack) : Type 0 where
  pub state : State
  pub some : MakesSome way session state
  pub logs : HasLogs way session state old new

-- A log stopped the run. `cause` says which one, and of what: a record that could not be appended, a log that could not be read,
-- or one that was not what the run had written. Where the rack kept, the logs say what the records do, but that a front of the
-- record which could not be appended may stand behind the others of its client.
pub record Stops (way : Way) (session : Plan) (stop : Stop) (old new : Rack) : Type 0 where
  pub state : State
  pub some : MakesSome way session state
  pub cause : HasStopCause session state (Some stop) old.faults new
  pub told : IsTrue old.keeps → LogsMatch session state (Some stop) new
  pub beyond : LeavesOthers way (length session.clients) old new

-- the client's log could not be emptied, or it stopped the run with a failure
abbrev pub LogFails : Way → Plan → ℕ → (old new : Rack) → Type 0
LogFails way session c old new = IsNotReset (length session.clients) old new c ⊎ Stops way session (stops.LogFault c) old new

-- the note is that a log failed
abbrev pub IsLogFault : Note → Type 0
IsLogFault (LogFault c) = Unit {0}
IsLogFault other = ⊥

-- The rack's count of failures rose where the note is that a log failed, and stands still where it is another one.
pub record HasLogCause (before now : ℕ) (note : Note) : Type 0 where
  pub rose : IsLogFault note → Rose before now
  pub still : (IsLogFault note → ⊥) → now ≡ before

-- the note says that nothing was run, and no log was read
abbrev pub IsOfNoRun : Note → Type 0
IsOfNoRun Usage = Unit {0}
IsOfNoRun ReadFault = Unit {0}
IsOfNoRun InputTooLong = Unit {0}
IsOfNoRun (Session fault) = Unit {0}
IsOfNoRun other = ⊥
