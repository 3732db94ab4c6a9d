-- What stands behind each note of running a session, of which this is printed. The run took its turns in this way.
use Rattle.std.specs.Prelude.{◌≡◌, ◌⊎◌, ℕ, List, Option, Some}
use Rattle.std.specs.Io.KnownBytes.{Appends}
use Rattle.catalogue.specs.Plan.{Plan}
use Rattle.catalogue.specs.declared.actor.Actor.{Actor}
use Rattle.fabric_core.specs.Racks.{Rack}
use Rattle.fabric_core.specs.declared.turn.Stop.TheVariants as stops
use Rattle.fabric_core.specs.declared.turn.BeginFault.{BeginFault}
use Rattle.fabric_core.specs.declared.turn.BeginFault.TheVariants as begins
use Rattle.fabric_core.specs.declared.turn.End.{End}
use Rattle.fabric_core.specs.declared.turn.End.TheVariants as ends
use Rattle.fabric_model.specs.Driven.{IsFinished}
use Rattle.fabric_model.specs.Run.{state_of}
use Rattle.fabric_model.specs.State.{State}
use Rattle.port_io.specs.WriteAll.{AppendsFront}
use Rattle.p4db_top.specs.declared.note.Note.{Note}
use Rattle.p4db_top.specs.declared.note.Note.TheVariants.{Done, WriteFault, LogFault, LogChanged, NoMemory}
use Rattle.p4db_top.specs.declared.output.Output.{Output}
use Rattle.p4db_top.specs.Order.{Way, IsMade}
use Rattle.p4db_top.specs.Outputs.{output_text}
use Rattle.p4db_top.specs.Logs.{HasLogs, Stops, StopsShort, LogFails}

-- a run of the session came to its end, and its output was written so
pub record Reports (way : Way) (output : Output) (IsWritten : List ℕ → Type 0) (session : Plan) (old new : Rack) : Type 0 where
  pub trace : List Actor
  pub state : State
  pub made : IsMade way session trace
  pub run : state_of session trace ≡ Some state
  pub finished : IsFinished state
  pub printed : IsWritten (output_text output session state trace)
  pub logs : HasLogs way session state old new

abbrev pub Ran : Way → Output → Note → Plan → (before after : Option (List ℕ)) → (old new : Rack) → Type 0
Ran way output Done session before after old new = Reports way output (Appends before after) session old new
Ran way output WriteFault session before after old new = Reports way output (AppendsFront before after) session old new
Ran way output (LogFault c) session before after old new = (after ≡ before) × LogFails way session c old new
Ran way output (LogChanged c at) session before after old new = (after ≡ before) × Stops way session (stops.LogChanged c at) old new
Ran way output NoMemory session before after old new =
    ((after ≡ before) × (new ≡ old)) ⊎ (((after ≡ before) × StopsShort way session old new) ⊎ Reports way output (AppendsFront before after) session old new)
Ran way output other session before after old new = ⊥

-- How the output of a run that ended so was written, which is this text; a front of it may stand where memory ran out in the writing.
abbrev pub Closed : Note → End → List ℕ → (before after : Option (List ℕ)) → Type 0
Closed Done end text before after = (end ≡ ends.Finished) × Appends before after text
Closed WriteFault end text before after = (end ≡ ends.Finished) × AppendsFront before after text
Closed (LogFault c) end text before after = (end ≡ ends.LogFault c) × (after ≡ before)
Closed (LogChanged c at) end text before after = (end ≡ ends.LogChanged c at) × (after ≡ before)
Closed NoMemory end text before after = ((end ≡ ends.NoMemory) × (after ≡ before)) ⊎ ((end ≡ ends.Finished) × AppendsFront before after text)
Closed other end text before after = ⊥

-- the note of a run that did not begin
abbrev pub begin_note : BeginFault → Note
begin_note (begins.LogFault c) = LogFault c
begin_note begins.NoMemory = NoMemory
