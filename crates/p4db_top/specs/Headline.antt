-- The headline of a run, and what each other answer of a command that runs a session is owed to. The run takes its turns in this way.
use Rattle.std.specs.Prelude.{◌≡◌, ◌≢◌, ◌⊎◌, ℕ, List, Option, Some, Ok, Err}
use Rattle.std.specs.Io.KnownBytes.{Appends}
use Rattle.catalogue.specs.Plan.{Plan}
use Rattle.catalogue.specs.declared.actor.Actor.{Actor}
use Rattle.fabric_core.specs.Racks.{Rack}
use Rattle.fabric_core.specs.declared.turn.Stop.TheVariants as stops
use Rattle.fabric_model.specs.Run.{state_of}
use Rattle.fabric_model.specs.State.{State}
use Rattle.port_io.specs.ReadAll.{TakesAll, TakesWithin, TakesBeyond}
use Rattle.port_io.specs.WriteAll.{AppendsFront}
use Rattle.session_reader.specs.SessionOf.{session_of}
use Rattle.session_reader.specs.declared.fault.SessionFault.{SessionFault}
use Rattle.session_reader.specs.declared.fault.SessionFault.TheVariants.{NoMemory as no_memory}
use Rattle.p4db_top.specs.declared.note.Note.{Note}
use Rattle.p4db_top.specs.declared.note.Note.TheVariants.{Done, ReadFault, InputTooLong, WriteFault, Session, LogFault, LogChanged, NoMemory}
use Rattle.p4db_top.specs.declared.output.Output.{Output}
use Rattle.p4db_top.specs.declared.output.Output.TheVariants.{Report}
use Rattle.p4db_top.specs.Logs.{HasLogs, Stops, StopsShort, LogFails}
use Rattle.p4db_top.specs.Order.{Way, IsMade}
use Rattle.p4db_top.specs.Outputs.{output_text}
use Rattle.p4db_top.specs.Serial.{IsSerial, IsOnceEach, HaveCauses, KeepsAnswers}

-- the longest input that is read, in bytes
abbrev pub most_input : ℕ
most_input = 16777216

-- the source was read to its end, and all that was left in it is the text of this session
pub record IsRead (left rest : Option (List ℕ)) (session : Plan) : Type 0 where
  pub bytes : List ℕ
  pub taken : TakesAll most_input left rest bytes
  pub is : session_of bytes ≡ Ok session

-- What stands behind status 0 of a run. `IsGiven` says where its session is from, `output` what is printed of it.
pub record Headline (way : Way) (IsGiven : Plan → Type 0) (output : Output) (before after : Option (List ℕ)) (old new : Rack) : Type 0 where
  pub session : Plan
  pub trace : List Actor
  pub state : State
  -- all that was left in the source is the text of this session, or it is the generated one
  pub given : IsGiven session
  -- its trace came about so
  pub made : IsMade way session trace
  -- these moves make this state of the session's opening
  pub run : state_of session trace ≡ Some state
  -- exactly the report or the summary of that was written
  pub printed : Appends before after (output_text output session state trace)
  -- there is one serial order that gives all that a report tells
  pub serial : IsSerial session state
  -- each item of the session ended, once, and each client's in its order
  pub once_each : IsOnceEach session trace state
  -- no lock was refused, and no transaction aborted, without cause
  pub aborts_have_causes : HaveCauses session trace state
  -- no answer changed, nor was any lost, when the switch was lost or recovered
  pub answers_stand : KeepsAnswers session trace
  -- where the rack kept, each client's log is told as the text of that client's records in that state
  pub logs_match : HasLogs way session state old new

-- all that was left was read, and it is refused as the text of a session, for this cause
pub record Refuses (left rest : Option (List ℕ)) (fault : SessionFault) : Type 0 where
  pub bytes : List ℕ
  pub taken : TakesAll most_input left rest bytes
  pub is : session_of bytes ≡ Err fault
  -- it is a fault of the text
  pub told : fault ≢ no_memory

-- A session was run, and a front of its output was written: what stands behind status 4.
pub record WritesFront (way : Way) (IsGiven : Plan → Type 0) (output : Output) (before after : Option (List ℕ)) (old new : Rack) : Type 0 where
  pub session : Plan
  pub trace : List Actor
  pub state : State
  -- the first three parts are those of the headline
  pub given : IsGiven session
  pub made : IsMade way session trace
  pub run : state_of session trace ≡ Some state
  -- a front of the report or the summary of that was written
  pub printed : AppendsFront before after (output_text output session state trace)
  -- the logs are those of a whole run
  pub logs_match : HasLogs way session state old new

-- a session was given so, and this is true of it
pub record OfSession (IsGiven : Plan → Type 0) (Is : Plan → Type 0) : Type 0 where
  pub session : Plan
  pub given : IsGiven session
  pub is : Is session

-- why no session was read, and what was taken of the source
abbrev pub StopsReading : Note → (left rest : Option (List ℕ)) → Type 0
StopsReading ReadFault left rest = TakesWithin most_input left rest
StopsReading InputTooLong left rest = TakesBeyond most_input left rest
StopsReading (Session fault) left rest = Refuses left rest fault
StopsReading NoMemory left rest = TakesWithin most_input left rest
StopsReading other left rest = ⊥

-- What stands behind each note of running a session that was given so; `before` and `after` are the sink's bytes.
abbrev pub ExplainsRun : Way → (IsGiven : Plan → Type 0) → Output → Note → (before after : Option (List ℕ)) → (old new : Rack) → Type 0
ExplainsRun way IsGiven output Done before after old new = Headline way IsGiven output before after old new
ExplainsRun way IsGiven output WriteFault before after old new = WritesFront way IsGiven output before after old new
ExplainsRun way IsGiven output (LogFault c) before after old new = OfSession IsGiven (λ session. LogFails way session c old new) × (after ≡ before)
ExplainsRun way IsGiven output (LogChanged c at) before after old new = OfSession IsGiven (λ session. Stops way session (stops.LogChanged c at) old new) × (after ≡ before)
ExplainsRun way IsGiven output NoMemory before after old new =
    (OfSession IsGiven (λ session. StopsShort way session old new) × (after ≡ before)) ⊎ WritesFront way IsGiven output before after old new
ExplainsRun way IsGiven output other before after old new = ⊥

-- What stands behind each note of a command that reads a session and runs it. That the rack is the same where nothing was run is a
-- clause of its own.
abbrev pub Explains : Way → Note → (left rest before after : Option (List ℕ)) → (old new : Rack) → Type 0
Explains way ReadFault left rest before after old new = TakesWithin most_input left rest × (after ≡ before)
Explains way InputTooLong left rest before after old new = TakesBeyond most_input left rest × (after ≡ before)
Explains way (Session fault) left rest before after old new = Refuses left rest fault × (after ≡ before)
Explains way NoMemory left rest before after old new =
    (TakesWithin most_input left rest × (after ≡ before) × (new ≡ old)) ⊎ ExplainsRun way (IsRead left rest) Report NoMemory before after old new
Explains way note left rest before after old new = ExplainsRun way (IsRead left rest) Report note before after old new
