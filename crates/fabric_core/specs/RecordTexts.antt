-- The text of a client's log, and how the logs of a run stand to its records.
use Rattle.std.specs.Prelude.{◌≡◌, ◌≢◌, ◌⊎◌, ℕ, ◌<◌, ◌≤◌, List, ◌++◌, length, take, false, Option, Some, None, IfSome, IsTrue}
use Rattle.port_io.specs.Cause.{Rose}
use Rattle.switch_packet.specs.Packets.{PlainIntent, PlainOutcome}
use Rattle.intent_log.specs.LogText.{intent_text, outcome_text, records_text}
use Rattle.intent_log.specs.Told.{DifferAt, IsTold}
use Rattle.catalogue.specs.Plan.{Plan}
use Rattle.catalogue.specs.declared.actor.Actor.{Actor}
use Rattle.catalogue.specs.declared.actor.Actor.TheVariants.{Client, Recover}
use Rattle.fabric_model.specs.Driven.{has_no_loss}
use Rattle.fabric_model.specs.Intents.{with_intent, with_outcome}
use Rattle.fabric_model.specs.State.{Records, State, log_at}
use Rattle.fabric_model.specs.Step.{step}
use Rattle.fabric_core.specs.Racks.{Rack}
use Rattle.fabric_core.specs.declared.turn.Stop.{Stop}
use Rattle.fabric_core.specs.declared.turn.Stop.TheVariants.{LogFault, LogChanged}

-- the texts of a client's records in the order in which they were appended: each intent, and behind it its outcome
abbrev pub text_of : Records → List ℕ
text_of log = records_text log.intents log.outcomes

-- a client's log has one record more, an intent or an outcome, and this is the record's text
abbrev pub HasOneMore : (before after : Records) → List ℕ → Type 0
HasOneMore before after text =
    ((intent : PlainIntent) × (after ≡ with_intent intent before) × (text ≡ intent_text intent))
    ⊎ ((outcome : PlainOutcome) × (after ≡ with_outcome outcome before) × (text ≡ outcome_text outcome))

-- the client can move, and its move adds a record to its log, whose text is this
pub record AddsRecord (plan : Plan) (s : State) (c : ℕ) (text : List ℕ) : Type 0 where
  pub next : State
  pub step : step plan s (Client c) ≡ Some next
  pub more : HasOneMore (log_at s c) (log_at next c) text

-- the log of this client is told as the text of its records
abbrev pub TellsRecords : State → Rack → ℕ → Type 0
TellsRecords s rack c = rack.told c ≡ Some (text_of (log_at s c))

-- so is each log
abbrev pub TellsAll : Plan → State → Rack → Type 0
TellsAll plan s rack = (c : ℕ) → c < length plan.clients → TellsRecords s rack c

-- Each log but this client's is. In its own, behind the text of its records, there is a front of the text of the record that its
-- move in this state adds.
pub record TellsFront (plan : Plan) (s : State) (c : ℕ) (rack : Rack) : Type 0 where
  pub others : (d : ℕ) → d < length plan.clients → d ≢ c → TellsRecords s rack d
  pub text : List ℕ
  pub adds : AddsRecord plan s c text
  pub many : ℕ
  pub within : many ≤ length text
  pub front : rack.told c ≡ Some (text_of (log_at s c) ++ take many text)

-- each log that is told of the clients below this one is the text of its records
abbrev pub AreAsRecorded : State → ℕ → Rack → Type 0
AreAsRecorded s c rack = (d : ℕ) → d < c → IsTold (rack.told d) (text_of (log_at s d))

-- the switch is lost; of the session's clients this is the first whose log is not the text of its records, where it is told, and
-- it differs first at this place
pub record IsFirstChange (plan : Plan) (s : State) (c at : ℕ) (rack : Rack) : Type 0 where
  pub lost : s.switch ≡ None
  pub within : c < length plan.clients
  pub below : AreAsRecorded s c rack
  pub differs : IfSome (rack.told c) (λ log. DifferAt log (text_of (log_at s c)) at)

-- what the logs of a run say in a rack that keeps, by why it stopped: where a log could not be read, the switch is lost, and all
-- stand as the records do; none is ever changed
abbrev pub LogsMatch : Plan → State → Option Stop → Rack → Type 0
LogsMatch plan s None rack = TellsAll plan s rack
LogsMatch plan s (Some (LogFault c)) rack = TellsFront plan s c rack ⊎ ((s.switch ≡ None) × TellsAll plan s rack)
LogsMatch plan s (Some (LogChanged c at)) rack = ⊥

-- the client can move, and adds a record
pub record AddsOne (plan : Plan) (s : State) (c : ℕ) : Type 0 where
  pub text : List ℕ
  pub adds : AddsRecord plan s c text

-- the switch is lost, and no log that is told of the clients below this one has changed
pub record Compares (s : State) (c : ℕ) (rack : Rack) : Type 0 where
  pub lost : s.switch ≡ None
  pub below : AreAsRecorded s c rack

-- the move of the actor is one that can take memory: that of a client that adds a record, or recovery of a switch that is lost
abbrev pub TakesMemory : Plan → State → Actor → Type 0
TakesMemory plan s actor = ((c : ℕ) × (actor ≡ Client c) × AddsOne plan s c) ⊎ ((actor ≡ Recover) × (s.switch ≡ None))

-- a failure was counted since; this client, which is one of the session's, could not append its record, or its log could not be
-- read when the logs were compared
pub record HasFaultOf (plan : Plan) (s : State) (faults : ℕ) (rack : Rack) (c : ℕ) : Type 0 where
  pub within : c < length plan.clients
  pub cause : AddsOne plan s c ⊎ Compares s c rack
  pub rose : Rose faults rack.faults

-- a log has changed, as some item of the session loses the switch, and the rack has counted no failure since
pub record HasChangeOf (plan : Plan) (s : State) (faults : ℕ) (rack : Rack) (c at : ℕ) : Type 0 where
  pub losses : has_no_loss plan ≡ false
  pub change : IsFirstChange plan s c at rack
  pub counted : rack.faults ≡ faults

-- why a run has stopped; where it has not, the rack has counted no failure since
abbrev pub HasStopCause : Plan → State → Option Stop → ℕ → Rack → Type 0
HasStopCause plan s None faults rack = rack.faults ≡ faults
HasStopCause plan s (Some (LogFault c)) faults rack = HasFaultOf plan s faults rack c
HasStopCause plan s (Some (LogChanged c at)) faults rack = HasChangeOf plan s faults rack c at

-- The logs of a run, whose rack had counted so many failures when it began, and kept or not. A rack that kept keeps still, and
-- its logs say what the records do.
pub record IsLogged (plan : Plan) (s : State) (stop : Option Stop) (faults : ℕ) (Kept : Type 0) (rack : Rack) : Type 0 where
  pub keeps : Kept → IsTrue rack.keeps
  pub logs : Kept → LogsMatch plan s stop rack
  pub cause : HasStopCause plan s stop faults rack
