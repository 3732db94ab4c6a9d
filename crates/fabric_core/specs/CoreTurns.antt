-- What a turn makes of what is kept of a run, and of its rack.
use Rattle.std.specs.Prelude.{◌≡◌, ◌⊎◌, ℕ, ◌<◌, List, length, IsTrue, None}
use Rattle.port_io.specs.Cause.{Rose}
use Rattle.port_io.specs.declared.log_rack.RackFault.{RackFault}
use Rattle.port_io.specs.declared.log_rack.RackFault.TheVariants as racks
use Rattle.catalogue.specs.Plan.{Plan}
use Rattle.catalogue.specs.declared.actor.Actor.{Actor}
use Rattle.catalogue.specs.declared.actor.Actor.TheVariants.{Client, Recover}
use Rattle.fabric_model.specs.State.{State}
use Rattle.fabric_model.specs.Step.{step}
use Rattle.fabric_core.specs.Racks.{Rack, Stays, StaysFrom}
use Rattle.fabric_core.specs.RecordTexts.{AddsRecord, AreAsRecorded, Compares, IsFirstChange, TakesMemory, TellsAll, TellsFront}
use Rattle.fabric_core.specs.Standing.{StandsFor, Follows}
use Rattle.fabric_core.specs.declared.core_state.CoreState.{CoreState}
use Rattle.fabric_core.specs.declared.turn.Turn.{Turn}
use Rattle.fabric_core.specs.declared.turn.Turn.TheVariants.{Moved, Idle, LogFault, LogChanged, NoMemory}

-- the actor moved; in a rack that keeps, logs that were told as the text of their records still are; recovery finds none changed
pub record Moves (plan : Plan) (s : State) (actor : Actor) (core : CoreState) (old new : Rack) : Type 0 where
  pub follows : Follows plan s actor core
  pub compared : actor ≡ Recover → AreAsRecorded s (length plan.clients) old
  pub keeps : IsTrue old.keeps → IsTrue new.keeps
  pub logs : IsTrue old.keeps → TellsAll plan s old → TellsAll plan follows.next new
  pub beyond : StaysFrom (length plan.clients) old new
  pub faults : new.faults ≡ old.faults

-- the client's record could not be appended, and the state stays; in a rack that keeps, a front of the record may stand in its log
pub record Fails (plan : Plan) (s : State) (c : ℕ) (core : CoreState) (old new : Rack) : Type 0 where
  pub stands : StandsFor plan s core
  pub within : c < length plan.clients
  pub text : List ℕ
  pub adds : AddsRecord plan s c text
  pub keeps : IsTrue old.keeps → IsTrue new.keeps
  pub logs : IsTrue old.keeps → TellsAll plan s old → TellsFront plan s c new
  pub beyond : StaysFrom (length plan.clients) old new
  pub rose : Rose old.faults new.faults

-- the client's log could not be read when the logs were compared, and state and logs stay
pub record FailsToRead (plan : Plan) (s : State) (c : ℕ) (core : CoreState) (old new : Rack) : Type 0 where
  pub stands : StandsFor plan s core
  pub within : c < length plan.clients
  pub compares : Compares s c old
  pub keeps : IsTrue old.keeps → IsTrue new.keeps
  pub stays : StaysFrom 0 old new
  pub rose : Rose old.faults new.faults

-- the client's log is the first that has changed, and state and logs stay
pub record FindsChange (plan : Plan) (s : State) (c at : ℕ) (core : CoreState) (old new : Rack) : Type 0 where
  pub stands : StandsFor plan s core
  pub change : IsFirstChange plan s c at old
  pub keeps : IsTrue old.keeps → IsTrue new.keeps
  pub stays : Stays old new

-- there was no memory for the actor's move, and state and logs stay
pub record LacksMemory (plan : Plan) (s : State) (actor : Actor) (core : CoreState) (old new : Rack) : Type 0 where
  pub stands : StandsFor plan s core
  pub takes : TakesMemory plan s actor
  pub keeps : IsTrue old.keeps → IsTrue new.keeps
  pub stays : Stays old new

abbrev pub IsTurnOf : Plan → State → Actor → (before after : CoreState) → (old new : Rack) → Turn → Type 0
IsTurnOf plan s actor before after old new Moved = Moves plan s actor after old new
IsTurnOf plan s actor before after old new Idle = (step plan s actor ≡ None) × (after ≡ before)
IsTurnOf plan s actor before after old new (LogFault c) = ((actor ≡ Client c) × Fails plan s c after old new) ⊎ ((actor ≡ Recover) × FailsToRead plan s c after old new)
IsTurnOf plan s actor before after old new (LogChanged c at) = (actor ≡ Recover) × FindsChange plan s c at after old new
IsTurnOf plan s actor before after old new NoMemory = LacksMemory plan s actor after old new

-- the answer to the turn of a client whose record was not appended
abbrev pub turn_after : ℕ → RackFault → Turn
turn_after c racks.Failed = LogFault c
turn_after c racks.NoMemory = NoMemory
