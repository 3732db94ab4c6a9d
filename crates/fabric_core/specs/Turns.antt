-- What a turn makes of a run, and how a run ends.
use Rattle.std.specs.Prelude.{◌≡◌, ◌⊎◌, ◌<◌, ℕ, List, [], ◌∷◌, ◌++◌, length, IsSome, Option, Some, None}
use Rattle.port_io.specs.Cause.{Rose}
use Rattle.catalogue.specs.declared.actor.Actor.{Actor}
use Rattle.catalogue.specs.declared.actor.Actor.TheVariants.{Client, Recover}
use Rattle.fabric_model.specs.Driven.{IsFinished}
use Rattle.fabric_model.specs.Step.{step}
use Rattle.fabric_core.specs.Racks.{Rack, Stays, StaysFrom}
use Rattle.fabric_core.specs.RecordTexts.{AreAsRecorded, Compares, IsFirstChange, TakesMemory}
use Rattle.fabric_core.specs.Running.{Running, state_in, stopped, with_moves}
use Rattle.fabric_core.specs.declared.turn.End.{End}
use Rattle.fabric_core.specs.declared.turn.Stop.{Stop}
use Rattle.fabric_core.specs.declared.turn.Stop.TheVariants as stops
use Rattle.fabric_core.specs.declared.turn.Turn.{Turn}
use Rattle.fabric_core.specs.declared.turn.Turn.TheVariants.{Moved, Idle, LogFault, LogChanged, NoMemory}
use Rattle.fabric_core.specs.declared.turn.End.TheVariants as ends

-- the actor can move, and the trace grows by it; no failure was counted, and recovery finds no log changed
pub record HasMoved {R : Type 0} (before after : Running R) (old new : Rack) (actor : Actor) : Type 0 where
  pub step : IsSome (step before.plan (state_in before) actor)
  pub compared : actor ≡ Recover → AreAsRecorded (state_in before) (length before.plan.clients) old
  pub run : after ≡ with_moves before (actor ∷ []) after.rack
  pub faults : new.faults ≡ old.faults
  pub beyond : StaysFrom (length before.plan.clients) old new

-- it is this client, whose record could not be appended, or recovery, and this client's log could not be read, as a failure was
-- counted: state and trace stay, and the run has stopped
pub record HasFailed {R : Type 0} (before after : Running R) (old new : Rack) (actor : Actor) (c : ℕ) : Type 0 where
  pub turn : (actor ≡ Client c) ⊎ ((actor ≡ Recover) × Compares (state_in before) c old)
  pub within : c < length before.plan.clients
  pub run : after ≡ stopped before (Some (stops.LogFault c)) after.rack
  pub rose : Rose old.faults new.faults
  pub beyond : StaysFrom (length before.plan.clients) old new

-- it is recovery, and this client's log is the first that has changed: state, trace and logs stay, and the run has stopped
pub record HasChanged {R : Type 0} (before after : Running R) (old new : Rack) (actor : Actor) (c at : ℕ) : Type 0 where
  pub turn : actor ≡ Recover
  pub change : IsFirstChange before.plan (state_in before) c at old
  pub run : after ≡ stopped before (Some (stops.LogChanged c at)) after.rack
  pub stays : Stays old new

-- there was no memory for its move: state, trace and logs stay
pub record HasNoMemory {R : Type 0} (before after : Running R) (old new : Rack) (actor : Actor) : Type 0 where
  pub takes : TakesMemory before.plan (state_in before) actor
  pub run : after ≡ with_moves before [] after.rack
  pub stays : Stays old new

-- what the turn of an actor made of a run and of its rack; where the actor can't move, nothing changed
abbrev pub IsTurn : {R : Type 0} → (before after : Running R) → (old new : Rack) → Actor → Turn → Type 0
IsTurn before after old new actor Moved = HasMoved before after old new actor
IsTurn before after old new actor Idle = (step before.plan (state_in before) actor ≡ None) × (after ≡ before)
IsTurn before after old new actor (LogFault c) = HasFailed before after old new actor c
IsTurn before after old new actor (LogChanged c at) = HasChanged before after old new actor c at
IsTurn before after old new actor NoMemory = HasNoMemory before after old new actor

-- some of the moves were made, in order and from the first on, and the run has stopped, or memory ran out
pub record Halts {R : Type 0} (before after : Running R) (moves : List Actor) (stop : Option Stop) : Type 0 where
  pub made : List Actor
  pub left : List Actor
  pub parts : made ++ left ≡ moves
  pub run : after ≡ stopped (with_moves before made before.rack) stop after.rack

-- all of the moves were made, and behind them all have finished
pub record IsDone {R : Type 0} (before after : Running R) (moves : List Actor) : Type 0 where
  pub run : after ≡ with_moves before moves after.rack
  pub finished : IsFinished (state_in after)

abbrev pub EndsAs : {R : Type 0} → (before after : Running R) → (old new : Rack) → List Actor → End → Type 0
EndsAs before after old new moves ends.Finished = IsDone before after moves × (new.faults ≡ old.faults)
EndsAs before after old new moves (ends.LogFault c) = Halts before after moves (Some (stops.LogFault c)) × Rose old.faults new.faults
EndsAs before after old new moves (ends.LogChanged c at) = Halts before after moves (Some (stops.LogChanged c at)) × IsFirstChange after.plan (state_in after) c at new × (new.faults ≡ old.faults)
EndsAs before after old new moves ends.NoMemory = Halts before after moves None × (new.faults ≡ old.faults)

abbrev pub end_of : Stop → End
end_of (stops.LogFault c) = ends.LogFault c
end_of (stops.LogChanged c at) = ends.LogChanged c at

-- how a run ends that is to make these moves; one that has stopped ends as it did, and nothing changes
abbrev pub EndsFrom : {R : Type 0} → Option Stop → (before after : Running R) → (old new : Rack) → List Actor → End → Type 0
EndsFrom None before after old new moves end = EndsAs before after old new moves end
EndsFrom (Some stop) before after old new moves end = (end ≡ end_of stop) × (after ≡ before)

pub record IsEnd {R : Type 0} (before after : Running R) (old new : Rack) (moves : List Actor) (end : End) : Type 0 where
  pub ends : EndsFrom before.stop before after old new moves end
  pub beyond : StaysFrom (length before.plan.clients) old new
