-- What becomes of a run when actors take their turns one after another.
use Rattle.std.specs.Prelude.{◌≡◌, List, [], length, Result, Ok, Err, Some, None}
use Rattle.port_io.specs.Cause.{Rose}
use Rattle.catalogue.specs.declared.actor.Actor.{Actor}
use Rattle.fabric_model.specs.Rota.{driven_from, movers}
use Rattle.fabric_core.specs.Racks.{Rack, StaysFrom}
use Rattle.fabric_core.specs.RecordTexts.{IsFirstChange}
use Rattle.fabric_core.specs.Running.{Running, state_in, taken}
use Rattle.fabric_core.specs.Turns.{Halts, IsDone}
use Rattle.fabric_core.specs.declared.turn.End.{End}
use Rattle.fabric_core.specs.declared.turn.End.TheVariants as ends
use Rattle.fabric_core.specs.declared.turn.Halt.{Halt}
use Rattle.fabric_core.specs.declared.turn.Halt.TheVariants.{LogFault, LogChanged, NoMemory}
use Rattle.fabric_core.specs.declared.turn.Stop.TheVariants as stops

abbrev pub end_with : Halt → End
end_with (LogFault c) = ends.LogFault c
end_with (LogChanged c at) = ends.LogChanged c at
end_with NoMemory = ends.NoMemory

-- some of the moves were made, and then the turns ended
abbrev pub EndsWith : {R : Type 0} → (before after : Running R) → (old new : Rack) → List Actor → Halt → Type 0
EndsWith before after old new moves (LogFault c) = Halts before after moves (Some (stops.LogFault c)) × Rose old.faults new.faults
EndsWith before after old new moves (LogChanged c at) = Halts before after moves (Some (stops.LogChanged c at)) × IsFirstChange after.plan (state_in after) c at new × (new.faults ≡ old.faults)
EndsWith before after old new moves NoMemory = Halts before after moves None × (new.faults ≡ old.faults)

abbrev pub TakesAs : {R : Type 0} → (before after : Running R) → (old new : Rack) → List Actor → Result (Unit {0}) Halt → Type 0
TakesAs before after old new actors (Ok done) = (after ≡ taken before actors after.rack) × (new.faults ≡ old.faults)
TakesAs before after old new actors (Err halt) = EndsWith before after old new (movers before.plan (state_in before) actors) halt

-- all of the actors took their turns, or those up to one with a fault
pub record IsTaken {R : Type 0} (before after : Running R) (old new : Rack) (actors : List Actor) (result : Result (Unit {0}) Halt) : Type 0 where
  pub takes : TakesAs before after old new actors result
  pub beyond : StaysFrom (length before.plan.clients) old new

abbrev pub TakesOnAs : {R : Type 0} → (before after : Running R) → (old new : Rack) → Result (Unit {0}) Halt → Type 0
TakesOnAs before after old new (Ok done) = IsDone before after (driven_from before.plan (state_in before) []) × (new.faults ≡ old.faults)
TakesOnAs before after old new (Err halt) = EndsWith before after old new (driven_from before.plan (state_in before) []) halt

-- rotas were taken until all had finished, or up to a turn with a fault
pub record IsTakenOn {R : Type 0} (before after : Running R) (old new : Rack) (result : Result (Unit {0}) Halt) : Type 0 where
  pub takes : TakesOnAs before after old new result
  pub beyond : StaysFrom (length before.plan.clients) old new
