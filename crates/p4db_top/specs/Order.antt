-- How a run takes its turns, and how its trace comes about.
use Rattle.std.specs.Prelude.{◌≡◌, ℕ, List, Some}
use Rattle.catalogue.specs.Plan.{Plan}
use Rattle.catalogue.specs.declared.actor.Actor.{Actor}
use Rattle.fabric_core.specs.Racks.{Rack, StaysFrom}
use Rattle.fabric_model.specs.Driven.{IsFinished}
use Rattle.fabric_model.specs.Rota.{driven}
use Rattle.fabric_model.specs.Run.{state_of}
use Rattle.fabric_model.specs.State.{State}

-- these actors of a session are taken in order, and then the rota again and again; or threads take the turns
pub data Way : Type 0 where
  Driven : (listed : Plan → List Actor) → Way
  Raced : Way

-- the actors of the session's schedule
abbrev pub scheduled : Plan → List Actor
scheduled session = session.schedule

-- each actor can move when it does, the first one in the session's opening, and behind them all have finished
pub record MoveToTheEnd (session : Plan) (trace : List Actor) : Type 0 where
  pub state : State
  pub run : state_of session trace ≡ Some state
  pub finished : IsFinished state

-- The trace of a driven run is that of those who moved. Threads move in any order.
abbrev pub IsMade : Way → Plan → List Actor → Type 0
IsMade (Driven listed) session trace = trace ≡ driven session (listed session)
IsMade Raced session trace = MoveToTheEnd session trace

-- The logs of others than the session's so many clients are told as they were. Of a raced run this isn't claimed: what comes out of
-- a lock is known by its type alone.
abbrev pub LeavesOthers : Way → ℕ → (old new : Rack) → Type 0
LeavesOthers (Driven listed) clients old new = StaysFrom clients old new
LeavesOthers Raced clients old new = Unit {0}
