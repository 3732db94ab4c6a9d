-- What is claimed of driven runs: they are made of rounds, and they finish.
use Rattle.std.specs.Prelude.{◌≡◌, ◌<◌, Bool, true, is_some, IsSome, List, [], ◌++◌, Some}
use Rattle.std.specs.List.{list_all}
use Rattle.catalogue.specs.Plan.{Plan, script_in}
use Rattle.catalogue.specs.declared.actor.Actor.{Actor}
use Rattle.core_model.specs.Rota.{rota}
use Rattle.fabric_model.specs.Bound.{moves_left}
use Rattle.fabric_model.specs.Laws.{AllFinished}
use Rattle.fabric_model.specs.Rota.{all_finished, movers, driven_from}
use Rattle.fabric_model.specs.Run.{state_behind}
use Rattle.fabric_model.specs.State.{State}

-- no item loses the switch
abbrev pub has_no_loss : Plan → Bool
has_no_loss plan = list_all (λ items. list_all (λ item. is_some (script_in item)) items) plan.clients

-- no client has anything left to do, and the switch is up
pub record IsFinished (s : State) : Type 0 where
  pub clients : AllFinished s
  pub up : IsSome s.switch

-- the driven moves can be made, and behind them all have finished
pub record Finishes (plan : Plan) (s : State) (actors : List Actor) : Type 0 where
  pub after : State
  pub run : state_behind plan s (driven_from plan s actors) ≡ Some after
  pub finished : IsFinished after

-- the movers among these actors make a state, from which one goes on with whatever actors follow
pub record TakesInTurn (plan : Plan) (s : State) (actors : List Actor) : Type 0 where
  pub next : State
  pub run : state_behind plan s (movers plan s actors) ≡ Some next
  pub parts : (more : List Actor) → movers plan s (actors ++ more) ≡ movers plan s actors ++ movers plan next more
  pub driven : driven_from plan s actors ≡ movers plan s actors ++ driven_from plan next []
  pub none : all_finished s ≡ true → movers plan s actors ≡ []

-- the driven moves begin with those of a rota, and go on from a state with fewer moves left
pub record IsRound (plan : Plan) (s : State) : Type 0 where
  pub next : State
  pub run : state_behind plan s (movers plan s (rota plan)) ≡ Some next
  pub driven : driven_from plan s [] ≡ movers plan s (rota plan) ++ driven_from plan next []
  pub fewer : moves_left plan next < moves_left plan s
