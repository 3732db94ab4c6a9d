-- The order in which actors are taken, and the moves that come of it: the driven trace of a session.
use Rattle.std.specs.Prelude.{Bool, ◌&&◌, List, [], ◌∷◌, ◌++◌, is_some, unwrap_or, if◌then◌else◌}
use Rattle.std.specs.List.{list_all}
use Rattle.catalogue.specs.Plan.{Plan}
use Rattle.catalogue.specs.declared.actor.Actor.{Actor}
use Rattle.core_model.specs.Rota.{rotas, has_finished}
use Rattle.fabric_model.specs.Bound.{move_bound}
use Rattle.fabric_model.specs.Run.{opening}
use Rattle.fabric_model.specs.State.{State}
use Rattle.fabric_model.specs.Step.{step}

-- no client has anything left to do, and the switch is up
abbrev pub all_finished : State → Bool
all_finished s = list_all has_finished s.clients && is_some s.switch

-- what an actor's turn makes of a state: its move, where it can move
abbrev pub after_turn : Plan → State → Actor → State
after_turn plan s actor = unwrap_or (step plan s actor) s

-- the actor, where it moves
abbrev pub moved_by : Plan → State → Actor → List Actor
moved_by plan s actor = if is_some (step plan s actor) then actor ∷ [] else []

-- those of the actors that move when they are taken in order from a state; none is taken once all have finished
abbrev pub movers : Plan → State → List Actor → List Actor
movers plan s [] = []
movers plan s (actor ∷ actors) = if all_finished s then [] else moved_by plan s actor ++ movers plan (after_turn plan s actor) actors

-- the state when these actors have had their turns
abbrev pub after_turns : Plan → State → List Actor → State
after_turns plan s [] = s
after_turns plan s (actor ∷ actors) = if all_finished s then s else after_turns plan (after_turn plan s actor) actors

-- the moves from a state when these actors are taken, and then the rota again and again until all have finished; each rota
-- makes a move, so that no more of them are taken than the session has moves
unfoldable pub driven_from : Plan → State → List Actor → List Actor
driven_from plan s actors = movers plan s (actors ++ rotas plan (move_bound plan))

-- the driven trace of a list of actors
abbrev pub driven : Plan → List Actor → List Actor
driven plan actors = driven_from plan (opening plan) actors
