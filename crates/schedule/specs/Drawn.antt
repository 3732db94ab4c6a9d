-- Drawn schedules.
use Rattle.std.specs.Prelude.{ℕ, zero, suc, ◌+◌, ◌*◌, List, [], ◌∷◌, ◌++◌, map, length, slice_index_or}
use Rattle.std.specs.List.{range_with_len}
use Rattle.catalogue.specs.Plan.{Plan}
use Rattle.catalogue.specs.declared.actor.Actor.{Actor}
use Rattle.catalogue.specs.declared.actor.Actor.TheVariants.{Client, Port, Stage, Recover}
use Rattle.schedule.specs.Dice.{Words, draw}

-- the actors of a session: its clients, their ports, its stages, and recovery
abbrev pub actors_of : Plan → List Actor
actors_of plan =
    let clients = range_with_len 0 (length plan.clients) in
    map Client clients ++ (map Port clients ++ (map Stage (range_with_len 0 plan.shape.stages) ++ Recover ∷ []))

-- the actor at a place of that list
abbrev pub actor_at : Plan → ℕ → Actor
actor_at plan place = slice_index_or (actors_of plan) place Recover

-- as many actors as are asked for, each at a drawn place of that list
abbrev pub drawn : Plan → ℕ → Words → List Actor
drawn plan zero words = []
drawn plan (suc count) words =
    let place = draw (2 * length plan.clients + plan.shape.stages + 1) words in
    actor_at plan place.0 ∷ drawn plan count place.1
