-- The order in which actors are taken.
use Rattle.std.specs.Prelude.{ℕ, zero, suc, Bool, true, false, List, [], ◌∷◌, ◌++◌, map, reverse, length}
use Rattle.std.specs.List.{range_with_len}
use Rattle.catalogue.specs.Plan.{Plan}
use Rattle.catalogue.specs.declared.actor.Actor.{Actor}
use Rattle.catalogue.specs.declared.actor.Actor.TheVariants.{Client, Port, Stage, Recover}
use Rattle.core_model.specs.declared.phase.Phase.{Phase}
use Rattle.core_model.specs.declared.phase.Phase.TheVariants.{Ready, Locking, Aborting, Logged, Waiting, Installing, Finished}
use Rattle.core_model.specs.State.{ClientState}

-- the numbers below n, rising
abbrev pub numbers_below : ℕ → List ℕ
numbers_below n = range_with_len 0 n

-- all actors of a session, each once: recovery, the clients, their ports, and the stages from the last to the first
abbrev pub rota : Plan → List Actor
rota plan =
    let clients = numbers_below (length plan.clients) in
    Recover ∷ (map Client clients ++ (map Port clients ++ map Stage (reverse (numbers_below plan.shape.stages))))

abbrev pub is_finished : Phase → Bool
is_finished Ready = false
is_finished Locking = false
is_finished Aborting = false
is_finished Logged = false
is_finished Waiting = false
is_finished Installing = false
is_finished Finished = true

-- a client that has nothing left to do
abbrev pub has_finished : ClientState → Bool
has_finished client = is_finished client.phase

-- the rota so many times
abbrev pub rotas : Plan → ℕ → List Actor
rotas plan zero = []
rotas plan (suc n) = rota plan ++ rotas plan n
