-- The words by which texts name actors.
use Rattle.std.specs.Prelude.{ℕ, List, ◌++◌, codes}
use Rattle.std.specs.Fmt.{decimal}
use Rattle.catalogue.specs.declared.actor.Actor.{Actor}
use Rattle.catalogue.specs.declared.actor.Actor.TheVariants.{Client, Port, Stage, Recover}

-- `cN`, `pN`, `sN` or `r`
abbrev pub actor_word : Actor → List ℕ
actor_word (Client client) = codes "c" ++ decimal client
actor_word (Port client) = codes "p" ++ decimal client
actor_word (Stage stage) = codes "s" ++ decimal stage
actor_word Recover = codes "r"
