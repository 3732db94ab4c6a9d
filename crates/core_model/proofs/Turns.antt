-- An actor among others.
use Rattle.std.proofs.Common.{◌≡◌, List, [], ◌∷◌, ◌++◌, inl, inr, ◌⊎◌}
use Rattle.catalogue.specs.declared.actor.Actor.{Actor}

-- the actor is among these
abbrev pub IsAmong : Actor → List Actor → Type 0
IsAmong actor [] = ⊥
IsAmong actor (other ∷ actors) = (other ≡ actor) ⊎ IsAmong actor actors

pub among_left : (actor : Actor) (actors more : List Actor) → IsAmong actor actors → IsAmong actor (actors ++ more)
among_left actor (other ∷ actors) more (inl is) = inl is
among_left actor (other ∷ actors) more (inr is) = inr (among_left actor actors more is)
among_left actor [] more is = absurd is
