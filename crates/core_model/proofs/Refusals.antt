-- A list at the place where another one goes on.
use Rattle.std.proofs.Common.{◌≡◌, List, [], ◌∷◌, ◌++◌, length, take, slice_get, Some, refl, ap}
use Rattle.catalogue.specs.declared.actor.Actor.{Actor}

pub taken_front : (done rest : List Actor) → take (length done) (done ++ rest) ≡ done
taken_front [] rest = refl
taken_front (a ∷ done) rest = ap (λ (l : List Actor). a ∷ l) (taken_front done rest)

pub at_front : (done rest : List Actor) (actor : Actor) → slice_get (done ++ actor ∷ rest) (length done) ≡ Some actor
at_front [] rest actor = refl
at_front (a ∷ done) rest actor = at_front done rest actor
