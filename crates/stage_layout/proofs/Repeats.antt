-- Whether a row repeats an earlier one, from whether its tuple and its place are new.
use Rattle.std.proofs.Common.{◌≡◌, Bool, true, false, not, ◌||◌, ◌⊎◌, inl, inr, refl}

pub either_is_known : (p q a b : Bool) → p ≡ not a → q ≡ not b → (p ≡ false) ⊎ ((p ≡ true) × (q ≡ false)) → (a || b) ≡ true
either_is_known p q true b e f h = refl
either_is_known p q false true e f h = refl
either_is_known p q false false e f (inl h) = cc
either_is_known p q false false e f (inr h) = cc h.1

pub both_are_new : (p q a b : Bool) → p ≡ not a → q ≡ not b → p ≡ true → q ≡ true → (a || b) ≡ false
both_are_new p q true b e f g h = cc
both_are_new p q false true e f g h = cc
both_are_new p q false false e f g h = refl
