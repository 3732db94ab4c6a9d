-- What holds of each item of a list, where the list is seen through a function.
use Rattle.std.proofs.Common.{◌≡◌, ℕ, ◌<◌, List, map, length, get_or, All, sym, subst, ◌∙◌, ap, arith}
use Rattle.std.proofs.lemmas.List.{length-map, get_or-map}

pub at_seen : {A B : Type 0} (P : B → Type 0) (f : A → B) (xs : List A) (i : ℕ) (x : A) → All P (map f xs) → i < length xs → x ≡ get_or xs i x → P (f x)
at_seen P f xs i x h lt e =
    let at = get_or-map f xs i x (f x) lt ∙ ap f (sym e) in
    subst P at (h i (f x) (omega (arith, lt, length-map xs f)))
