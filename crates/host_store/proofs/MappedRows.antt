-- Rows in the order of their keys stay so where only their values change.
use Rattle.std.proofs.Common.{◌≡◌, ◌&&◌, cond, List, [], ◌∷◌, map, Some, option_map, refl, ap, Ordering, is_lt, is_eq, Less, Equal, Greater}
use Rattle.std.specs.FinMap.{is_sorted, find}
use Rattle.std.specs.FinMap.Entries.{below_all}

module _ {K X Y : Type 0} (R : K → K → Ordering) (f : X → Y) where
  abbrev pub changed : List (K × X) → List (K × Y)
  changed es = map (λ row. (row.0, f row.1)) es

  below-changed : (k : K) (es : List (K × X)) → below_all R k (changed es) ≡ below_all R k es
  below-changed k [] = refl
  below-changed k (e ∷ es) = ap (λ b. is_lt (R k e.0) && b) (below-changed k es)

  pub sorted-changed : (es : List (K × X)) → is_sorted R (changed es) ≡ is_sorted R es
  sorted-changed [] = refl
  sorted-changed (e ∷ es) = λ i. below-changed e.0 es i && sorted-changed es i

  pub find-changed : (q : K) (es : List (K × X)) → find R q (changed es) ≡ option_map f (find R q es)
  find-changed q [] = refl
  find-changed q (e ∷ es) =
      elim (R q e.0) as (λ r. cond (is_eq r) (Some (f e.1)) (find R q (changed es)) ≡ option_map f (cond (is_eq r) (Some e.1) (find R q es))) [
        | Less ↦ find-changed q es
        | Equal ↦ refl
        | Greater ↦ find-changed q es
      ]
