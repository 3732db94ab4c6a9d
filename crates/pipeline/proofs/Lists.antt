-- Lists that are mapped, and of which one item is written.
use Rattle.std.proofs.Common.{◌≡◌, ℕ, zero, suc, ◌<◌, List, [], ◌∷◌, length, map, set, get_or, Option, Some, None, IsSome, refl, ap, ap₂, arith}

-- two functions that agree on each item
pub map_agree : {A B : Type 0} (f g : A → B) (l : List A) (d : A) → ((y : ℕ) → y < length l → f (get_or l y d) ≡ g (get_or l y d)) → map f l ≡ map g l
map_agree f g [] d h = refl
map_agree {A} {B} f g (a ∷ l) d h = ap₂ (λ (x : B) (r : List B). x ∷ r) (h 0 (omega arith)) (map_agree f g l d (λ y lt. h (suc y) (omega (arith, lt))))

-- two functions that agree on each item but one, which is written
pub set_agree : {A B : Type 0} (f g : A → B) (l : List A) (d : A) (x : ℕ) (v : B) → ((y : ℕ) → (y ≡ x → ⊥) → y < length l → f (get_or l y d) ≡ g (get_or l y d)) → set (map f l) x v ≡ set (map g l) x v
set_agree f g [] d x v h = refl
set_agree {A} {B} f g (a ∷ l) d zero v h = ap (λ (r : List B). v ∷ r) (map_agree f g l d (λ y lt. h (suc y) (λ e. omega (arith, e)) (omega (arith, lt))))
set_agree {A} {B} f g (a ∷ l) d (suc x) v h =
    ap₂ (λ (b : B) (r : List B). b ∷ r) (h 0 (λ e. omega (arith, e)) (omega arith)) (set_agree f g l d x v (λ y n lt. h (suc y) (λ e. n (omega (arith, e))) (omega (arith, lt))))

-- an item that is written over itself
pub set_itself : {A : Type 0} (l : List A) (d : A) (x : ℕ) → set l x (get_or l x d) ≡ l
set_itself [] d x = refl
set_itself (a ∷ l) d zero = refl
set_itself {A} (a ∷ l) d (suc x) = ap (λ (r : List A). a ∷ r) (set_itself l d x)

-- of two writes of one item the last one stands
pub set_twice : {A : Type 0} (l : List A) (x : ℕ) (v w : A) → set (set l x v) x w ≡ set l x w
set_twice [] x v w = refl
set_twice (a ∷ l) zero v w = refl
set_twice {A} (a ∷ l) (suc x) v w = ap (λ (r : List A). a ∷ r) (set_twice l x v w)

-- what is there stands within the list
pub some_within : {A : Type 0} (l : List (Option A)) (x : ℕ) (v : A) → get_or l x None ≡ Some v → x < length l
some_within [] x v e = cc
some_within (a ∷ l) zero v e = omega arith
some_within (a ∷ l) (suc x) v e = omega (arith, some_within l x v e)

pub some_is : {A : Type 0} (o : Option A) → IsSome o → (v : A) × (o ≡ Some v)
some_is None h = cc
some_is (Some v) h = (v, refl)
