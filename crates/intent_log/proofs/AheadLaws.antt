-- What bytes that were read ahead say of the log.
use Rattle.std.proofs.Common.{◌≡◌, ℕ, zero, suc, ◌+◌, ◌-◌, ◌<◌, ◌≤◌, List, [], ◌∷◌, length, take, drop, Some, None, refl, sym, ap, ◌∙◌, arith}
use Rattle.std.specs.Prelude.{Option, ◌==◌, true, false}
use Rattle.std.proofs.lemmas.List.{drop-take, length-take, length-drop}
use Rattle.std.proofs.lemmas.Bool.Decides.{Decides-eqb}
use Rattle.intent_log.specs.Ahead.{Piece, IsPieceOf, Reaches}
use Rattle.intent_log.specs.Told.{GivesSome}

drop_none : (n : ℕ) → drop {A = ℕ} n [] ≡ []
drop_none zero = refl
drop_none (suc n) = refl

drop_twice : (n m : ℕ) (xs : List ℕ) → drop n (drop m xs) ≡ drop (m + n) xs
drop_twice n zero xs = ap (λ (j : ℕ). drop j xs) {x = n} (omega arith)
drop_twice n (suc m) [] = drop_none n ∙ sym (drop_none (suc m + n))
drop_twice n (suc m) (x ∷ xs) =
    let at : suc m + n ≡ suc (m + n) = omega arith in
    rw at (drop_twice n m xs)

pub no_bytes : (xs : List ℕ) → (length xs == 0) ≡ true → length xs ≡ 0
no_bytes [] e = refl
no_bytes (x ∷ xs) e = (Decides-eqb (length (x ∷ xs)) 0).0 e

pub some_bytes : (xs : List ℕ) → (length xs == 0) ≡ false → 0 < length xs
some_bytes [] e = cc
some_bytes (x ∷ xs) e = omega arith

-- a front of a front is a front
front_twice : (a b : ℕ) (xs : List ℕ) → take (length (take a (take b xs))) (take a (take b xs)) ≡ take (length (take a (take b xs))) xs
front_twice zero b xs = refl
front_twice (suc a) zero xs = refl
front_twice (suc a) (suc b) [] = refl
front_twice (suc a) (suc b) (x ∷ xs) = ap (λ (l : List ℕ). x ∷ l) (front_twice a b xs)

pub gives : (told : Option (List ℕ)) (at most : ℕ) (p : Piece) (found : List ℕ) → IsPieceOf told p → Reaches told at p → found ≡ take most (drop (at - p.place) p.bytes) → 0 < most
    → GivesSome told at (length found) found
gives None at most p found is r same some = tt
gives (Some log) at most p found is r same some =
    let k = at - p.place in
    let n = length p.bytes in
    let begins : p.place ≤ at = r.begins in
    let within : at ≤ p.place + n = r.within in
    let m = n - k in
    let parts : n ≡ k + m = omega (arith, begins, within) in
    let bytes : p.bytes ≡ take (k + m) (drop p.place log) = is ∙ ap (λ (j : ℕ). take j (drop p.place log)) parts in
    let there : p.place + k ≡ at = omega (arith, begins) in
    let behind : drop k p.bytes ≡ take m (drop at log)
    = ap (drop k) bytes ∙ drop-take k m (drop p.place log) ∙ ap (take m) (drop_twice k p.place log ∙ ap (λ (j : ℕ). drop j log) there) in
    let found_is : found ≡ take most (take m (drop at log)) = same ∙ ap (take most) behind in
    (rw found_is (front_twice most m (drop at log)), λ none. r.ended (omega (arith, begins, within, some, none, ap length same, length-take most (drop k p.bytes), length-drop k p.bytes)))
