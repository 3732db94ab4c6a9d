-- Counting and finding what passes a test.
use Rattle.std.proofs.Common.{◌≡◌, ℕ, zero, suc, ◌+◌, ◌-◌, ◌<◌, ◌≤◌, Bool, true, false, cond, ◌&&◌, ◌||◌, List, [], ◌∷◌, ◌++◌, length, take, drop, get_or, inl, inr, eqb, ltb, leb, arith, refl, sym, ap, ◌∙◌}
use Rattle.std.specs.Prelude.{nat_lt, filter}
use Rattle.std.specs.List.{count_by, list_any, AllWithin}
use Rattle.std.specs.List.Sorted.{IsPermutation, IsPartitionPoint}
use Rattle.std.proofs.lemmas.Bool.{cases_lt}
use Rattle.std.proofs.lemmas.Bool.Decides.{nat_tests}
use Rattle.std.proofs.lemmas.List.Sorted.{sum_by-IsPermutation}
use Rattle.std.proofs.lemmas.List.Sums.{sum_by-cons}

module _ {X : Type 0} where
  pub count-cons : (p : X → Bool) (x : X) (xs : List X) → count_by p (x ∷ xs) ≡ cond (p x) 1 0 + count_by p xs
  count-cons p x xs = sum_by-cons (λ y. cond (p y) 1 0) x xs

  pub count-filter : (p q : X → Bool) (xs : List X) → count_by p (filter q xs) ≡ count_by (λ x. q x && p x) xs
  count-filter p q [] = refl
  count-filter p q (x ∷ xs) =
      let rest = count-filter p q xs in
      elim (q x) as (λ b. count_by p (cond b (x ∷ filter q xs) (filter q xs)) ≡ cond (b && p x) 1 0 + count_by (λ y. q y && p y) xs) [
        | true ↦ count-cons p x (filter q xs) ∙ ap (λ n. cond (p x) 1 0 + n) rest
        | false ↦ omega (arith, rest)
      ] ∙ sym (count-cons (λ y. q y && p y) x xs)

  pub any-filter : (p q : X → Bool) (xs : List X) → list_any p (filter q xs) ≡ list_any (λ x. q x && p x) xs
  any-filter p q [] = refl
  any-filter p q (x ∷ xs) =
      let rest = any-filter p q xs in
      elim (q x) as (λ b. list_any p (cond b (x ∷ filter q xs) (filter q xs)) ≡ (b && p x || list_any (λ y. q y && p y) xs)) [
        | true ↦ ap (λ b. p x || b) rest
        | false ↦ rest
      ]

  -- one passes where more than none do
  pub any-count : (p : X → Bool) (xs : List X) → list_any p xs ≡ nat_lt 0 (count_by p xs)
  any-count p [] = refl
  any-count p (x ∷ xs) =
      let rest = any-count p xs in
      elim (p x) as (λ b. (b || list_any p xs) ≡ nat_lt 0 (cond b 1 0 + count_by p xs)) [
        | true ↦ more (count_by p xs)
        | false ↦ rest ∙ ap (nat_lt 0) (none (count_by p xs))
      ] ∙ ap (nat_lt 0) (sym (count-cons p x xs))
    where
      more : (n : ℕ) → true ≡ nat_lt 0 (1 + n)
      more n = grind (arith, nat_tests)

      none : (n : ℕ) → n ≡ 0 + n
      none n = omega arith

  pub none-count : (p : X → Bool) (xs : List X) → count_by p xs ≡ 0 → list_any p xs ≡ false
  none-count p xs e = any-count p xs ∙ ap (nat_lt 0) e

  pub any-permutation : (p : X → Bool) (xs ys : List X) → IsPermutation xs ys → list_any p ys ≡ list_any p xs
  any-permutation p xs ys moved = any-count p ys ∙ ap (nat_lt 0) (sum_by-IsPermutation (λ x. cond (p x) 1 0) xs ys moved) ∙ sym (any-count p xs)

  -- where those that pass stand side by side, they are what a filter keeps
  pub between : (p : X → Bool) (xs : List X) (from to : ℕ) → from ≤ to → to ≤ length xs → AllWithin (λ x. p x ≡ false) xs 0 from → AllWithin (λ x. p x ≡ true) xs from to
      → AllWithin (λ x. p x ≡ false) xs to (length xs) → take (to - from) (drop from xs) ≡ filter p xs
  between p [] zero zero low high front mid back = refl
  between p [] zero (suc to) low high front mid back = absurd (omega (arith, high))
  between p [] (suc from) to low high front mid back = absurd (omega (arith, low, high))
  between p (x ∷ xs) zero zero low high front mid back =
      let here : p x ≡ false = back 0 x (omega arith) (omega arith) in
      let rest = between p xs zero zero (omega arith) (omega arith) (λ k d l h. absurd (omega (arith, l, h))) (λ k d l h. absurd (omega (arith, l, h))) (λ k d l h. back (suc k) d (omega arith) (omega arith)) in
      rw here rest
  between p (x ∷ xs) zero (suc to) low high front mid back =
      let here : p x ≡ true = mid 0 x (omega arith) (omega arith) in
      let rest = between p xs zero to (omega arith) (omega arith) (λ k d l h. absurd (omega (arith, l, h))) (λ k d l h. mid (suc k) d (omega arith) (omega arith)) (λ k d l h. back (suc k) d (omega arith) (omega arith)) in
      let less : suc to - 0 ≡ suc (to - 0) = omega arith in
      rw (here, less) (ap (λ l. x ∷ l) rest)
  between p (x ∷ xs) (suc from) zero low high front mid back = absurd (omega (arith, low))
  between p (x ∷ xs) (suc from) (suc to) low high front mid back =
      let here : p x ≡ false = front 0 x (omega arith) (omega arith) in
      let less : suc to - suc from ≡ to - from = omega arith in
      let rest = between p xs from to (omega arith) (omega arith) (λ k d l h. front (suc k) d (omega arith) (omega arith)) (λ k d l h. mid (suc k) d (omega arith) (omega arith)) (λ k d l h. back (suc k) d (omega arith) (omega arith)) in
      rw (here, less) rest

  pub any-append : (p : X → Bool) (xs ys : List X) → list_any p (xs ++ ys) ≡ (list_any p xs || list_any p ys)
  any-append p [] ys = refl
  any-append p (x ∷ xs) ys = elim (p x) as (λ b. (b || list_any p (xs ++ ys)) ≡ (b || list_any p xs || list_any p ys)) [ true ↦ refl | false ↦ any-append p xs ys ]

module _ {X : Type 0} (n : X → ℕ) (t : ℕ) where
  apart_below : (a : ℕ) → ltb a t ≡ true → eqb a t ≡ false
  apart_below a e = grind (arith, nat_tests)

  apart_above : (a : ℕ) → leb a t ≡ false → eqb a t ≡ false
  apart_above a e = grind (arith, nat_tests)

  same : (a : ℕ) → ltb a t ≡ false → leb a t ≡ true → eqb a t ≡ true
  same a e f = grind (arith, nat_tests)

  clash : {P : Type 0} (a : ℕ) → ltb a t ≡ true → leb a t ≡ false → P
  clash a e f = let g : leb a t ≡ true = grind (arith, nat_tests) in cc (sym f ∙ g)

  -- the first that isn't below t comes before the first above t
  pub in_order : (xs : List X) (from to : ℕ) → from ≤ length xs → IsPartitionPoint (λ x. ltb (n x) t ≡ true) (λ x. ltb (n x) t ≡ false) xs from
      → IsPartitionPoint (λ x. leb (n x) t ≡ true) (λ x. leb (n x) t ≡ false) xs to → from ≤ to
  in_order [] from to within below upto = omega (arith, within)
  in_order (x ∷ xs) from to within below upto =
      elim (cases_lt to from) as (λ _. from ≤ to) [
        | inl lt ↦ clash (n (get_or (x ∷ xs) to x)) (below.0 to x (omega arith) lt) (upto.1 to x (omega arith) (omega (arith, lt, within)))
        | inr le ↦ le
      ]

  -- those with number t stand between the two
  pub same_are_between : (xs : List X) (from to : ℕ) → from ≤ length xs → to ≤ length xs → IsPartitionPoint (λ x. ltb (n x) t ≡ true) (λ x. ltb (n x) t ≡ false) xs from
      → IsPartitionPoint (λ x. leb (n x) t ≡ true) (λ x. leb (n x) t ≡ false) xs to → take (to - from) (drop from xs) ≡ filter (λ x. eqb (n x) t) xs
  same_are_between xs from to low high below upto =
      let ordered = in_order xs from to low below upto in
      between (λ x. eqb (n x) t) xs from to ordered high (λ k d l h. apart_below (n (get_or xs k d)) (below.0 k d l h))
      (λ k d l h. same (n (get_or xs k d)) (below.1 k d l (omega (arith, h, high))) (upto.0 k d (omega arith) h)) (λ k d l h. apart_above (n (get_or xs k d)) (upto.1 k d l h))
