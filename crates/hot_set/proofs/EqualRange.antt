-- In a list whose numbers do not fall, the elements with one number stand side by side.
use Rattle.std.proofs.Common.{◌≡◌, ℕ, zero, suc, ◌+◌, ◌≤◌, Bool, true, false, cond, List, [], ◌∷◌, length, eqb, leb, ltb, arith, refl, ap, ◌∙◌}
use Rattle.std.specs.List.{count_by, AllWithin}
use Rattle.std.specs.List.Sorted.{IsPartitionPoint}
use Rattle.std.proofs.lemmas.Bool.Decides.{nat_tests}
use Rattle.std.proofs.lemmas.List.Elements.{AllWithin-none}
use Rattle.std.proofs.lemmas.List.Sums.{sum_by-cons}

module _ {X : Type 0} (p : X → Bool) where
  -- one more that passes, and one more that doesn't
  pub count_pass : (x : X) (xs : List X) → p x ≡ true → count_by p (x ∷ xs) ≡ 1 + count_by p xs
  count_pass x xs e = sum_by-cons (λ y. cond (p y) 1 0) x xs ∙ ap (λ b. cond b 1 0 + count_by p xs) e

  pub count_fail : (x : X) (xs : List X) → p x ≡ false → count_by p (x ∷ xs) ≡ 0 + count_by p xs
  count_fail x xs e = sum_by-cons (λ y. cond (p y) 1 0) x xs ∙ ap (λ b. cond b 1 0 + count_by p xs) e

  -- where those that pass are in front, there are as many as stand before the first other
  counted : (xs : List X) (i : ℕ) → i ≤ length xs → AllWithin (λ x. p x ≡ true) xs 0 i → AllWithin (λ x. p x ≡ false) xs i (length xs) → count_by p xs ≡ i
  counted [] i le front back = omega arith
  counted (x ∷ xs) zero le front back =
      let rest = counted xs zero (omega arith) (AllWithin-none (λ y. p y ≡ true) xs 0) (λ k d low high. back (suc k) d (omega arith) (omega arith)) in
      omega (arith, count_fail x xs (back 0 x (omega arith) (omega arith)), rest)
  counted (x ∷ xs) (suc i) le front back =
      let rest = counted xs i (omega arith) (λ k d low high. front (suc k) d (omega arith) (omega arith)) (λ k d low high. back (suc k) d (omega arith) (omega arith)) in
      omega (arith, count_pass x xs (front 0 x (omega arith) (omega arith)), rest)

module _ {X : Type 0} (n : X → ℕ) (t : ℕ) where
  each : (a : ℕ) → cond (leb a t) 1 0 ≡ cond (ltb a t) 1 0 + cond (eqb a t) 1 0
  each a = grind (arith, nat_tests)

  -- what is at most t is below t, or is t
  parted : (xs : List X) → count_by (λ x. leb (n x) t) xs ≡ count_by (λ x. ltb (n x) t) xs + count_by (λ x. eqb (n x) t) xs
  parted [] = refl
  parted (x ∷ xs) =
      let most : count_by (λ y. leb (n y) t) (x ∷ xs) ≡ cond (leb (n x) t) 1 0 + count_by (λ y. leb (n y) t) xs = sum_by-cons (λ y. cond (leb (n y) t) 1 0) x xs in
      let less : count_by (λ y. ltb (n y) t) (x ∷ xs) ≡ cond (ltb (n x) t) 1 0 + count_by (λ y. ltb (n y) t) xs = sum_by-cons (λ y. cond (ltb (n y) t) 1 0) x xs in
      let same : count_by (λ y. eqb (n y) t) (x ∷ xs) ≡ cond (eqb (n x) t) 1 0 + count_by (λ y. eqb (n y) t) xs = sum_by-cons (λ y. cond (eqb (n y) t) 1 0) x xs in
      omega (arith, most, less, same, each (n x), parted xs)

  -- between the places of the first that isn't below t and of the first above t stand those with number t
  pub between : (xs : List X) (from to : ℕ) → from ≤ length xs → to ≤ length xs
      → IsPartitionPoint (λ x. ltb (n x) t ≡ true) (λ x. ltb (n x) t ≡ false) xs from
      → IsPartitionPoint (λ x. leb (n x) t ≡ true) (λ x. leb (n x) t ≡ false) xs to
      → to ≡ from + count_by (λ x. eqb (n x) t) xs
  between xs from to low high below upto =
      omega (arith, counted (λ x. ltb (n x) t) xs from low below.0 below.1, counted (λ x. leb (n x) t) xs to high upto.0 upto.1, parted xs)
