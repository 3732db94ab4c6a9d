-- The first place at which a test passes.
use Rattle.std.proofs.Common.{◌≡◌, ℕ, zero, suc, ◌+◌, ◌<◌, Bool, true, false, cond, List, [], ◌∷◌, length, get_or, Some, None, refl, sym, ap, ◌∙◌, inl, inr, arith, position}
use Rattle.std.specs.List.{position_from, enumerate_from}
use Rattle.std.proofs.lemmas.Bool.{cases_lt}
use Rattle.std.proofs.lemmas.Iterator.Adapters.{position_from-zero}
use Rattle.std.proofs.lemmas.List.FromFn.{length-enumerate_from, get_or-enumerate_from}

module _ {X : Type 0} (test : X → Bool) (d : X) where
  from_is : (n : ℕ) (xs : List X) (i : ℕ) → i < length xs → ((k : ℕ) → k < i → test (get_or xs k d) ≡ false) → test (get_or xs i d) ≡ true → position_from test n xs ≡ Some (n + i)
  from_is n [] i lt before here = absurd (omega arith)
  from_is n (x ∷ xs) zero lt before here = let e : n ≡ n + 0 = omega arith in rw here (ap Some e)
  from_is n (x ∷ xs) (suc i) lt before here = let e : n + 1 + i ≡ n + suc i = omega arith in rw (before 0 (omega arith)) (from_is (n + 1) xs i (omega arith) (λ k h. before (suc k) (omega arith)) here ∙ ap Some e)

  from_none : (n : ℕ) (xs : List X) → ((k : ℕ) → k < length xs → test (get_or xs k d) ≡ false) → position_from test n xs ≡ None
  from_none n [] fails = refl
  from_none n (x ∷ xs) fails = rw (fails 0 (omega arith)) (from_none (n + 1) xs (λ k h. fails (suc k) (omega arith)))

  fails_from : (n : ℕ) (xs : List X) (k : ℕ) → position_from test n xs ≡ None → k < length xs → test (get_or xs k d) ≡ false
  fails_from n [] k e lt = absurd (omega arith)
  fails_from n (x ∷ xs) k e lt =
      let P : Bool → Type 0 = λ b. test x ≡ b → cond b (Some n) (position_from test (n + 1) xs) ≡ None → test (get_or (x ∷ xs) k d) ≡ false in
      let go : (b : Bool) → P b = λ b. elim b as P [
        | true ↦ λ _ wrong. cc wrong
        | false ↦ λ here rest. elim k as (λ j. j < suc (length xs) → test (get_or (x ∷ xs) j d) ≡ false) [ zero ↦ λ _. here | suc j ↦ λ h. fails_from (n + 1) xs j rest (omega arith) ] lt
      ] in
      go (test x) refl e

  -- it is i, where the test passes there and nowhere before
  pub position_is : (xs : List X) (i : ℕ) → i < length xs → ((k : ℕ) → k < i → test (get_or xs k d) ≡ false) → test (get_or xs i d) ≡ true → position test xs ≡ Some i
  position_is xs i lt before here = let e : 0 + i ≡ i = omega arith in position_from-zero test xs ∙ from_is 0 xs i lt before here ∙ ap Some e

  -- there is none, where the test passes nowhere
  pub position_none : (xs : List X) → ((k : ℕ) → k < length xs → test (get_or xs k d) ≡ false) → position test xs ≡ None
  position_none xs fails = position_from-zero test xs ∙ from_none 0 xs fails

  pub fails_at : (xs : List X) (k : ℕ) → position test xs ≡ None → k < length xs → test (get_or xs k d) ≡ false
  fails_at xs k e lt = fails_from 0 xs k (sym (position_from-zero test xs) ∙ e) lt

-- the same for a test that sees the place too
module _ {X : Type 0} (test : ℕ → X → Bool) (d : X) where
  abbrev numbered : ℕ × X → Bool
  numbered x = test x.0 x.1

  at_place : (xs : List X) (k : ℕ) → k < length xs → numbered (get_or (enumerate_from 0 xs) k (0, d)) ≡ test k (get_or xs k d)
  at_place xs k lt = let e : 0 + k ≡ k = omega arith in ap numbered (get_or-enumerate_from 0 xs k (0, d) lt) ∙ ap (λ j. test j (get_or xs k d)) e

  pub first_is : (xs : List X) (i : ℕ) → i < length xs → ((k : ℕ) → k < i → test k (get_or xs k d) ≡ false) → test i (get_or xs i d) ≡ true → position (λ x. test x.0 x.1) (enumerate_from 0 xs) ≡ Some i
  first_is xs i lt before here =
      position_is numbered (0, d) (enumerate_from 0 xs) i (omega (arith, length-enumerate_from 0 xs)) (λ k h. at_place xs k (omega arith) ∙ before k h) (at_place xs i lt ∙ here)

  pub first_none : (xs : List X) → ((k : ℕ) → k < length xs → test k (get_or xs k d) ≡ false) → position (λ x. test x.0 x.1) (enumerate_from 0 xs) ≡ None
  first_none xs fails = position_none numbered (0, d) (enumerate_from 0 xs) (λ k h. let lt : k < length xs = omega (arith, length-enumerate_from 0 xs) in at_place xs k lt ∙ fails k lt)

  pub fails_before : (xs : List X) (k : ℕ) → position (λ x. test x.0 x.1) (enumerate_from 0 xs) ≡ None → k < length xs → test k (get_or xs k d) ≡ false
  fails_before xs k e lt = sym (at_place xs k lt) ∙ fails_at numbered (0, d) (enumerate_from 0 xs) k e (omega (arith, length-enumerate_from 0 xs))

-- one more place at which a test fails
pub one_more_fails : (test : ℕ → Bool) (i : ℕ) → ((k : ℕ) → k < i → test k ≡ false) → test i ≡ false → (k : ℕ) → k < i + 1 → test k ≡ false
one_more_fails test i before here k lt = elim (cases_lt k i) as (λ _. test k ≡ false) [ inl low ↦ before k low | inr high ↦ (let e : k ≡ i = omega arith in ap test e ∙ here) ]
