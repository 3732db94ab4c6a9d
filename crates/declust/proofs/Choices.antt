-- The first least one of the numbers so far.
use Rattle.std.proofs.Common.{◌≡◌, ℕ, ◌+◌, ◌<◌, ◌≤◌, Bool, true, false, inl, inr, arith, refl, sym, subst, ◌∙◌}
use Rattle.std.specs.Prelude.{MatchOption, Option, Some, None, nat_le, if◌then◌else◌}
use Rattle.std.proofs.lemmas.Bool.{cases_lt}
use Rattle.std.proofs.lemmas.Bool.Decides.{nat_tests}
use Rattle.declust.specs.Greedy.{IsFirstLeast}
use Rattle.declust.specs.declared.columns.Choice.{Choice}

-- the best of those so far has a cost
abbrev pub IsPriced : Option Choice → Type 0
IsPriced best = MatchOption best (Unit {0}) (λ choice. 1 ≤ choice.shared)

pub priced_takes : (n shared : ℕ) (best new : Option Choice) → IsPriced best → 1 ≤ shared
    → MatchOption best (new ≡ Some (record { array = n; shared = shared })) (λ choice. new ≡ (if nat_le choice.shared shared then Some choice else Some (record { array = n; shared = shared }))) → IsPriced new
priced_takes n shared None new old priced is = subst IsPriced (sym is) priced
priced_takes n shared (Some choice) new old priced is =
    let other : Choice = record { array = n; shared = shared } in
    let go : (b : Bool) → IsPriced (if b then Some choice else Some other) = λ b. elim b as (λ b. IsPriced (if b then Some choice else Some other)) [ true ↦ old | false ↦ priced ] in
    subst IsPriced (sym is) (go (nat_le choice.shared shared))

module _ (test : ℕ → Bool) (cost : ℕ → ℕ) where
  -- none of the first n passes
  abbrev pub NonePasses : ℕ → Type 0
  NonePasses n = (j : ℕ) → j < n → test j ≡ false

  clash : {P : Type 0} (b : Bool) → b ≡ true → b ≡ false → P
  clash b e f = cc (sym e ∙ f)

  -- the next number, by cases on whether it is the last one
  last : (P : ℕ → Type 0) (n j : ℕ) → j < n + 1 → (j < n → P j) → P n → P j
  last P n j lt before here = elim (cases_lt j n) as (λ _. P j) [ inl low ↦ before low | inr high ↦ (let e : n ≡ j = omega (arith, lt, high) in subst P e here) ]

  pub none_more : (n : ℕ) → NonePasses n → test n ≡ false → NonePasses (n + 1)
  none_more n none here j lt = last (λ k. test k ≡ false) n j lt (none j) here

  pub first_takes : (n : ℕ) → NonePasses n → test n ≡ true → IsFirstLeast (n + 1) test cost n
  first_takes n none here = record {
    within = omega arith;
    passes = here;
    least = λ j lt passing. last (λ k. test k ≡ true → cost n ≤ cost k) n j lt (λ low p. clash (test j) p (none j low)) (λ _. omega arith) passing;
    first = λ j lt passing. clash (test j) passing (none j lt);
  }

  pub least_skips : (n k : ℕ) → IsFirstLeast n test cost k → test n ≡ false → IsFirstLeast (n + 1) test cost k
  least_skips n k old here = record {
    within = omega (arith, old.within);
    passes = old.passes;
    least = λ j lt passing. last (λ m. test m ≡ true → cost k ≤ cost m) n j lt (λ low p. old.least j low p) (λ p. clash (test n) p here) passing;
    first = old.first;
  }

  pub least_stays : (n k : ℕ) → IsFirstLeast n test cost k → cost k ≤ cost n → IsFirstLeast (n + 1) test cost k
  least_stays n k old le = record {
    within = omega (arith, old.within);
    passes = old.passes;
    least = λ j lt passing. last (λ m. test m ≡ true → cost k ≤ cost m) n j lt (λ low p. old.least j low p) (λ _. le) passing;
    first = old.first;
  }

  pub next_takes : (n k : ℕ) → IsFirstLeast n test cost k → test n ≡ true → cost n < cost k → IsFirstLeast (n + 1) test cost n
  next_takes n k old here lt = record {
    within = omega arith;
    passes = here;
    least = λ j within passing. last (λ m. test m ≡ true → cost n ≤ cost m) n j within (λ low p. omega (arith, lt, old.least j low p)) (λ _. omega arith) passing;
    first = λ j low passing. omega (arith, lt, old.least j low passing);
  }

  -- the best of the first n, where one of them passes
  abbrev pub IsBest : ℕ → Option Choice → Type 0
  IsBest n best = MatchOption best (NonePasses n) (λ choice. (choice.shared ≡ cost choice.array) × IsFirstLeast n test cost choice.array)

  pub best_skips : (n : ℕ) (best : Option Choice) → IsBest n best → test n ≡ false → IsBest (n + 1) best
  best_skips n None old here = none_more n old here
  best_skips n (Some choice) old here = (old.0, least_skips n choice.array old.1 here)

  pub best_takes : (n shared : ℕ) (best new : Option Choice) → IsBest n best → test n ≡ true → shared ≡ cost n
      → MatchOption best (new ≡ Some (record { array = n; shared = shared })) (λ choice. new ≡ (if nat_le choice.shared shared then Some choice else Some (record { array = n; shared = shared }))) → IsBest (n + 1) new
  best_takes n shared None new old here price is = subst (IsBest (n + 1)) (sym is) (price, first_takes n old here)
  best_takes n shared (Some choice) new old here price is =
      let other : Choice = record { array = n; shared = shared } in
      let go : (b : Bool) → nat_le choice.shared shared ≡ b → new ≡ (if b then Some choice else Some other) → IsBest (n + 1) new = λ b. elim b as (λ b. nat_le choice.shared shared ≡ b → new ≡ (if b then Some choice else Some other) → IsBest (n + 1) new) [
        | true ↦ λ e same. (let le : choice.shared ≤ shared = grind (arith, nat_tests) in
            subst (IsBest (n + 1)) (sym same) (old.0, least_stays n choice.array old.1 (omega (arith, le, price, old.0))))
        | false ↦ λ e same. (let lt : shared < choice.shared = grind (arith, nat_tests) in
            subst (IsBest (n + 1)) (sym same) (price, next_takes n choice.array old.1 here (omega (arith, lt, price, old.0))))
      ] in
      go (nat_le choice.shared shared) refl is

-- the same number, where tests and costs are the same below n
pub least_same : (n m : ℕ) (test other : ℕ → Bool) (cost price : ℕ → ℕ) (k : ℕ) → n ≡ m → ((a : ℕ) → a < n → test a ≡ other a) → ((a : ℕ) → a < n → cost a ≡ price a)
    → IsFirstLeast n test cost k → IsFirstLeast m other price k
least_same n m test other cost price k size tests costs old = record {
  within = omega (arith, size, old.within);
  passes = sym (tests k old.within) ∙ old.passes;
  least = λ j lt passing. (let low : j < n = omega (arith, size, lt) in omega (arith, costs k old.within, costs j low, old.least j low (tests j low ∙ passing)));
  first = λ j lt passing. (let low : j < n = omega (arith, lt, old.within) in omega (arith, costs k old.within, costs j low, old.first j lt (tests j low ∙ passing)));
}
