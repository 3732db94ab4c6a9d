-- Least passes: what the search for them finds, and that one always is found.
use Rattle.std.proofs.Common.{◌≡◌, ℕ, zero, suc, ◌+◌, ◌≤◌, ◌<◌, Bool, true, false, cond, inl, inr, List, [], ◌∷◌, ◌++◌, length, get_or, take, refl, sym, ap, ◌∙◌, arith, add-one, length-append}
use Rattle.std.proofs.Math.Seq.{take-suc}
use Rattle.std.proofs.lemmas.Bool.{cases_eq}
use Rattle.txn_model.specs.Needs.{needs_list}
use Rattle.txn_model.specs.declared.op.Need.{Need}
use Rattle.txn_model.specs.declared.place.Place.{Place}
use Rattle.stage_layout.specs.declared.pass_plan.HotOp.{HotOp}
use Rattle.stage_layout.specs.Passes.{Step, step_at, can_pass, first_from, least_pass, next_step, steps_behind, steps_of, PassesUpTo}

-- ---- the search

pub first_from-least : (test : ℕ → Bool) (n p : ℕ) → p ≤ first_from test n p
first_from-least test zero p = omega arith
first_from-least test (suc n) p = elim (test p) as (λ b. p ≤ cond b p (first_from test n (p + 1))) [ true ↦ omega arith | false ↦ omega (arith, first_from-least test n (p + 1)) ]

pub first_from-most : (test : ℕ → Bool) (n p : ℕ) → first_from test n p ≤ p + n
first_from-most test zero p = omega arith
first_from-most test (suc n) p = elim (test p) as (λ b. cond b p (first_from test n (p + 1)) ≤ p + suc n) [ true ↦ omega arith | false ↦ omega (arith, first_from-most test n (p + 1)) ]

-- where the test passes at the end, it passes at the number that is found
pub first_from-passes : (test : ℕ → Bool) (n p : ℕ) → test (p + n) ≡ true → test (first_from test n p) ≡ true
first_from-passes test zero p e = let s : p + 0 ≡ p = omega arith in ap test (sym s) ∙ e
first_from-passes test (suc n) p e =
    let s : p + 1 + n ≡ p + suc n = omega arith in
    let later = first_from-passes test n (p + 1) (ap test s ∙ e) in
    let go : (b : Bool) → test p ≡ b → test (cond b p (first_from test n (p + 1))) ≡ true = λ b. elim b as (λ b. test p ≡ b → test (cond b p (first_from test n (p + 1))) ≡ true) [ true ↦ λ e. e | false ↦ λ _. later ] in
    go (test p) refl

-- the test fails below the number that is found
pub first_from-fails : (test : ℕ → Bool) (n p q : ℕ) → p ≤ q → q < first_from test n p → test q ≡ false
first_from-fails test zero p q low high = absurd (omega arith)
first_from-fails test (suc n) p q low high =
    let P : Bool → Type 0 = λ b. test p ≡ b → q < cond b p (first_from test n (p + 1)) → test q ≡ false in
    let go : (b : Bool) → P b = λ b. elim b as P [
      | true ↦ λ _ h. absurd (omega arith)
      | false ↦ λ e h. elim (cases_eq p q) as (λ _. test q ≡ false) [ inl same ↦ ap test (sym same) ∙ e | inr apart ↦ first_from-fails test n (p + 1) q (omega arith) h ]
    ] in
    go (test p) refl high

-- a number below which the test fails, and which passes or is the last, is the one that is found
pub first_from-is : (test : ℕ → Bool) (n p r : ℕ) → p ≤ r → r ≤ p + n → ((q : ℕ) → p ≤ q → q < r → test q ≡ false) → (r < p + n → test r ≡ true) → r ≡ first_from test n p
first_from-is test zero p r low high fails passes = omega arith
first_from-is test (suc n) p r low high fails passes =
    elim (cases_eq p r) as (λ _. r ≡ first_from test (suc n) p) [
      | inl same ↦ let e = ap test same ∙ passes (omega arith) in rw e (sym same)
      | inr apart ↦
          let e = fails p (omega arith) (omega arith) in
          rw e (first_from-is test n (p + 1) r (omega arith) (omega arith) (λ q l h. fails q (omega arith) h) (λ h. passes (omega arith)))
    ]

-- ---- steps, operation by operation

pub steps_behind-append : (steps : List Step) (xs ys : List HotOp) → steps_behind steps (xs ++ ys) ≡ steps_behind (steps_behind steps xs) ys
steps_behind-append steps [] ys = refl
steps_behind-append steps (x ∷ xs) ys = steps_behind-append (steps ++ next_step steps x ∷ []) xs ys

length-steps_behind : (steps : List Step) (ops : List HotOp) → length (steps_behind steps ops) ≡ length steps + length ops
length-steps_behind steps [] = omega arith
length-steps_behind steps (op ∷ ops) = omega (arith, length-steps_behind (steps ++ next_step steps op ∷ []) ops, length-append steps (next_step steps op ∷ []))

pub length-steps_of : (ops : List HotOp) → length (steps_of ops) ≡ length ops
length-steps_of ops = omega (arith, length-steps_behind [] ops)

-- one more operation has one more step
pub steps_of-more : (ops : List HotOp) (i : ℕ) (d : HotOp) → i < length ops → steps_of (take (i + 1) ops) ≡ steps_of (take i ops) ++ next_step (steps_of (take i ops)) (get_or ops i d) ∷ []
steps_of-more ops i d lt = rw (add-one, take-suc ops i d) (steps_behind-append [] (take i ops) (get_or ops i d ∷ []))

-- ---- passes are at most as many as operations

upto_more : (m n : ℕ) (steps : List Step) → m ≤ n → PassesUpTo m steps → PassesUpTo n steps
upto_more m n [] le h = tt
upto_more m n (step ∷ steps) le h = (omega (arith, h.0), upto_more m n steps le h.1)

upto_push : (n : ℕ) (steps : List Step) (step : Step) → PassesUpTo n steps → step.pass ≤ n → PassesUpTo n (steps ++ step ∷ [])
upto_push n [] step h le = (le, tt)
upto_push n (x ∷ steps) step h le = (h.0, upto_push n steps step h.1 le)

pub least_pass-most : (steps : List Step) (place : Place) (needs : List Need) → least_pass steps place needs ≤ length steps + 1
unfolding least_pass
least_pass-most steps place needs = omega (arith, first_from-most (can_pass steps place needs) (length steps) 1)

upto_behind : (steps : List Step) (ops : List HotOp) → PassesUpTo (length steps) steps → PassesUpTo (length (steps_behind steps ops)) (steps_behind steps ops)
upto_behind steps [] h = h
upto_behind steps (op ∷ ops) h =
    let x = next_step steps op in
    let len = length-append steps (x ∷ []) in
    upto_behind (steps ++ x ∷ []) ops (upto_push _ steps x (upto_more (length steps) _ steps (omega arith) h) (omega (arith, least_pass-most steps op.place (needs_list op.needs))))

pub steps_of-upto : (ops : List HotOp) → PassesUpTo (length (steps_of ops)) (steps_of ops)
steps_of-upto ops = upto_behind [] ops tt

pub upto_at : (n : ℕ) (steps : List Step) (k : ℕ) → PassesUpTo n steps → (step_at steps k).pass ≤ n
upto_at n [] k h = omega arith
upto_at n (step ∷ steps) zero h = h.0
upto_at n (step ∷ steps) (suc k) h = upto_at n steps k h.1
