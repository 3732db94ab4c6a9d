-- There is one greedy layout of a list of tuples.
use Rattle.std.proofs.Common.{◌≡◌, ℕ, ◌+◌, ◌<◌, ◌≤◌, Bool, List, [], ◌∷◌, ◌++◌, inl, inr, arith, refl, sym, ap, ap₂, subst, ◌∙◌}
use Rattle.std.specs.Prelude.{nat_lt}
use Rattle.std.proofs.lemmas.Bool.{cases_lt}
use Rattle.txn_model.specs.declared.op.TupleId.{TupleId}
use Rattle.stage_layout.specs.declared.layout.LayoutRow.{LayoutRow}
use Rattle.catalogue.specs.Plan.{Plan}
use Rattle.declust.specs.Arrays.{array_count, place_in}
use Rattle.declust.specs.Greedy.{taken, shared, IsFirstLeast, IsNextRow, IsGreedyBehind}

one_least : (n : ℕ) (test : ℕ → Bool) (cost : ℕ → ℕ) (a b : ℕ) → IsFirstLeast n test cost a → IsFirstLeast n test cost b → a ≡ b
one_least n test cost a b x y =
    elim (cases_lt a b) as (λ _. a ≡ b) [
      | inl lt ↦ absurd (omega (arith, y.first a lt x.passes, x.least b y.within y.passes))
      | inr le ↦
          elim (cases_lt b a) as (λ _. a ≡ b) [
            | inl lt ↦ absurd (omega (arith, x.first b lt y.passes, y.least a x.within x.passes))
            | inr ge ↦ omega (arith, le, ge)
          ]
    ]

one_next : (plan : Plan) (there : List LayoutRow) (t : TupleId) (a b : LayoutRow) → IsNextRow plan there t a → IsNextRow plan there t b → a ≡ b
one_next plan there t a b x y =
    let same = one_least (array_count plan.shape) (λ k. nat_lt (taken plan.shape there k) plan.shape.cells) (shared plan there t) x.array y.array x.best y.best in
    x.is ∙ ap (λ k. record { tuple = t; place = place_in plan.shape k (taken plan.shape there k) }) same ∙ sym y.is

pub one_greedy : (plan : Plan) (there : List LayoutRow) (tuples : List TupleId) (xs ys : List LayoutRow) → IsGreedyBehind plan there tuples xs → IsGreedyBehind plan there tuples ys → xs ≡ ys
one_greedy plan there [] xs ys x y = x ∙ sym y
one_greedy plan there (t ∷ tuples) [] ys x y = absurd x
one_greedy plan there (t ∷ tuples) (a ∷ xs) [] x y = absurd y
one_greedy plan there (t ∷ tuples) (a ∷ xs) (b ∷ ys) x y =
    let same = one_next plan there t a b x.0 y.0 in
    let other = subst (λ (r : LayoutRow). IsGreedyBehind plan (there ++ r ∷ []) tuples ys) (sym same) y.1 in
    ap₂ (λ (r : LayoutRow) (l : List LayoutRow). r ∷ l) same (one_greedy plan (there ++ a ∷ []) tuples xs ys x.1 other)
