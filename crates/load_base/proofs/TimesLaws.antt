-- Lists that are drawn one item after another.
use Rattle.std.proofs.Common.{◌≡◌, ℕ, zero, suc, ◌+◌, ◌*◌, List, [], ◌∷◌, ◌++◌, length, sum_by, refl, sym, ap, ◌∙◌, arith, append-nil, append_assoc}
use Rattle.std.proofs.lemmas.List.Sums.{sum_by-cons}
use Rattle.schedule.specs.Dice.{Words}
use Rattle.load_base.specs.Times.{times}

module _ {X : Type 0} (draw : Words → X × Words) where
  -- what was drawn already, and what is still to be drawn
  abbrev pub going_on : List X → ℕ → Words → List X × Words
  going_on done left words = (done ++ (times draw left words).0, (times draw left words).1)

  pub one_more : (done : List X) (x : X) (left whole : ℕ) (words next : Words) → (x, next) ≡ draw words → left + 1 ≡ whole → going_on (done ++ x ∷ []) left next ≡ going_on done whole words
  one_more done x left whole words next drew more =
      let steps : suc left ≡ whole = omega arith in
      ap (λ xs. (xs, (times draw left next).1)) (append_assoc done (x ∷ []) (times draw left next).0)
      ∙ ap (λ p. (done ++ p.0 ∷ (times draw left p.1).0, (times draw left p.1).1)) drew
      ∙ ap (λ n. going_on done n words) steps

  pub all_drawn : (done : List X) (left : ℕ) (words : Words) → left ≡ 0 → (done, words) ≡ going_on done left words
  all_drawn done left words none = ap (λ xs. (xs, words)) (sym (append-nil done)) ∙ ap (λ n. going_on done n words) (sym none)

  pub how_many : (n : ℕ) (words : Words) → length (times draw n words).0 ≡ n
  how_many zero words = refl
  how_many (suc n) words = ap suc (how_many n (draw words).1)

-- lists of drawn lists
pub how_many_together : {X : Type 0} → (draw : Words → X × Words) (m n : ℕ) (words : Words) → sum_by length (times (times draw m) n words).0 ≡ n * m
how_many_together draw m zero words = omega arith
how_many_together draw m (suc n) words =
    let rest = (times (times draw m) n (times draw m words).1).0 in
    let product : m + n * m ≡ suc n * m = grind (arith) in
    sum_by-cons length (times draw m words).0 rest ∙ ap (λ k. k + sum_by length rest) (how_many draw m words) ∙ ap (λ k. m + k) (how_many_together draw m n (times draw m words).1) ∙ product
