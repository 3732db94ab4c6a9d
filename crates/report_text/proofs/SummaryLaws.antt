-- How a summary is counted.
use Rattle.std.proofs.Common.{◌≡◌, ℕ, zero, suc, ◌+◌, ◌<◌, ℤ, ◌+ℤ◌, List, [], ◌∷◌, ◌++◌, map, drop, get_or, length, w64, refl, sym, ap, ◌∙◌, arith}
use Rattle.std.specs.List.{range_with_len}
use Rattle.std.proofs.lemmas.Int.{ints, int_wrap-add_left}
use Rattle.txn_model.specs.Number.{wrap}
use Rattle.txn_model.specs.declared.op.TupleId.{TupleId}
use Rattle.report_text.specs.Summary.{sum_of}

map_more : {X : Type 0} (f : ℕ → X) (a n : ℕ) → map f (range_with_len a (suc n)) ≡ map f (range_with_len a n) ++ f (a + n) ∷ []
map_more f a zero = ap (λ (k : ℕ). f k ∷ []) {x = a} {y = a + 0} (omega arith)
map_more f a (suc n) = ap (λ l. f a ∷ l) (map_more f (a + 1) n) ∙ ap (λ (k : ℕ). f a ∷ (map f (range_with_len (a + 1) n) ++ f k ∷ [])) {x = (a + 1) + n} {y = a + suc n} (omega arith)

-- one item more
pub one_ended : {X : Type 0} (f : ℕ → X) (a n k : ℕ) → k ≡ a + n → map f (range_with_len a (n + 1)) ≡ map f (range_with_len a n) ++ f k ∷ []
one_ended f a n k is = ap (λ (m : ℕ). map f (range_with_len a m)) {x = n + 1} {y = suc n} (omega arith) ∙ map_more f a n ∙ ap (λ (m : ℕ). map f (range_with_len a n) ++ f m ∷ []) (sym is)

-- ---- the sum of the tuples

regroup : (a b c : ℤ) → (a +ℤ b) +ℤ c ≡ a +ℤ (b +ℤ c)
regroup a b c = omega (arith, ints)

sum_behind : (f : TupleId → ℤ) (rows : List (TupleId × ℤ)) (i : ℕ) (none : TupleId × ℤ) → i < length rows
    → sum_of (map (λ row. (row.0, f row.0)) (drop i rows)) ≡ f (get_or rows i none).0 +ℤ sum_of (map (λ row. (row.0, f row.0)) (drop (i + 1) rows))
sum_behind f [] i none lt = absurd (omega (arith, lt))
sum_behind f (row ∷ rows) zero none lt = refl
sum_behind f (row ∷ rows) (suc i) none lt =
    sum_behind f rows i none (omega (arith, lt)) ∙ ap (λ (n : ℕ). f (get_or rows i none).0 +ℤ sum_of (map (λ row. (row.0, f row.0)) (drop n (row ∷ rows)))) {x = suc (i + 1)} {y = suc i + 1} (omega arith)

-- one tuple more is summed up
pub sum_more : (f : TupleId → ℤ) (rows : List (TupleId × ℤ)) (i : ℕ) (none : TupleId × ℤ) (before now : ℤ) → i < length rows → now ≡ wrap (before +ℤ f (get_or rows i none).0)
    → wrap (now +ℤ sum_of (map (λ row. (row.0, f row.0)) (drop (i + 1) rows))) ≡ wrap (before +ℤ sum_of (map (λ row. (row.0, f row.0)) (drop i rows)))
sum_more f rows i none before now lt is =
    let here = f (get_or rows i none).0 in
    let rest = sum_of (map (λ row. (row.0, f row.0)) (drop (i + 1) rows)) in
    ap (λ z. wrap (z +ℤ rest)) is ∙ int_wrap-add_left w64 (before +ℤ here) rest ∙ ap wrap (regroup before here rest) ∙ ap (λ z. wrap (before +ℤ z)) (sym (sum_behind f rows i none lt))
