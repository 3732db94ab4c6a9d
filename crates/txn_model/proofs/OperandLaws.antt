-- How an operand is summed up need by need, and that it reads earlier pairs alone.
use Rattle.std.proofs.Common.{◌≡◌, ℕ, zero, suc, ◌+◌, ◌≤◌, ℤ, pos, ◌+ℤ◌, List, [], ◌∷◌, drop, length, slice_get, Some, sym, ap, ◌∙◌, arith, w64, SFits, drop_of_length-le}
use Rattle.std.proofs.lemmas.Int.{ints, int_wrap-add_left, int_wrap_fits}
use Rattle.txn_model.specs.Number.{wrap}
use Rattle.txn_model.specs.Serial.{needed, part_of, pair_at}
use Rattle.txn_model.specs.declared.op.Need.{Need}
use Rattle.txn_model.specs.declared.pairs.Pair.{Pair}

-- the list from a place on begins with the item there
pub drop_at_item : {X : Type 0} (xs : List X) (i : ℕ) (x : X) → slice_get xs i ≡ Some x → drop i xs ≡ x ∷ drop (i + 1) xs
drop_at_item [] i x h = cc
drop_at_item (y ∷ ys) zero x h = ap (λ z. z ∷ ys) cc
drop_at_item (y ∷ ys) (suc i) x h = drop_at_item ys i x h ∙ ap (λ (n : ℕ). x ∷ drop n (y ∷ ys)) {x = suc (i + 1)} (omega arith)

regroup : (s p r : ℤ) → (s +ℤ p) +ℤ r ≡ s +ℤ (p +ℤ r)
regroup s p r = omega (arith, ints)

zero_right : (s : ℤ) → s +ℤ pos 0 ≡ s
zero_right s = omega (arith, ints)

-- one more need is summed up
pub needed_step : (needs : List Need) (i : ℕ) (n : Need) (done : List Pair) (s z : ℤ) → slice_get needs i ≡ Some n → z ≡ wrap (s +ℤ part_of n.which (pair_at done n.from))
    → wrap (z +ℤ needed (drop (i + 1) needs) done) ≡ wrap (s +ℤ needed (drop i needs) done)
needed_step needs i n done s z at e =
    let part = part_of n.which (pair_at done n.from) in
    let rest = needed (drop (i + 1) needs) done in
    ap (λ x. wrap (x +ℤ rest)) e ∙ int_wrap-add_left w64 (s +ℤ part) rest ∙ ap wrap (regroup s part rest) ∙ ap (λ l. wrap (s +ℤ needed l done)) (sym (drop_at_item needs i n at))

-- behind the last need the sum is whole
pub needed_end : (needs : List Need) (i : ℕ) (done : List Pair) (s : ℤ) → length needs ≤ i → SFits w64 s → s ≡ wrap (s +ℤ needed (drop i needs) done)
needed_end needs i done s past fits =
    sym (ap (λ l. wrap (s +ℤ needed l done)) (drop_of_length-le needs past) ∙ ap wrap (zero_right s) ∙ int_wrap_fits w64 s fits)
