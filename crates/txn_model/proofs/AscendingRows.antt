-- Rows whose keys strictly rise, by a look at neighbours alone.
use Rattle.std.proofs.Common.{◌≡◌, ℕ, zero, suc, ◌+◌, ◌<◌, Bool, true, false, ◌&&◌, IsTrue, List, [], ◌∷◌, length, get_or, refl, sym, ap, subst, ◌∙◌, true≢false, arith, Ordering, Less, Equal, Greater, is_lt, nat_cmp, nat_lt, nat_eq, cond}
use Rattle.std.specs.Cmp.{IsTotalOrder}
use Rattle.std.specs.FinMap.{is_sorted}
use Rattle.std.specs.FinMap.Entries.{below_all}
use Rattle.std.specs.List.{IsAllAdjacentAnswer}

both : (a b : Bool) → IsTrue a → IsTrue b → IsTrue (a && b)
both true b p q = q
both false b p q = p

left : (a b : Bool) → IsTrue (a && b) → IsTrue a
left true b h = refl
left false b h = h

right : (a b : Bool) → IsTrue (a && b) → IsTrue b
right true b h = h
right false b h = cc

less : (r : Ordering) → IsTrue (is_lt r) → r ≡ Less
less Less h = refl
less Equal h = cc
less Greater h = cc

pub is_lt-nat_cmp : (m n : ℕ) → is_lt (nat_cmp m n) ≡ nat_lt m n
is_lt-nat_cmp m n = elim (nat_lt m n) as (λ b. is_lt (cond b Less (cond (nat_eq m n) Equal Greater)) ≡ b) [
  | true ↦ refl
  | false ↦ elim (nat_eq m n) as (λ b. is_lt (cond b Equal Greater) ≡ false) [ true ↦ refl | false ↦ refl ]
]

refuted : (b : Bool) → (IsTrue b → ⊥) → false ≡ b
refuted true h = absurd (h refl)
refuted false h = refl

module _ {K X : Type 0} {R : K → K → Ordering} (o : IsTotalOrder R) where
  below_more : (x y : K) (es : List (K × X)) → R x y ≡ Less → IsTrue (below_all R y es) → IsTrue (below_all R x es)
  below_more x y [] p h = refl
  below_more x y (e ∷ es) p h = both (is_lt (R x e.0)) _ (ap is_lt (o.trans x y e.0 p (less _ (left _ _ h)))) (below_more x y es p (right _ _ h))

  -- rows, each of which is below the next
  sorted_by_neighbours : (es : List (K × X)) → ((k : ℕ) (d : K × X) → k + 1 < length es → true ≡ is_lt (R (get_or es k d).0 (get_or es (k + 1) d).0)) → IsTrue (is_sorted R es)
  sorted_by_neighbours [] h = refl
  sorted_by_neighbours (e ∷ []) h = refl
  sorted_by_neighbours (e ∷ f ∷ es) h =
      let rest = sorted_by_neighbours (f ∷ es) (λ k d lt. subst (λ j. true ≡ is_lt (R (get_or (f ∷ es) k d).0 (get_or (e ∷ f ∷ es) j d).0)) {x = suc k + 1} {y = suc (k + 1)} (omega arith) (h (suc k) d (omega arith))) in
      let first = sym (h 0 e (omega arith)) in
      both (is_lt (R e.0 f.0) && below_all R e.0 es) _ (both (is_lt (R e.0 f.0)) _ first (below_more e.0 f.0 es (less _ first) (left _ _ rest))) rest

  neighbours : (es : List (K × X)) → IsTrue (is_sorted R es) → (k : ℕ) (d : K × X) → k + 1 < length es → IsTrue (is_lt (R (get_or es k d).0 (get_or es (k + 1) d).0))
  neighbours [] h k d lt = absurd (omega arith)
  neighbours (e ∷ []) h k d lt = absurd (omega arith)
  neighbours (e ∷ f ∷ es) h zero d lt = left _ _ (left _ _ h)
  neighbours (e ∷ f ∷ es) h (suc k) d lt =
      subst (λ j. IsTrue (is_lt (R (get_or (f ∷ es) k d).0 (get_or (e ∷ f ∷ es) j d).0))) {x = suc (k + 1)} (omega arith) (neighbours (f ∷ es) (right _ _ h) k d (omega arith))

  -- what a test of all neighbours answers
  pub is_sorted_by_neighbours : (es : List (K × X)) (r : Bool) → IsAllAdjacentAnswer (λ x y b. b ≡ is_lt (R x.0 y.0)) es r → r ≡ is_sorted R es
  is_sorted_by_neighbours es true h = sym (sorted_by_neighbours es h)
  is_sorted_by_neighbours [] false h = absurd (omega (arith, h.1))
  is_sorted_by_neighbours (e ∷ es) false h =
      refuted (is_sorted R (e ∷ es)) (λ sorted. true≢false (sym (neighbours (e ∷ es) sorted h.0 e h.1) ∙ sym (h.2 e)))
