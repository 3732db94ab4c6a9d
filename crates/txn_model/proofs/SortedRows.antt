-- A look-up and a write by binary search, in rows whose keys strictly rise.
use Rattle.std.proofs.Common.{◌≡◌, ◌≢◌, ℕ, zero, suc, ◌+◌, ◌<◌, Bool, true, false, cond, ◌&&◌, T, IsTrue, List, [], ◌∷◌, length, get_or, set, Some, None, Result, Ok, Err, MatchOption, HoldsAt, inl, inr, refl, sym, ap, subst, ◌∙◌, arith, Ordering, Less, Equal, Greater, is_lt, is_eq}
use Rattle.std.specs.Cmp.{IsTotalOrder}
use Rattle.std.specs.Ordering.{ordering_reverse}
use Rattle.std.specs.Result.{result_ok}
use Rattle.std.specs.FinMap.{IsAntisymmetric, is_sorted, find, put, get, insert, entries, from_sorted, same_entries_map, entries-from_sorted, entries-insert, get-from_sorted}
use Rattle.std.specs.FinMap.Entries.{below_all, is_sorted-put}
use Rattle.std.specs.List.Sorted.{IsBinarySearchResult, IsSearchInRange, IsSortedBy}
use Rattle.std.proofs.lemmas.List.Sorted.{searchable_from_sorted}
use Rattle.std.proofs.lemmas.Bool.{cases_lt}

holds : (b : Bool) → IsTrue b → T b
holds b h = subst T (sym h) tt

true_from_T : (b : Bool) → T b → IsTrue b
true_from_T true h = refl
true_from_T false h = absurd h

left : (a b : Bool) → IsTrue (a && b) → IsTrue a
left true b h = refl
left false b h = h

right : (a b : Bool) → IsTrue (a && b) → IsTrue b
right true b h = h
right false b h = cc

less : (r : Ordering) → IsTrue (is_lt r) → r ≡ Less
less Less h = refl
less Equal h = cc
less Greater h = cc

module _ {K : Type 0} {R : K → K → Ordering} (o : IsTotalOrder R) where
  flipped : (a b : K) → R a b ≡ Less → R b a ≡ Greater
  flipped a b h = o.antisymm b a ∙ ap ordering_reverse h

  tied : (a b : K) → R a b ≡ Equal → R b a ≡ Equal
  tied a b h = o.antisymm b a ∙ ap ordering_reverse h

module _ {K X : Type 0} {R : K → K → Ordering} (o : IsTotalOrder R) where
  -- a key below each row's is below the one at any place
  below_at : (x : K) (es : List (K × X)) → IsTrue (below_all R x es) → (i : ℕ) (d : K × X) → i < length es → R x (get_or es i d).0 ≡ Less
  below_at x [] h i d lt = absurd (omega arith)
  below_at x (e ∷ es) h zero d lt = less _ (left _ _ h)
  below_at x (e ∷ es) h (suc i) d lt = below_at x es (right _ _ h) i d (omega arith)

  -- of two neighbours, the later one isn't below the earlier one
  neighbours : (es : List (K × X)) → IsTrue (is_sorted R es) → IsSortedBy (λ a b. is_lt (R a.0 b.0)) es
  neighbours [] h k d low high = absurd (omega arith)
  neighbours (e ∷ []) h k d low high = absurd (omega arith)
  neighbours (e ∷ f ∷ es) h zero d low high = ap is_lt (flipped o e.0 f.0 (below_at e.0 (f ∷ es) (left _ _ h) 0 d (omega arith)))
  neighbours (e ∷ f ∷ es) h (suc k) d low high =
      subst (λ j. is_lt (R (get_or (e ∷ f ∷ es) j d).0 (get_or (f ∷ es) k d).0) ≡ false) {x = suc (k + 1)} (omega arith) (neighbours (f ∷ es) (right _ _ h) k d (omega arith) (omega arith))

  -- the row at a place has the value of its key
  pub find_at : (es : List (K × X)) → IsTrue (is_sorted R es) → (q : K) (i : ℕ) (d : K × X) → i < length es → R (get_or es i d).0 q ≡ Equal → find R q es ≡ Some (get_or es i d).1
  find_at [] h q i d lt e = absurd (omega arith)
  find_at (x ∷ es) h q zero d lt e = ap (λ r. cond (is_eq r) (Some x.1) (find R q es)) (tied o x.0 q e)
  find_at (x ∷ es) h q (suc i) d lt e =
      let at = get_or es i d in
      let above : R q x.0 ≡ Greater = flipped o x.0 q (o.antisymm x.0 q ∙ ap ordering_reverse (sym (o.congr at.0 q x.0 e) ∙ flipped o x.0 at.0 (below_at x.0 es (left _ _ h) i d (omega arith)))) in
      ap (λ r. cond (is_eq r) (Some x.1) (find R q es)) above ∙ find_at es (right _ _ h) q i d (omega arith) e

  -- a key that no row has isn't found
  pub find_absent : (es : List (K × X)) (q : K) → ((i : ℕ) (d : K × X) → i < length es → R (get_or es i d).0 q ≢ Equal) → find R q es ≡ None
  find_absent [] q h = refl
  find_absent (x ∷ es) q h =
      elim (R q x.0) as (λ r. R q x.0 ≡ r → cond (is_eq r) (Some x.1) (find R q es) ≡ None) [
        | Less ↦ λ e. find_absent es q (λ i d lt. h (suc i) d (omega arith))
        | Equal ↦ λ e. absurd (h 0 x (omega arith) (tied o q x.0 e))
        | Greater ↦ λ e. find_absent es q (λ i d lt. h (suc i) d (omega arith))
      ] refl

  -- to write a row's value is to put it at its key
  pub put_at : IsAntisymmetric R → (es : List (K × X)) → IsTrue (is_sorted R es) → (q : K) (v : X) (i : ℕ) (d : K × X) → i < length es → R (get_or es i d).0 q ≡ Equal → put R q v es ≡ set es i (q, v)
  put_at same [] h q v i d lt e = absurd (omega arith)
  put_at same (x ∷ es) h q v zero d lt e =
      elim (R q x.0) as (λ r. R q x.0 ≡ r → put R q v (x ∷ es) ≡ (q, v) ∷ es) [
        | Less ↦ λ r. cc (tied o x.0 q e)
        | Equal ↦ λ r. rw r (ap (λ k. (k, v) ∷ es) (same x.0 q e))
        | Greater ↦ λ r. cc (tied o x.0 q e)
      ] refl
  put_at same (x ∷ es) h q v (suc i) d lt e =
      let at = get_or es i d in
      let above : R q x.0 ≡ Greater = flipped o x.0 q (o.antisymm x.0 q ∙ ap ordering_reverse (sym (o.congr at.0 q x.0 e) ∙ flipped o x.0 at.0 (below_at x.0 es (left _ _ h) i d (omega arith)))) in
      rw above (ap (λ rest. x ∷ rest) (put_at same es (right _ _ h) q v i d (omega arith) e))

  -- where a binary search by key finds the key, or that it isn't there
  pub searched : (es : List (K × X)) → IsTrue (is_sorted R es) → (q : K) (r : Result ℕ ℕ) → IsSearchInRange r (length es) → IsBinarySearchResult (λ e. R e.0 q) es r
      → MatchOption (result_ok r) (find R q es ≡ None) (λ i. (i < length es) × HoldsAt (λ e. R e.0 q ≡ Equal) es i)
  searched es h q (Ok i) range found = (range, found)
  searched es h q (Err i) range parted =
      let gap = parted (searchable_from_sorted o (λ e. e.0) es q (neighbours es h)) in
      find_absent es q (λ k d lt e. elim (cases_lt k i) [ inl below ↦ cc (gap.0 k d (omega arith) below) | inr above ↦ cc (gap.1 k d above lt) ])

  -- what the map has at the key of a row that was read
  pub get_at : (es : List (K × X)) → IsTrue (is_sorted R es) → (q : K) (i : ℕ) (row : K × X) → i < length es → R (get_or es i row).0 q ≡ Equal → row ≡ get_or es i row → get (from_sorted {R = R} es) q ≡ Some row.1
  get_at es h q i row lt e read = get-from_sorted R es q (holds _ h) ∙ find_at es h q i row lt e ∙ ap (λ r. Some r.1) (sym read)

  -- what it has at a key that isn't found
  pub get_absent : (es : List (K × X)) → IsTrue (is_sorted R es) → (q : K) → find R q es ≡ None → get (from_sorted {R = R} es) q ≡ None
  get_absent es h q none = get-from_sorted R es q (holds _ h) ∙ none

  pub rows_are_entries : (es : List (K × X)) → IsTrue (is_sorted R es) → es ≡ entries (from_sorted {R = R} es)
  rows_are_entries es h = sym (entries-from_sorted R es (holds _ h))

  -- the map after a write in place
  pub insert_at : IsAntisymmetric R → (es : List (K × X)) → IsTrue (is_sorted R es) → (q : K) (v : X) (i : ℕ) (d : K × X) → i < length es → R (get_or es i d).0 q ≡ Equal
      → (IsTrue (is_sorted R (set es i (q, v)))) × (from_sorted {R = R} (set es i (q, v)) ≡ insert (from_sorted {R = R} es) q v)
  insert_at same es h q v i d lt e =
      let written = put_at same es h q v i d lt e in
      let sorted : IsTrue (is_sorted R (set es i (q, v))) = subst (λ l. IsTrue (is_sorted R l)) written (true_from_T _ (is_sorted-put R o q v es (holds _ h))) in
      let before = entries-from_sorted R es (holds _ h) in
      (sorted, same_entries_map _ _ (entries-from_sorted R _ (holds _ sorted) ∙ sym written ∙ sym (entries-insert o (from_sorted es) q v ∙ ap (put R q v) before)))
