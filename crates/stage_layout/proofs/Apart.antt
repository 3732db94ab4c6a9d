-- Rows that name each tuple and each place once have no repeat.
use Rattle.std.proofs.Common.{◌≡◌, ℕ, zero, suc, ◌<◌, ◌≤◌, ◌+◌, ◌-◌, Bool, true, false, ◌&&◌, ◌||◌, not, IsTrue, List, [], ◌∷◌, length, get_or, take, drop, map, Option, Some, None, is_some, refl, sym, ap, subst, ◌∙◌, cond, arith, is_lt, is_eq}
use Rattle.std.specs.FinMap.{is_sorted, find}
use Rattle.std.specs.FinMap.Entries.{below_all}
use Rattle.std.proofs.lemmas.Grind.{common_steps}
use Rattle.std.proofs.lemmas.List.{drop_more}
use Rattle.txn_model.specs.Tuples.{tuple_cmp}
use Rattle.txn_model.specs.declared.op.TupleId.{TupleId}
use Rattle.txn_model.specs.declared.place.Place.{Place}
use Rattle.stage_layout.specs.declared.layout.LayoutRow.{LayoutRow}
use Rattle.stage_layout.specs.Index.{tuple_and_place, have_own_places}
use Rattle.stage_layout.specs.Layout.{same_tuple, same_place, place_of, tuple_at, names_tuple, names_place, repeats, first_repeat}
use Rattle.stage_layout.proofs.Firsts.{first_none}
use Rattle.stage_layout.proofs.NoRow.{no_row}

left : (a b : Bool) → IsTrue (a && b) → IsTrue a
left true b h = refl
left false b h = h

right : (a b : Bool) → IsTrue (a && b) → IsTrue b
right true b h = h
right false b h = cc

negated : (b : Bool) → IsTrue (not b) → b ≡ false
negated true h = cc
negated false h = refl

same_tuple_by_cmp : (t u : TupleId) → is_eq (tuple_cmp t u) ≡ same_tuple u t
same_tuple_by_cmp t u = grind (arith, common_steps)

-- the rows as pairs answer for each tuple as the rows do
pub find-listed : (rows : List LayoutRow) (t : TupleId) → find tuple_cmp t (map tuple_and_place rows) ≡ place_of rows t
find-listed [] t = refl
find-listed (row ∷ rows) t =
    ap (λ b. cond b (Some row.place) (find tuple_cmp t (map tuple_and_place rows))) (same_tuple_by_cmp t row.tuple)
    ∙ ap (cond (same_tuple row.tuple t) (Some row.place)) (find-listed rows t)

-- a place is named where a tuple is at it
pub names_place-tuple_at : (rows : List LayoutRow) (p : Place) → names_place rows p ≡ is_some (tuple_at rows p)
names_place-tuple_at [] p = refl
names_place-tuple_at (row ∷ rows) p =
    elim (same_place row.place p) as (λ b. (b || names_place rows p) ≡ is_some (cond b (Some row.tuple) (tuple_at rows p))) [ true ↦ refl | false ↦ names_place-tuple_at rows p ]

-- a row in front of rows that have places of their own, where it has one too
pub own_behind : (row : LayoutRow) (rows : List LayoutRow) → tuple_at rows row.place ≡ None → IsTrue (have_own_places rows) → IsTrue (have_own_places (row ∷ rows))
own_behind row rows none own = rw (names_place-tuple_at rows row.place ∙ ap is_some none) own

-- the rows from the one before i on, where those from i on have places of their own
pub own_from : (rows : List LayoutRow) (i : ℕ) → 0 < i → i ≤ length rows → tuple_at (drop i rows) (get_or rows (i - 1) no_row).place ≡ None → IsTrue (have_own_places (drop i rows)) → IsTrue (have_own_places (drop (i - 1) rows))
own_from rows i low high none own =
    let e : i - 1 + 1 ≡ i = omega arith in
    let front = drop_more rows (i - 1) no_row (omega arith) ∙ ap (λ n. get_or rows (i - 1) no_row ∷ drop n rows) e in
    subst (λ l. IsTrue (have_own_places l)) (sym front) (own_behind (get_or rows (i - 1) no_row) (drop i rows) none own)

pub absent : {X : Type 0} (o : Option X) → is_some o ≡ false → o ≡ None
absent None h = refl
absent (Some x) h = cc h

-- ---- no row before one has its tuple or its place

other_tuple : (t u : TupleId) → IsTrue (is_lt (tuple_cmp t u)) → same_tuple t u ≡ false
other_tuple t u h = grind (arith, common_steps, h)

other_place : (p q : Place) → same_place p q ≡ same_place q p
other_place p q = grind (arith, common_steps)

tuple_below : (t : TupleId) (rows : List LayoutRow) → IsTrue (below_all tuple_cmp t (map tuple_and_place rows)) → (k : ℕ) → k < length rows → same_tuple t (get_or rows k no_row).tuple ≡ false
tuple_below t [] h k lt = absurd (omega arith)
tuple_below t (row ∷ rows) h zero lt = other_tuple t row.tuple (left _ _ h)
tuple_below t (row ∷ rows) h (suc k) lt = tuple_below t rows (right _ _ h) k (omega arith)

new_tuple : (rows : List LayoutRow) → IsTrue (is_sorted tuple_cmp (map tuple_and_place rows)) → (k : ℕ) → k < length rows → names_tuple (take k rows) (get_or rows k no_row).tuple ≡ false
new_tuple [] h k lt = absurd (omega arith)
new_tuple (row ∷ rows) h zero lt = refl
new_tuple (row ∷ rows) h (suc k) lt =
    ap (λ b. b || names_tuple (take k rows) (get_or rows k no_row).tuple) (tuple_below row.tuple rows (left _ _ h) k (omega arith)) ∙ new_tuple rows (right _ _ h) k (omega arith)

unnamed : (p : Place) (rows : List LayoutRow) → names_place rows p ≡ false → (k : ℕ) → k < length rows → same_place (get_or rows k no_row).place p ≡ false
unnamed p [] h k lt = absurd (omega arith)
unnamed p (row ∷ rows) h zero lt = grind (arith, common_steps, h)
unnamed p (row ∷ rows) h (suc k) lt = unnamed p rows (grind (arith, common_steps, h)) k (omega arith)

new_place : (rows : List LayoutRow) → IsTrue (have_own_places rows) → (k : ℕ) → k < length rows → names_place (take k rows) (get_or rows k no_row).place ≡ false
new_place [] h k lt = absurd (omega arith)
new_place (row ∷ rows) h zero lt = refl
new_place (row ∷ rows) h (suc k) lt =
    let at = (get_or rows k no_row).place in
    ap (λ b. b || names_place (take k rows) at) (other_place row.place at ∙ unnamed row.place rows (negated _ (left _ _ h)) k (omega arith)) ∙ new_place rows (right _ _ h) k (omega arith)

pub no_repeat : (rows : List LayoutRow) → IsTrue (is_sorted tuple_cmp (map tuple_and_place rows)) → IsTrue (have_own_places rows) → first_repeat rows ≡ None
no_repeat rows sorted own =
    first_none (λ k (row : LayoutRow). repeats (take k rows) row) no_row rows
    (λ k lt. ap (λ b. b || names_place (take k rows) (get_or rows k no_row).place) (new_tuple rows sorted k lt) ∙ new_place rows own k lt)
