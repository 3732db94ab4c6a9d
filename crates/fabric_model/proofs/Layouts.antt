-- What a layout without a fault says: two tuples have two places, and each register of a hot tuple has its first value at first.
use Rattle.std.proofs.Common.{◌≡◌, ℕ, suc, ◌<◌, Bool, true, false, List, [], ◌∷◌, ◌++◌, length, take, get_or, Option, Some, None, refl, sym, ap, subst, ◌∙◌, arith, if◌then◌else◌, is_eq, append_assoc, append-nil}
use Rattle.std.specs.List.{AllByRecursion, list_any}
use Rattle.std.proofs.lemmas.Bool.Decides.{nat_tests}
use Rattle.txn_model.specs.Places.{place_cmp}
use Rattle.txn_model.specs.Tuples.{Tuples, value_at}
use Rattle.txn_model.specs.declared.op.TupleId.{TupleId}
use Rattle.txn_model.specs.declared.place.Place.{Place}
use Rattle.stage_layout.specs.Layout.{same_tuple, same_place, place_of, first_cells, names_tuple, names_place, repeats, first_bad_row, first_repeat, first_of, layout_fault}
use Rattle.stage_layout.specs.declared.layout.LayoutFault.TheVariants.{BadPlace, PlaceTwice}
use Rattle.stage_layout.specs.declared.layout.LayoutRow.{LayoutRow}
use Rattle.stage_layout.specs.declared.shape.Shape.{Shape}
use Rattle.stage_layout.proofs.Firsts.{fails_before}
use Rattle.switch_packet.specs.Replay.{register_at}
use Rattle.switch_packet.proofs.ExecuteLaws.{is_itself, same_place as cmp_same}
use Rattle.switch_packet.proofs.PlaceChainLaws.{register_at-insert}
use Rattle.warm_split.specs.Laws.{HavePlacesOfTheirOwn}
use Rattle.core_model.proofs.Decided.{or_false}

-- another row has another tuple and another place
abbrev IsOtherRow : LayoutRow → LayoutRow → Type 0
IsOtherRow row r = (same_tuple row.tuple r.tuple ≡ false) × (same_place row.place r.place ≡ false)

abbrev AreApart : List LayoutRow → Type 0
AreApart [] = Unit {0}
AreApart (row ∷ rows) = AllByRecursion (IsOtherRow row) rows × AreApart rows

any_behind : (test : LayoutRow → Bool) (a : List LayoutRow) (row : LayoutRow) (b : List LayoutRow) → list_any test (a ++ row ∷ b) ≡ false → test row ≡ false
any_behind test [] row b none = (or_false (test row) (list_any test b) none).0
any_behind test (r ∷ a) row b none = any_behind test a row b (or_false (test r) (list_any test (a ++ row ∷ b)) none).1

no_row : LayoutRow
no_row = record { tuple = record { 0 = 0 }; place = record { stage = 0; array = 0; cell = 0 } }

-- no row repeats one before
abbrev NoneRepeats : List LayoutRow → List LayoutRow → Type 0
NoneRepeats earlier rows = (k : ℕ) → k < length rows → repeats (earlier ++ take k rows) (get_or rows k no_row) ≡ false

one_other : (earlier : List LayoutRow) (row r : LayoutRow) (a : List LayoutRow) → repeats (earlier ++ row ∷ a) r ≡ false → IsOtherRow row r
one_other earlier row r a none =
    let parts = or_false (names_tuple (earlier ++ row ∷ a) r.tuple) (names_place (earlier ++ row ∷ a) r.place) none in
    (any_behind (λ (x : LayoutRow). same_tuple x.tuple r.tuple) earlier row a parts.0, any_behind (λ (x : LayoutRow). same_place x.place r.place) earlier row a parts.1)

-- a row and those behind it, of which some stand between
others : (earlier : List LayoutRow) (row : LayoutRow) (between rows : List LayoutRow) → NoneRepeats (earlier ++ row ∷ between) rows → AllByRecursion (IsOtherRow row) rows
others earlier row between [] none = tt
others earlier row between (r ∷ rows) none = (
  one_other earlier row r between (subst (λ (l : List LayoutRow). repeats l r ≡ false) (append-nil (earlier ++ row ∷ between)) (none 0 (omega arith))),
  others earlier row (between ++ r ∷ []) rows (λ k lt. subst (λ (l : List LayoutRow). repeats l (get_or rows k no_row) ≡ false) (longer k) (none (suc k) (omega (arith, lt)))),
)
  where
    longer : (k : ℕ) → (earlier ++ row ∷ between) ++ r ∷ take k rows ≡ (earlier ++ row ∷ (between ++ r ∷ [])) ++ take k rows
    longer k = append_assoc earlier (row ∷ between) (r ∷ take k rows) ∙ ap (λ (l : List LayoutRow). earlier ++ row ∷ l) (sym (append_assoc between (r ∷ []) (take k rows))) ∙ sym (append_assoc earlier (row ∷ (between ++ r ∷ [])) (take k rows))

apart_from : (earlier rows : List LayoutRow) → NoneRepeats earlier rows → AreApart rows
apart_from earlier [] none = tt
apart_from earlier (row ∷ rows) none =
    let more : NoneRepeats (earlier ++ row ∷ []) rows = λ k lt. subst (λ (l : List LayoutRow). repeats l (get_or rows k no_row) ≡ false) (sym (append_assoc earlier (row ∷ []) (take k rows))) (none (suc k) (omega (arith, lt))) in
    (others earlier row [] rows more, apart_from (earlier ++ row ∷ []) rows more)

no_fault : (shape : Shape) (tuples : Tuples) (rows : List LayoutRow) → layout_fault shape tuples rows ≡ None → first_repeat rows ≡ None
unfolding layout_fault
no_fault shape tuples rows e = by (first_bad_row shape tuples rows) (first_repeat rows) e
  where
    by : (a b : Option ℕ) → first_of a BadPlace (first_of b PlaceTwice None) ≡ None → b ≡ None
    by None None e = refl
    by None (Some k) e = cc
    by (Some k) b e = cc

are_apart : (shape : Shape) (tuples : Tuples) (rows : List LayoutRow) → layout_fault shape tuples rows ≡ None → AreApart rows
are_apart shape tuples rows sound = apart_from [] rows (λ k lt. fails_before (λ i row. repeats (take i rows) row) no_row rows k (no_fault shape tuples rows sound) lt)

same_number : (a b : TupleId) → same_tuple a b ≡ true → a ≡ b
same_number a b e = let n : a.0 ≡ b.0 = grind (arith, nat_tests) in ap (λ (k : ℕ). record { 0 = k }) n

place_itself : (p : Place) → same_place p p ≡ true
place_itself p = grind arith

-- a place that no row has is no tuple's
not_placed : (place : Place) (rows : List LayoutRow) (t : TupleId) → AllByRecursion (λ r. same_place place r.place ≡ false) rows → place_of rows t ≡ Some place → ⊥
not_placed place [] t none e = cc
not_placed place (r ∷ rows) t none e = by (same_tuple r.tuple t) e (not_placed place rows t none.1)
  where
    by : (b : Bool) → (if b then Some r.place else place_of rows t) ≡ Some place → (place_of rows t ≡ Some place → ⊥) → ⊥
    by true at rest =
        let here : r.place ≡ place = cc in
        let clash : true ≡ false = sym (place_itself place) ∙ ap (same_place place) (sym here) ∙ none.0 in
        cc
    by false at rest = rest at

other_places : (row : LayoutRow) (rows : List LayoutRow) → AllByRecursion (IsOtherRow row) rows → AllByRecursion (λ r. same_place row.place r.place ≡ false) rows
other_places row [] all = tt
other_places row (r ∷ rows) all = (all.0.1, other_places row rows all.1)

own_places : (rows : List LayoutRow) → AreApart rows → HavePlacesOfTheirOwn rows
own_places [] apart t u place at_t at_u = cc
own_places (row ∷ rows) apart t u place at_t at_u = by (same_tuple row.tuple t) (same_tuple row.tuple u) refl refl at_t at_u (own_places rows apart.1 t u place)
  where
    by : (a b : Bool) → same_tuple row.tuple t ≡ a → same_tuple row.tuple u ≡ b → (if a then Some row.place else place_of rows t) ≡ Some place → (if b then Some row.place else place_of rows u) ≡ Some place → (place_of rows t ≡ Some place → place_of rows u ≡ Some place → t ≡ u) → t ≡ u
    by true true st su et eu rest = sym (same_number row.tuple t st) ∙ same_number row.tuple u su
    by true false st su et eu rest = let here : row.place ≡ place = cc in absurd (not_placed row.place rows u (other_places row rows apart.0) (eu ∙ ap Some (sym here)))
    by false true st su et eu rest = let here : row.place ≡ place = cc in absurd (not_placed row.place rows t (other_places row rows apart.0) (et ∙ ap Some (sym here)))
    by false false st su et eu rest = rest et eu

pub places_of_their_own : (shape : Shape) (tuples : Tuples) (rows : List LayoutRow) → layout_fault shape tuples rows ≡ None → HavePlacesOfTheirOwn rows
places_of_their_own shape tuples rows sound = own_places rows (are_apart shape tuples rows sound)

cells_have : (tuples : Tuples) (rows : List LayoutRow) → AreApart rows → (t : TupleId) (place : Place) → place_of rows t ≡ Some place → register_at (first_cells tuples rows) place ≡ value_at tuples t
cells_have tuples [] apart t place at = cc
cells_have tuples (row ∷ rows) apart t place at =
    register_at-insert (first_cells tuples rows) row.place (value_at tuples row.tuple) place ∙ by (same_tuple row.tuple t) refl at (cells_have tuples rows apart.1 t place)
  where
    itself : (p : Place) → is_eq (place_cmp p p) ≡ true
    itself p = is_itself p

    by : (b : Bool) → same_tuple row.tuple t ≡ b → (if b then Some row.place else place_of rows t) ≡ Some place → (place_of rows t ≡ Some place → register_at (first_cells tuples rows) place ≡ value_at tuples t)
        → (if is_eq (place_cmp place row.place) then value_at tuples row.tuple else register_at (first_cells tuples rows) place) ≡ value_at tuples t
    by true same e rest =
        let here : row.place ≡ place = cc in
        ap (λ (p : Place). if is_eq (place_cmp place p) then value_at tuples row.tuple else register_at (first_cells tuples rows) place) here
        ∙ ap (λ (b : Bool). if b then value_at tuples row.tuple else register_at (first_cells tuples rows) place) (itself place) ∙ ap (value_at tuples) (same_number row.tuple t same)
    by false same e rest = go (is_eq (place_cmp place row.place)) refl
      where
        go : (b : Bool) → is_eq (place_cmp place row.place) ≡ b → (if b then value_at tuples row.tuple else register_at (first_cells tuples rows) place) ≡ value_at tuples t
        go false apart_here = rest e
        go true same_here = absurd (not_placed row.place rows t (other_places row rows apart.0) (e ∙ ap Some (cmp_same place row.place same_here)))

pub first_registers : (shape : Shape) (tuples : Tuples) (rows : List LayoutRow) → layout_fault shape tuples rows ≡ None → (t : TupleId) (place : Place) → place_of rows t ≡ Some place → register_at (first_cells tuples rows) place ≡ value_at tuples t
first_registers shape tuples rows sound = cells_have tuples rows (are_apart shape tuples rows sound)
