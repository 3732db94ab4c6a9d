-- Layouts without a fault.
use Rattle.std.proofs.Common.{◌≡◌, ◌≢◌, ℕ, zero, suc, ◌+◌, ◌*◌, ◌/◌, ◌%◌, ◌<◌, ◌≤◌, Bool, true, false, cond, not, ◌&&◌, ◌||◌, List, [], ◌∷◌, ◌++◌, length, map, get_or, take, eqb, inl, inr, arith, refl, sym, ap, ap₂, subst, ◌∙◌, append_assoc, append-nil, length-append, rules}
use Rattle.std.specs.Prelude.{nat_lt, All, IsSome, IsTrue, None, is_some}
use Rattle.std.specs.FinMap as fin
use Rattle.std.specs.List.{count_by, list_any, enumerate_from, AllByRecursion}
use Rattle.std.proofs.lemmas.Bool.Decides.{nat_tests}
use Rattle.std.proofs.lemmas.List.{length-map}
use Rattle.std.proofs.lemmas.List.Elements.{recursion_from_All, All-map}
use Rattle.std.proofs.lemmas.List.Sums.{sum_by-append}
use Rattle.std.proofs.Math.Nat.{div-lt_iff_lt-mul, mod-lt}
use Rattle.std.proofs.lemmas.Nat.{div-add-mod'}
use Rattle.txn_model.specs.Tuples.{Tuples}
use Rattle.txn_model.specs.declared.op.TupleId.{TupleId}
use Rattle.txn_model.specs.declared.place.Place.{Place}
use Rattle.stage_layout.specs.Layout.{same_tuple, same_place, names_tuple, names_place, repeats, is_bad_row, layout_fault, first_bad_row, first_repeat}
use Rattle.stage_layout.specs.Shape.{has_place, IsShape}
use Rattle.stage_layout.specs.declared.layout.LayoutRow.{LayoutRow}
use Rattle.stage_layout.specs.declared.shape.Shape.{Shape}
use Rattle.stage_layout.proofs.Firsts.{position_none, first_none}
use Rattle.catalogue.specs.Plan.{Plan}
use Rattle.hot_set.specs.Hottest.{IsOnceEach}
use Rattle.hot_set.specs.declared.ranking.HotRow.{HotRow}
use Rattle.declust.specs.Arrays.{array_count, array_of, place_in}
use Rattle.declust.specs.Greedy.{taken, IsNextRow, IsGreedyBehind, IsGreedy}
use Rattle.declust.specs.Plain.{plain_row, plain_rows, tuples_of}
use Rattle.declust.specs.Total.{AreInside}
use Rattle.declust.proofs.Counts.{count-cons, none-count}
use Rattle.declust.proofs.Filling.{array_of-place_in, taken-push, next_array}

abbrev no_row : LayoutRow
no_row = record { tuple = record { 0 = 0 }; place = record { stage = 0; array = 0; cell = 0 } }

-- ---- rows of which none repeats what is there or an earlier one

abbrev pub AreNew : (List LayoutRow → LayoutRow → Bool) → List LayoutRow → List LayoutRow → Type 0
AreNew test there [] = Unit {0}
AreNew test there (row ∷ rows) = (test there row ≡ false) × AreNew test (there ++ row ∷ []) rows

new_at : (test : List LayoutRow → LayoutRow → Bool) (there rows : List LayoutRow) (k : ℕ) (d : LayoutRow) → AreNew test there rows → k < length rows → test (there ++ take k rows) (get_or rows k d) ≡ false
new_at test there [] k d h lt = absurd (omega arith)
new_at test there (row ∷ rows) zero d h lt = ap (λ l. test l row) (append-nil there) ∙ h.0
new_at test there (row ∷ rows) (suc k) d h lt =
    ap (λ l. test l (get_or rows k d)) (sym (append_assoc there (row ∷ []) (take k rows))) ∙ new_at test (there ++ row ∷ []) rows k d h.1 (omega (arith, lt))

either : (a b : Bool) → a ≡ false → b ≡ false → (a || b) ≡ false
either a b e f = ap₂ (λ (x y : Bool). x || y) e f

-- ---- tuples

one_more : (there : List LayoutRow) (row : LayoutRow) (t : TupleId) → count_by (λ (r : LayoutRow). same_tuple r.tuple t) (there ++ row ∷ []) ≡ count_by (λ (r : LayoutRow). same_tuple r.tuple t) there + cond (same_tuple row.tuple t) 1 0
one_more there row t =
    let p : LayoutRow → Bool = λ r. same_tuple r.tuple t in
    let one : count_by p (row ∷ []) ≡ cond (p row) 1 0 + 0 = count-cons p row [] in
    omega (arith, sum_by-append (λ r. cond (p r) 1 0) there (row ∷ []), one)

new_tuples : (there rows : List LayoutRow) → ((t : TupleId) → count_by (λ (r : LayoutRow). same_tuple r.tuple t) there + count_by (λ (r : LayoutRow). same_tuple r.tuple t) rows ≤ 1) → AreNew (λ l r. names_tuple l r.tuple) there rows
new_tuples there [] once = tt
new_tuples there (row ∷ rows) once =
    let t = row.tuple in
    let same : eqb t.0 t.0 ≡ true = grind (arith, nat_tests) in
    let hit : cond {A = ℕ} (same_tuple t t) 1 0 ≡ 1 = ap (λ b. cond b 1 0) same in
    let none : count_by (λ (r : LayoutRow). same_tuple r.tuple t) there ≡ 0 = omega (arith, once t, hit, count-cons (λ (r : LayoutRow). same_tuple r.tuple t) row rows) in (
      none-count (λ (r : LayoutRow). same_tuple r.tuple t) there none,
      new_tuples (there ++ row ∷ []) rows (λ u. omega (arith, once u, one_more there row u, count-cons (λ (r : LayoutRow). same_tuple r.tuple u) row rows)),
    )

-- ---- places of a greedy layout

places_differ : {P : Type 0} (a b : Place) → same_place a b ≡ true → ((a ≡ b) → P) → P
places_differ a b e go = go (same_is a b e)
  where
    left : (x y : Bool) → (x && y) ≡ true → x ≡ true
    left true y h = refl
    left false y h = h

    right : (x y : Bool) → (x && y) ≡ true → y ≡ true
    right true y h = h
    right false y h = cc h

    equal : (m n : ℕ) → eqb m n ≡ true → m ≡ n
    equal m n h = grind (arith, nat_tests)

    same_is : (a b : Place) → same_place a b ≡ true → a ≡ b
    same_is a b e =
        let s = equal a.stage b.stage (left (eqb a.stage b.stage) (eqb a.array b.array && eqb a.cell b.cell) e) in
        let rest = right (eqb a.stage b.stage) (eqb a.array b.array && eqb a.cell b.cell) e in
        let r = equal a.array b.array (left (eqb a.array b.array) (eqb a.cell b.cell) rest) in
        let c = equal a.cell b.cell (right (eqb a.array b.array) (eqb a.cell b.cell) rest) in
        λ i. record { stage = s i; array = r i; cell = c i }

-- by a number that the rows have below a bound, and the place has not
strange : (number : Place → ℕ) (bound : Place → ℕ) (rows : List LayoutRow) (p : Place) → AllByRecursion (λ (row : LayoutRow). number row.place < bound row.place) rows → bound p ≤ number p → names_place rows p ≡ false
strange number bound [] p h le = refl
strange number bound (row ∷ rows) p h le =
    let go : (b : Bool) → same_place row.place p ≡ b → (b || names_place rows p) ≡ false = λ b. elim b as (λ b. same_place row.place p ≡ b → (b || names_place rows p) ≡ false) [
      | true ↦ λ e. places_differ row.place p e (λ same. (let low : number p < bound p = subst (λ (q : Place). number q < bound q) same h.0 in absurd (omega (arith, low, le))))
      | false ↦ λ _. strange number bound rows p h.1 le
    ] in
    go (same_place row.place p) refl

-- each row's cell is one of those that are taken in its array
abbrev Fills : Shape → List LayoutRow → List LayoutRow → Type 0
Fills shape all rows = AllByRecursion (λ (row : LayoutRow). row.place.cell < taken shape all (array_of shape row.place)) rows

fills_more : (shape : Shape) (all rows : List LayoutRow) (row : LayoutRow) → Fills shape all rows → Fills shape (all ++ row ∷ []) rows
fills_more shape all [] row h = tt
fills_more shape all (r ∷ rows) row h = (omega (arith, h.0, taken-push shape all row (array_of shape r.place)), fills_more shape all rows row h.1)

all_push : (P : LayoutRow → Type 0) (xs : List LayoutRow) (y : LayoutRow) → AllByRecursion P xs → P y → AllByRecursion P (xs ++ y ∷ [])
all_push P [] y h p = (p, tt)
all_push P (x ∷ xs) y h p = (h.0, all_push P xs y h.1 p)

fills_next : (plan : Plan) (there : List LayoutRow) (t : TupleId) (row : LayoutRow) → IsNextRow plan there t row → Fills plan.shape there there → Fills plan.shape (there ++ row ∷ []) (there ++ row ∷ [])
fills_next plan there t row next h =
    let shape = plan.shape in
    let a = array_of shape row.place in
    let array_is = next_array plan there t row next in
    let cell_is : row.place.cell ≡ taken shape there a = ap (λ (r : LayoutRow). r.place.cell) next.is ∙ ap (taken shape there) (sym array_is) in
    let same : eqb a a ≡ true = grind (arith, nat_tests) in
    let one : cond {A = ℕ} (eqb a a) 1 0 ≡ 1 = ap (λ b. cond b 1 0) same in
    all_push (λ (r : LayoutRow). r.place.cell < taken shape (there ++ row ∷ []) (array_of shape r.place)) there row (fills_more shape there there row h) (omega (arith, cell_is, one, taken-push shape there row a))

greedy_places : (plan : Plan) (there rows : List LayoutRow) (tuples : List TupleId) → IsGreedyBehind plan there tuples rows → Fills plan.shape there there → AreNew (λ l r. names_place l r.place) there rows
greedy_places plan there [] tuples h fills = tt
greedy_places plan there (row ∷ rows) [] h fills = cc h
greedy_places plan there (row ∷ rows) (t ∷ tuples) h fills =
    let shape = plan.shape in
    let array_is = next_array plan there t row h.0 in
    let cell_is : row.place.cell ≡ taken shape there (array_of shape row.place) = ap (λ (r : LayoutRow). r.place.cell) h.0.is ∙ ap (taken shape there) (sym array_is) in
    (strange (λ p. p.cell) (λ p. taken shape there (array_of shape p)) there row.place fills (omega (arith, cell_is)), greedy_places plan (there ++ row ∷ []) rows tuples h.1 (fills_next plan there t row h.0 fills))

-- ---- places of the plain layout

cell_number : Shape → Place → ℕ
cell_number shape p = array_of shape p * shape.cells + p.cell

plain_number : (shape : Shape) (i : ℕ) (t : TupleId) → cell_number shape (plain_row shape i t).place ≡ i
unfolding cell_number
plain_number shape i t = ap (λ n. n * shape.cells + i % shape.cells) (array_of-place_in shape (i / shape.cells) (i % shape.cells)) ∙ div-add-mod' i shape.cells

weaker : (number : Place → ℕ) (m n : ℕ) (rows : List LayoutRow) → m ≤ n → AllByRecursion (λ (row : LayoutRow). number row.place < m) rows → AllByRecursion (λ (row : LayoutRow). number row.place < n) rows
weaker number m n [] le h = tt
weaker number m n (row ∷ rows) le h = (omega (arith, h.0, le), weaker number m n rows le h.1)

plain_places : (shape : Shape) (there : List LayoutRow) (i : ℕ) (tuples : List TupleId) → AllByRecursion (λ (row : LayoutRow). cell_number shape row.place < i) there
    → AreNew (λ l r. names_place l r.place) there (map (λ (at : ℕ × TupleId). plain_row shape at.0 at.1) (enumerate_from i tuples))
plain_places shape there i [] h = tt
plain_places shape there i (t ∷ tuples) h =
    let row = plain_row shape i t in
    let number = plain_number shape i t in (
      strange (cell_number shape) (λ _. i) there row.place h (omega (arith, number)),
      plain_places shape (there ++ row ∷ []) (i + 1) tuples (all_push (λ (r : LayoutRow). cell_number shape r.place < i + 1) there row (weaker (cell_number shape) i (i + 1) there (omega arith) h) (omega (arith, number))),
    )

-- ---- places inside the switch

module _ (shape : Shape) (is : IsShape shape) where
  within : (array cell : ℕ) → array < array_count shape → cell < shape.cells → IsTrue (has_place shape (place_in shape array cell))
  within array cell low high =
      let some : 0 < shape.arrays = omega (arith, is.arrays.0) in
      let s : array / shape.arrays < shape.stages = (div-lt_iff_lt-mul some).1 low in
      let r : array % shape.arrays < shape.arrays = mod-lt array some in
      all_three (array / shape.arrays) (array % shape.arrays) cell s r high
    where
      all_three : (a b c : ℕ) → a < shape.stages → b < shape.arrays → c < shape.cells → IsTrue (nat_lt a shape.stages && (nat_lt b shape.arrays && nat_lt c shape.cells))
      all_three a b c p q r = search rules

pub greedy_inside : (plan : Plan) (there rows : List LayoutRow) (tuples : List TupleId) → IsShape plan.shape → IsGreedyBehind plan there tuples rows → AreInside plan.shape rows
greedy_inside plan there [] tuples is h = tt
greedy_inside plan there (row ∷ rows) [] is h = cc h
greedy_inside plan there (row ∷ rows) (t ∷ tuples) is h =
    let next = h.0 in
    let cell : taken plan.shape there next.array < plan.shape.cells = below (taken plan.shape there next.array) plan.shape.cells next.best.passes in
    (subst (λ (r : LayoutRow). IsTrue (has_place plan.shape r.place)) (sym next.is) (within plan.shape is next.array (taken plan.shape there next.array) next.best.within cell), greedy_inside plan (there ++ row ∷ []) rows tuples is h.1)
  where
    below : (m n : ℕ) → nat_lt m n ≡ true → m < n
    below m n e = grind (arith, nat_tests)

plain_inside_from : (shape : Shape) (i : ℕ) (tuples : List TupleId) → IsShape shape → i + length tuples ≤ array_count shape * shape.cells
    → AreInside shape (map (λ (at : ℕ × TupleId). plain_row shape at.0 at.1) (enumerate_from i tuples))
plain_inside_from shape i [] is fit = tt
plain_inside_from shape i (t ∷ tuples) is fit =
    let some : 0 < shape.cells = omega (arith, is.cells.0) in
    let low : i / shape.cells < array_count shape = (div-lt_iff_lt-mul some).1 (omega (arith, fit)) in
    (within shape is (i / shape.cells) (i % shape.cells) low (mod-lt i some), plain_inside_from shape (i + 1) tuples is (omega (arith, fit)))

pub plain_inside : (shape : Shape) (tuples : List TupleId) → IsShape shape → length tuples ≤ array_count shape * shape.cells → AreInside shape (plain_rows shape tuples)
plain_inside shape tuples is fit = plain_inside_from shape 0 tuples is (omega (arith, fit))

-- ---- the tuples of the rows

abbrev row_tuples : List LayoutRow → List TupleId
row_tuples rows = map (λ (row : LayoutRow). row.tuple) rows

greedy_tuples : (plan : Plan) (there rows : List LayoutRow) (tuples : List TupleId) → IsGreedyBehind plan there tuples rows → row_tuples rows ≡ tuples
greedy_tuples plan there [] [] h = refl
greedy_tuples plan there [] (t ∷ tuples) h = absurd h
greedy_tuples plan there (row ∷ rows) [] h = cc h
greedy_tuples plan there (row ∷ rows) (t ∷ tuples) h = ap₂ (λ (u : TupleId) (l : List TupleId). u ∷ l) (ap (λ (r : LayoutRow). r.tuple) h.0.is) (greedy_tuples plan (there ++ row ∷ []) rows tuples h.1)

plain_tuples : (shape : Shape) (i : ℕ) (tuples : List TupleId) → row_tuples (map (λ (at : ℕ × TupleId). plain_row shape at.0 at.1) (enumerate_from i tuples)) ≡ tuples
plain_tuples shape i [] = refl
plain_tuples shape i (t ∷ tuples) = ap (λ l. t ∷ l) (plain_tuples shape (i + 1) tuples)

pub greedy_length : (plan : Plan) (rows : List LayoutRow) (tuples : List TupleId) → IsGreedy plan tuples rows → length rows ≡ length tuples
greedy_length plan rows tuples h = sym (length-map rows (λ (row : LayoutRow). row.tuple)) ∙ ap length (greedy_tuples plan [] rows tuples h)

pub plain_length : (shape : Shape) (tuples : List TupleId) → length (plain_rows shape tuples) ≡ length tuples
plain_length shape tuples = sym (length-map (plain_rows shape tuples) (λ (row : LayoutRow). row.tuple)) ∙ ap length (plain_tuples shape 0 tuples)

count-map : {X : Type 0} (f : X → TupleId) (p : TupleId → Bool) (xs : List X) → count_by (λ x. p (f x)) xs ≡ count_by p (map f xs)
count-map f p [] = refl
count-map f p (x ∷ xs) = count-cons (λ y. p (f y)) x xs ∙ ap (λ n. cond (p (f x)) 1 0 + n) (count-map f p xs) ∙ sym (count-cons p (f x) (map f xs))

by_rows : (P : TupleId → Type 0) (rows : List LayoutRow) → AllByRecursion P (row_tuples rows) → AllByRecursion (λ (row : LayoutRow). P row.tuple) rows
by_rows P [] h = tt
by_rows P (row ∷ rows) h = (h.0, by_rows P rows h.1)

-- ---- no fault

good_rows : (shape : Shape) (tuples : Tuples) (rows : List LayoutRow) → AllByRecursion (λ (row : LayoutRow). IsSome (fin.get tuples row.tuple)) rows → AreInside shape rows → (k : ℕ) → k < length rows
    → is_bad_row shape tuples (get_or rows k no_row) ≡ false
good_rows shape tuples [] there inside k lt = absurd (omega arith)
good_rows shape tuples (row ∷ rows) there inside zero lt = good (is_some (fin.get tuples row.tuple)) (has_place shape row.place) (search (rules, there.0)) (search (rules, inside.0))
  where
    good : (a b : Bool) → a ≡ true → b ≡ true → (not a || not b) ≡ false
    good a b e f = ap₂ (λ (x y : Bool). not x || not y) e f
good_rows shape tuples (row ∷ rows) there inside (suc k) lt = good_rows shape tuples rows there.1 inside.1 k (omega (arith, lt))

no_fault : (shape : Shape) (tuples : Tuples) (rows : List LayoutRow) → first_bad_row shape tuples rows ≡ None → first_repeat rows ≡ None → layout_fault shape tuples rows ≡ None
unfolding layout_fault
no_fault shape tuples rows good new = rw (good, new) refl

module _ (shape : Shape) (tuples : Tuples) (hot : List HotRow) (there : All (λ (row : HotRow). IsSome (fin.get tuples row.tuple)) hot) (once : IsOnceEach hot) where
  valid : (rows : List LayoutRow) → row_tuples rows ≡ tuples_of hot → AreInside shape rows → AreNew (λ l r. names_place l r.place) [] rows → layout_fault shape tuples rows ≡ None
  valid rows same inside places =
      let Q : TupleId → Type 0 = λ t. IsSome (fin.get tuples t) in
      let all = recursion_from_All Q (tuples_of hot) (All-map Q (λ (row : HotRow). row.tuple) hot there) in
      let known = by_rows Q rows (subst (AllByRecursion Q) (sym same) all) in
      let good = position_none (is_bad_row shape tuples) no_row rows (good_rows shape tuples rows known inside) in
      let few : (t : TupleId) → count_by (λ (r : LayoutRow). same_tuple r.tuple t) rows ≤ 1 = λ t. omega (
        arith,
        once t,
        count-map (λ (row : LayoutRow). row.tuple) (λ u. same_tuple u t) rows,
        ap (count_by (λ (u : TupleId). same_tuple u t)) same,
        count-map (λ (row : HotRow). row.tuple) (λ u. same_tuple u t) hot,
      ) in
      let names = new_tuples [] rows (λ t. (let none : count_by (λ (r : LayoutRow). same_tuple r.tuple t) [] ≡ 0 = refl in omega (arith, few t, none))) in
      let new = first_none (λ k (row : LayoutRow). repeats (take k rows) row) no_row rows (λ k lt. either (names_tuple (take k rows) (get_or rows k no_row).tuple) (names_place (take k rows) (get_or rows k no_row).place) (new_at (λ l r. names_tuple l r.tuple) [] rows k no_row names lt) (new_at (λ l r. names_place l r.place) [] rows k no_row places lt)) in
      no_fault shape tuples rows good new

  pub greedy_valid : (plan : Plan) (rows : List LayoutRow) → plan.shape ≡ shape → IsShape shape → IsGreedy plan (tuples_of hot) rows → layout_fault shape tuples rows ≡ None
  greedy_valid plan rows shaped is greedy =
      let is_plan = subst IsShape (sym shaped) is in
      valid rows (greedy_tuples plan [] rows (tuples_of hot) greedy) (subst (λ s. AreInside s rows) shaped (greedy_inside plan [] rows (tuples_of hot) is_plan greedy)) (greedy_places plan [] rows (tuples_of hot) greedy tt)

  pub plain_valid : IsShape shape → length hot ≤ array_count shape * shape.cells → layout_fault shape tuples (plain_rows shape (tuples_of hot)) ≡ None
  plain_valid is fit =
      let size : length (tuples_of hot) ≤ array_count shape * shape.cells = omega (arith, fit, length-map hot (λ (row : HotRow). row.tuple)) in
      valid (plain_rows shape (tuples_of hot)) (plain_tuples shape 0 (tuples_of hot)) (plain_inside shape (tuples_of hot) is size) (plain_places shape [] 0 (tuples_of hot) tt)
