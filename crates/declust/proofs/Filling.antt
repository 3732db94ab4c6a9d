-- Rows that fill register arrays: their cells, and that an array has a free one.
use Rattle.std.proofs.Common.{◌≡◌, ℕ, zero, suc, ◌+◌, ◌*◌, ◌/◌, ◌%◌, ◌<◌, ◌≤◌, Bool, true, false, cond, ◌&&◌, ◌||◌, List, [], ◌∷◌, ◌++◌, length, eqb, ltb, inl, inr, arith, refl, sym, ap, ap₂, subst, ◌∙◌, length-append, append_assoc, append-nil}
use Rattle.std.specs.Prelude.{nat_lt}
use Rattle.std.specs.List.{count_by, list_any, AllByRecursion}
use Rattle.std.proofs.Math.Nat.{suc-mul, mul-le-mul_left}
use Rattle.std.proofs.lemmas.Bool.{cases_lt}
use Rattle.std.proofs.lemmas.Bool.Decides.{nat_tests}
use Rattle.std.proofs.lemmas.List.Sums.{sum_by-append}
use Rattle.std.proofs.lemmas.Nat.{div-add-mod'}
use Rattle.txn_model.specs.declared.op.TupleId.{TupleId}
use Rattle.txn_model.specs.declared.place.Place.{Place}
use Rattle.stage_layout.specs.Shape.{IsShape}
use Rattle.stage_layout.specs.declared.layout.LayoutRow.{LayoutRow}
use Rattle.stage_layout.specs.declared.shape.Shape.{Shape}
use Rattle.catalogue.specs.Plan.{Plan, PlainItem}
use Rattle.declust.specs.Arrays.{array_count, array_of, place_in}
use Rattle.declust.specs.Greedy.{taken, touches, names, IsNextRow, IsGreedyBehind}
use Rattle.declust.proofs.Counts.{count-cons}

-- the number of an array is that of its places
pub array_of-place_in : (shape : Shape) (array cell : ℕ) → array_of shape (place_in shape array cell) ≡ array
array_of-place_in shape array cell = div-add-mod' array shape.arrays

few_in_all : (n m k : ℕ) → n ≤ 12 → m ≤ 4 → k ≤ 4096 → n * m * k ≤ 196608
few_in_all n m k p q r =
    let rows : n * m ≤ n * 4 = mul-le-mul_left n q in
    let arrays : n * m ≤ 48 = omega (arith, rows, p) in
    let cells : n * m * k ≤ n * m * 4096 = mul-le-mul_left (n * m) r in
    few (n * m) (n * m * k) arrays cells
  where
    few : (a b : ℕ) → a ≤ 48 → b ≤ a * 4096 → b ≤ 196608
    few a b p q = omega (arith, p, q)

-- how many cells a switch has at most
pub few_cells : (shape : Shape) → IsShape shape → array_count shape * shape.cells ≤ 196608
few_cells shape is = few_in_all shape.stages shape.arrays shape.cells is.stages.1 is.arrays.1 is.cells.1

-- ---- one row more

pub taken-push : (shape : Shape) (rows : List LayoutRow) (row : LayoutRow) (array : ℕ) → taken shape (rows ++ row ∷ []) array ≡ taken shape rows array + cond (eqb (array_of shape row.place) array) 1 0
taken-push shape rows row array =
    let p : LayoutRow → Bool = λ r. eqb (array_of shape r.place) array in
    let one : count_by p (row ∷ []) ≡ cond (p row) 1 0 + 0 = count-cons p row [] in
    omega (arith, sum_by-append (λ r. cond (p r) 1 0) rows (row ∷ []), one)

touches-append : (shape : Shape) (xs ys : List LayoutRow) (array : ℕ) (item : PlainItem) → touches shape (xs ++ ys) array item ≡ (touches shape xs array item || touches shape ys array item)
touches-append shape [] ys array item = refl
touches-append shape (x ∷ xs) ys array item =
    elim (eqb (array_of shape x.place) array && names item x.tuple) as (λ b. (b || touches shape (xs ++ ys) array item) ≡ (b || touches shape xs array item || touches shape ys array item)) [
      | true ↦ refl
      | false ↦ touches-append shape xs ys array item
    ]

pub touches-push : (shape : Shape) (rows : List LayoutRow) (row : LayoutRow) (array : ℕ) (item : PlainItem)
    → touches shape (rows ++ row ∷ []) array item ≡ (eqb (array_of shape row.place) array && names item row.tuple || touches shape rows array item)
touches-push shape rows row array item =
    touches-append shape rows (row ∷ []) array item
    ∙ elim (touches shape rows array item) as (λ b. (b || (eqb (array_of shape row.place) array && names item row.tuple || false)) ≡ (eqb (array_of shape row.place) array && names item row.tuple || b)) [
      | true ↦ elim (eqb (array_of shape row.place) array && names item row.tuple) as (λ c. true ≡ (c || true)) [ true ↦ refl | false ↦ refl ]
      | false ↦ refl
    ]

pub greedy_push : (plan : Plan) (there rows : List LayoutRow) (tuples : List TupleId) (t : TupleId) (row : LayoutRow) → IsGreedyBehind plan there tuples rows → IsNextRow plan (there ++ rows) t row
    → IsGreedyBehind plan there (tuples ++ t ∷ []) (rows ++ row ∷ [])
greedy_push plan there [] [] t row old next = (subst (λ l. IsNextRow plan l t row) (append-nil there) next, refl)
greedy_push plan there (r ∷ rows) [] t row old next = cc old
greedy_push plan there [] (u ∷ tuples) t row old next = absurd old
greedy_push plan there (r ∷ rows) (u ∷ tuples) t row old next =
    (old.0, greedy_push plan (there ++ r ∷ []) rows tuples t row old.1 (subst (λ l. IsNextRow plan l t row) (sym (append_assoc there (r ∷ []) rows)) next))

-- ---- rows of the switch's arrays

abbrev pub OfArrays : Shape → List LayoutRow → Type 0
OfArrays shape rows = AllByRecursion (λ row. array_of shape row.place < array_count shape) rows

pub next_array : (plan : Plan) (there : List LayoutRow) (t : TupleId) (row : LayoutRow) (next : IsNextRow plan there t row) → array_of plan.shape row.place ≡ next.array
next_array plan there t row next = ap (λ (r : LayoutRow). array_of plan.shape r.place) next.is ∙ array_of-place_in plan.shape next.array (taken plan.shape there next.array)

pub greedy_arrays : (plan : Plan) (there rows : List LayoutRow) (tuples : List TupleId) → IsGreedyBehind plan there tuples rows → OfArrays plan.shape rows
greedy_arrays plan there [] tuples h = tt
greedy_arrays plan there (row ∷ rows) [] h = cc h
greedy_arrays plan there (row ∷ rows) (t ∷ tuples) h = (omega (arith, next_array plan there t row h.0, h.0.best.within), greedy_arrays plan (there ++ row ∷ []) rows tuples h.1)

-- ---- as many cells are taken as there are rows

abbrev sum_to : (ℕ → ℕ) → ℕ → ℕ
sum_to f zero = 0
sum_to f (suc n) = sum_to f n + f n

sum_to-none : (n : ℕ) → sum_to (λ a. 0) n ≡ 0
sum_to-none zero = refl
sum_to-none (suc n) = omega (arith, sum_to-none n)

sum_to-both : (f g h : ℕ → ℕ) (n : ℕ) → ((a : ℕ) → h a ≡ f a + g a) → sum_to h n ≡ sum_to f n + sum_to g n
sum_to-both f g h zero e = omega arith
sum_to-both f g h (suc n) e = omega (arith, sum_to-both f g h n e, e n)

one_below : (x n : ℕ) → sum_to (λ a. cond (eqb x a) 1 0) n ≡ cond (ltb x n) 1 0
one_below x zero = let e : ltb x 0 ≡ false = grind (arith, nat_tests) in rw e refl
one_below x (suc n) = let rest = one_below x n in let e : cond (ltb x n) 1 0 + cond (eqb x n) 1 0 ≡ cond (ltb x (suc n)) 1 0 = grind (arith, nat_tests) in omega (arith, rest, e)

all_taken : (shape : Shape) (n : ℕ) (rows : List LayoutRow) → AllByRecursion (λ row. array_of shape row.place < n) rows → sum_to (taken shape rows) n ≡ length rows
all_taken shape n [] h = sum_to-none n
all_taken shape n (row ∷ rows) h =
    let x = array_of shape row.place in
    let more = sum_to-both (λ a. cond (eqb x a) 1 0) (taken shape rows) (taken shape (row ∷ rows)) n (λ a. count-cons (λ (r : LayoutRow). eqb (array_of shape r.place) a) row rows) in
    let within : ltb x n ≡ true = grind (arith, nat_tests, h.0) in
    let one : sum_to (λ a. cond (eqb x a) 1 0) n ≡ 1 = one_below x n ∙ ap (λ b. cond b 1 0) within in
    omega (arith, more, one, all_taken shape n rows h.1)

full : (f : ℕ → ℕ) (cells n : ℕ) → ((a : ℕ) → a < n → nat_lt (f a) cells ≡ false) → n * cells ≤ sum_to f n
full f cells zero h = omega arith
full f cells (suc n) h =
    let here : cells ≤ f n = grind (arith, nat_tests, h n (omega arith)) in
    let rest = full f cells n (λ a lt. h a (omega (arith, lt))) in
    let more : suc n * cells ≡ n * cells + cells = suc-mul n cells in
    omega (arith, here, rest, more)

-- where no array has a free cell, there are as many rows as cells
pub no_cell_left : (shape : Shape) (rows : List LayoutRow) → OfArrays shape rows → ((a : ℕ) → a < array_count shape → nat_lt (taken shape rows a) shape.cells ≡ false) → array_count shape * shape.cells ≤ length rows
no_cell_left shape rows of none = omega (arith, full (taken shape rows) shape.cells (array_count shape) none, all_taken shape (array_count shape) rows of)

-- no array has more rows than there are
pub taken-most : (shape : Shape) (rows : List LayoutRow) (array : ℕ) → taken shape rows array ≤ length rows
taken-most shape [] array = omega arith
taken-most shape (row ∷ rows) array =
    let one : cond (eqb (array_of shape row.place) array) 1 0 ≤ 1 = at_most (eqb (array_of shape row.place) array) in
    omega (arith, one, taken-most shape rows array, count-cons (λ (r : LayoutRow). eqb (array_of shape r.place) array) row rows)
  where
    at_most : (b : Bool) → cond b 1 0 ≤ 1
    at_most true = omega arith
    at_most false = omega arith
