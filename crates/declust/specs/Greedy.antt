-- The greedy layout of a list of tuples: each is put into the array that has the fewest scripts in common with it.
use Rattle.std.specs.Prelude.{◌≡◌, ℕ, ◌<◌, ◌≤◌, ◌==◌, ◌&&◌, Bool, true, List, [], ◌∷◌, ◌++◌, nat_lt}
use Rattle.std.specs.List.{count_by, list_any, flat_map}
use Rattle.txn_model.specs.declared.op.TupleId.{TupleId}
use Rattle.stage_layout.specs.Layout.{same_tuple}
use Rattle.stage_layout.specs.declared.layout.LayoutRow.{LayoutRow}
use Rattle.stage_layout.specs.declared.shape.Shape.{Shape}
use Rattle.catalogue.specs.Plan.{Plan, PlainItem}
use Rattle.hot_set.specs.Uses.{tuples_in}
use Rattle.declust.specs.Arrays.{array_count, array_of, place_in}

-- the items of all clients, one client after the other
abbrev pub all_items : Plan → List PlainItem
all_items plan = flat_map (λ items. items) plan.clients

-- the item's script names the tuple
abbrev pub names : PlainItem → TupleId → Bool
names item t = list_any (λ u. same_tuple u t) (tuples_in item)

-- the item's script names a tuple that the rows put into the array
abbrev pub touches : Shape → List LayoutRow → ℕ → PlainItem → Bool
touches shape rows array item = list_any (λ row. array_of shape row.place == array && names item row.tuple) rows

-- how many items share the tuple with the array: their scripts name it, and one that the rows put into the array
abbrev pub shared : Plan → List LayoutRow → TupleId → ℕ → ℕ
shared plan rows t array = count_by (λ item. names item t && touches plan.shape rows array item) (all_items plan)

-- how many cells of the array the rows take: the first ones
abbrev pub taken : Shape → List LayoutRow → ℕ → ℕ
taken shape rows array = count_by (λ row. array_of shape row.place == array) rows

-- of the numbers below n that pass the test, k has the least cost, and it is the lowest of those that have it
pub record IsFirstLeast (n : ℕ) (test : ℕ → Bool) (cost : ℕ → ℕ) (k : ℕ) : Type 0 where
  pub within : k < n
  pub passes : test k ≡ true
  pub least : (j : ℕ) → j < n → test j ≡ true → cost k ≤ cost j
  pub first : (j : ℕ) → j < k → test j ≡ true → cost k < cost j

-- behind these rows, the next one puts the tuple into the first free cell of an array that has one: of these arrays, of the one that
-- shares the tuple with the fewest items, and of several such of the lowest
pub record IsNextRow (plan : Plan) (rows : List LayoutRow) (t : TupleId) (row : LayoutRow) : Type 0 where
  pub array : ℕ
  pub best : IsFirstLeast (array_count plan.shape) (λ a. nat_lt (taken plan.shape rows a) plan.shape.cells) (shared plan rows t) array
  pub is : row ≡ record { tuple = t; place = place_in plan.shape array (taken plan.shape rows array) }

-- the tuples are put one after the other, behind those that are there
abbrev pub IsGreedyBehind : Plan → List LayoutRow → List TupleId → List LayoutRow → Type 0
IsGreedyBehind plan there [] rows = rows ≡ []
IsGreedyBehind plan there (t ∷ ts) [] = ⊥
IsGreedyBehind plan there (t ∷ ts) (row ∷ rows) = IsNextRow plan there t row × IsGreedyBehind plan (there ++ row ∷ []) ts rows

-- the rows are the greedy layout of the tuples
abbrev pub IsGreedy : Plan → List TupleId → List LayoutRow → Type 0
IsGreedy plan tuples rows = IsGreedyBehind plan [] tuples rows
