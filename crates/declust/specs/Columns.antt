-- What is known of the register arrays while tuples are put into them.
use Rattle.std.specs.Prelude.{◌≡◌, ℕ, ◌<◌, Bool, List, length, nat_lt, slice_get, slice_index_or, Some}
use Rattle.std.specs.List.{count_by}
use Rattle.stage_layout.specs.declared.layout.LayoutRow.{LayoutRow}
use Rattle.catalogue.specs.Plan.{Plan, PlainItem}
use Rattle.declust.specs.ArraySet.{contains}
use Rattle.declust.specs.Arrays.{array_count}
use Rattle.declust.specs.Greedy.{all_items, taken, touches}
use Rattle.declust.specs.declared.array_set.ArraySet.{ArraySet}
use Rattle.declust.specs.declared.columns.Columns.{Columns}
use Rattle.declust.specs.declared.uses.Use.{Use}

-- the arrays that this item touches
abbrev pub set_at : Columns → ℕ → ArraySet
set_at columns item = slice_index_or columns.touched.items item (record { 0 = 0 })

-- how many cells of the array are taken
abbrev pub taken_at : Columns → ℕ → ℕ
taken_at columns array = slice_index_or columns.taken.items array 0

abbrev pub has_room : Columns → ℕ → ℕ → Bool
has_room columns cells array = nat_lt (taken_at columns array) cells

-- how many of the uses are by items that touch the array
abbrev pub touching : Columns → List Use → ℕ → ℕ
touching columns uses array = count_by (λ used. contains (set_at columns used.item) array) uses

-- they are what the rows make of them
pub record AreColumns (plan : Plan) (rows : List LayoutRow) (columns : Columns) : Type 0 where
  pub arrays : length columns.taken.items ≡ array_count plan.shape
  pub taken : (array : ℕ) → array < array_count plan.shape → taken_at columns array ≡ taken plan.shape rows array
  pub items : length columns.touched.items ≡ length (all_items plan)
  pub touched : (k array : ℕ) (item : PlainItem) → slice_get (all_items plan) k ≡ Some item → contains (set_at columns k) array ≡ touches plan.shape rows array item
