-- The passes that all transactions of a session need under a layout.
use Rattle.std.specs.Prelude.{◌≡◌, ℕ, List, [], ◌∷◌, sum_by, None, IsTrue}
use Rattle.std.specs.List.{AllByRecursion}
use Rattle.txn_model.specs.ScriptCheck.{script_fault}
use Rattle.stage_layout.specs.Shape.{has_place}
use Rattle.stage_layout.specs.Passes.{plan_of, greatest}
use Rattle.stage_layout.specs.declared.layout.LayoutRow.{LayoutRow}
use Rattle.stage_layout.specs.declared.shape.Shape.{Shape}
use Rattle.catalogue.specs.Plan.{Plan, PlainItem, Run, Lose}
use Rattle.warm_split.specs.Resolved.{planned_ops}
use Rattle.declust.specs.Greedy.{all_items}

-- the passes of an item's hot part, where the tuples of the layout are the hot ones; 0 where none of its tuples is, and for a loss
abbrev pub passes_of : Shape → List LayoutRow → PlainItem → ℕ
passes_of shape rows (Run ops) = greatest (plan_of shape (planned_ops rows ops)).passes
passes_of shape rows Lose = 0

-- the passes of all items
abbrev pub total : Plan → List LayoutRow → ℕ
total plan rows = sum_by (passes_of plan.shape rows) (all_items plan)

-- what a total asks of items: their scripts can be run
abbrev pub HaveNoFault : List PlainItem → Type 0
HaveNoFault [] = Unit {0}
HaveNoFault (Run ops ∷ items) = (script_fault ops ≡ None) × HaveNoFault items
HaveNoFault (Lose ∷ items) = HaveNoFault items

-- what it asks of a layout: its places are those of the switch
abbrev pub AreInside : Shape → List LayoutRow → Type 0
AreInside shape rows = AllByRecursion (λ row. IsTrue (has_place shape row.place)) rows
