use Rattle.std.proofs.Common.{◌≡◌, length, take}
use Rattle.catalogue.specs.PlanOf.{plan_of}
use Rattle.declust.specs.Columns.{AreColumns}
use Rattle.declust.specs.Greedy.{IsGreedy}
use Rattle.declust.specs.Plain.{tuples_of}
use Rattle.declust.proofs.greedy.greedy_rows.Given as goal

-- the tuples so far have their rows, and the columns are what these make of them
abbrev pub invariant-loop-row : goal.invariant-loop-row
invariant-loop-row l = record {
  greedy : IsGreedy (plan_of l.session) (tuples_of (take l.row-index l.hot)) l.rows.items;
  size : length l.rows.items ≡ l.row-index;
  columns : AreColumns (plan_of l.session) l.rows.items l.columns;
}
