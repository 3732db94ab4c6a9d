-- A law of layouts.
use Rattle.std.specs.Prelude.{◌≡◌, List}
use Rattle.txn_model.specs.declared.op.TupleId.{TupleId}
use Rattle.stage_layout.specs.declared.layout.LayoutRow.{LayoutRow}
use Rattle.catalogue.specs.Plan.{Plan}
use Rattle.declust.specs.Greedy.{IsGreedy}

-- a list of tuples has no two greedy layouts
abbrev pub GreedyLayoutsAreOne : Type 0
GreedyLayoutsAreOne = (plan : Plan) (tuples : List TupleId) (xs ys : List LayoutRow) → IsGreedy plan tuples xs → IsGreedy plan tuples ys → xs ≡ ys
