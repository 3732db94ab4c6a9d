-- The plain layout of a list of tuples: the cells of one array after the other.
use Rattle.std.specs.Prelude.{ℕ, ◌/◌, ◌%◌, List, map}
use Rattle.std.specs.List.{enumerate_from}
use Rattle.txn_model.specs.declared.op.TupleId.{TupleId}
use Rattle.stage_layout.specs.declared.layout.LayoutRow.{LayoutRow}
use Rattle.stage_layout.specs.declared.shape.Shape.{Shape}
use Rattle.hot_set.specs.declared.ranking.HotRow.{HotRow}
use Rattle.declust.specs.Arrays.{place_in}

-- the tuples of a hot list
abbrev pub tuples_of : List HotRow → List TupleId
tuples_of rows = map (λ row. row.tuple) rows

-- tuple number i of the list is in cell i mod cells of array i / cells
abbrev pub plain_row : Shape → ℕ → TupleId → LayoutRow
plain_row shape i t = record { tuple = t; place = place_in shape (i / shape.cells) (i % shape.cells) }

abbrev pub plain_rows : Shape → List TupleId → List LayoutRow
plain_rows shape tuples = map (λ at. plain_row shape at.0 at.1) (enumerate_from 0 tuples)
