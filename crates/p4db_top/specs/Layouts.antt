-- The text of a layout of a session's most used tuples.
use Rattle.std.specs.Prelude.{◌≡◌, ℕ, ◌*◌, List, min}
use Rattle.catalogue.specs.Plan.{Plan}
use Rattle.stage_layout.specs.declared.shape.Shape.{Shape}
use Rattle.hot_set.specs.Hottest.{IsHotList}
use Rattle.hot_set.specs.declared.ranking.HotRow.{HotRow}
use Rattle.declust.specs.Arrays.{array_count}
use Rattle.declust.specs.Plain.{tuples_of}
use Rattle.declust.specs.Spread.{IsSpread}
use Rattle.declust.specs.declared.chosen.SpreadLayout.{SpreadLayout}
use Rattle.list_text.specs.LayoutText.{layout_text}

-- the cells of all register arrays of a switch
abbrev pub cell_count : Shape → ℕ
cell_count shape = array_count shape * shape.cells

-- the text of a layout of the k most used tuples of a session, where the switch has so many cells, else of as many as it has
pub record IsLayoutText (k : ℕ) (session : Plan) (text : List ℕ) : Type 0 where
  pub rows : List HotRow
  pub list : IsHotList session (min k (cell_count session.shape)) rows
  pub layout : SpreadLayout
  pub spread : IsSpread session (tuples_of rows) layout
  pub is : text ≡ layout_text layout
