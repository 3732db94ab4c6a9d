-- The text of a layout with its passes.
use Rattle.std.specs.Prelude.{ℕ, List, ◌++◌, codes, decimal, length}
use Rattle.std.specs.List.{flat_map}
use Rattle.stage_layout.specs.declared.layout.LayoutRow.{LayoutRow}
use Rattle.declust.specs.declared.chosen.SpreadLayout.{SpreadLayout}

-- a tuple, and the stage, the array and the cell of its place
unfoldable pub place_line : LayoutRow → List ℕ
place_line row = codes "t" ++ decimal row.tuple.0 ++ codes " " ++ decimal row.place.stage ++ codes " " ++ decimal row.place.array ++ codes " " ++ decimal row.place.cell ++ codes "\n"

-- how many tuples follow, the line of each, and the passes under this layout and under the plain one
unfoldable pub layout_text : SpreadLayout → List ℕ
layout_text spread =
    codes "layout " ++ decimal (length spread.layout) ++ codes "\n" ++ flat_map place_line spread.layout
    ++ codes "passes " ++ decimal spread.passes ++ codes " plain " ++ decimal spread.plain ++ codes "\n"
