-- The text of a list of tuples with their uses.
use Rattle.std.specs.Prelude.{ℕ, List, ◌++◌, codes, decimal, length}
use Rattle.std.specs.List.{flat_map}
use Rattle.hot_set.specs.declared.ranking.HotRow.{HotRow}

-- a tuple, and how often it is used
unfoldable pub row_line : HotRow → List ℕ
row_line row = codes "t" ++ decimal row.tuple.0 ++ codes " " ++ decimal row.uses ++ codes "\n"

-- how many tuples follow, and the line of each
unfoldable pub hot_text : List HotRow → List ℕ
hot_text rows = codes "hot " ++ decimal (length rows) ++ codes "\n" ++ flat_map row_line rows
