use Rattle.std.proofs.Common.{◌≡◌, ◌++◌, string_bytes, take}
use Rattle.std.specs.List.{flat_map}
use Rattle.list_text.specs.LayoutText.{place_line}
use Rattle.list_text.proofs.layout_list.push_rows.Given as goal

-- the lines of the rows so far
abbrev pub invariant-loop-row : goal.invariant-loop-row
invariant-loop-row l = string_bytes l.text ≡ string_bytes l.initial.text ++ flat_map place_line (take l.row-index l.rows)
