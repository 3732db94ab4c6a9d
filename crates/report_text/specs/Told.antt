-- What appending a number of items' lines makes of a text.
use Rattle.std.specs.Prelude.{◌≡◌, ℕ, List, ◌++◌, length}
use Rattle.std.specs.List.{flat_map}
use Rattle.report_text.specs.Lines.{item_line}
use Rattle.report_text.specs.Report.{EndedItem}

-- the items' lines were appended, and there are this many
pub record Tells (items : List EndedItem) (before after : List ℕ) (count : ℕ) : Type 0 where
  pub lines : after ≡ before ++ flat_map item_line items
  pub many : count ≡ length items
