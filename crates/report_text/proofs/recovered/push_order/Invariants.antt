use Rattle.std.proofs.Common.{◌≡◌, ◌++◌, string_bytes, drop, map}
use Rattle.std.specs.List.{flat_map}
use Rattle.gap_placement.specs.Answers.{plain_slotted}
use Rattle.report_text.specs.Recovered.{slotted_line}
use Rattle.report_text.proofs.recovered.push_order.Given as goal

-- the lines so far and those of the packets that are left make the whole
abbrev pub invariant-loop-row : goal.invariant-loop-row
invariant-loop-row l = string_bytes l.text ++ flat_map slotted_line (map plain_slotted (drop l.row-index l.rows)) ≡ string_bytes l.initial.text ++ flat_map slotted_line (map plain_slotted l.rows)
