use Rattle.std.proofs.Common.{◌≡◌, ◌++◌, string_bytes, drop}
use Rattle.std.specs.List.{flat_map}
use Rattle.report_text.specs.Lines.{tuple_line}
use Rattle.report_text.proofs.recovered.push_registers.Given as goal

-- the lines so far and those of the tuples that are left make the whole
abbrev pub invariant-loop-tuple : goal.invariant-loop-tuple
invariant-loop-tuple l = string_bytes l.text ++ flat_map tuple_line (drop l.tuple-index l.rows) ≡ string_bytes l.initial.text ++ flat_map tuple_line l.rows
