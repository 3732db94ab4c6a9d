use Rattle.std.proofs.Common.{◌≡◌, ◌++◌, string_bytes, map}
use Rattle.std.specs.List.{flat_map}
use Rattle.report_text.specs.Lines.{entry_line}
use Rattle.report_text.proofs.section.push_history.Given as goal

-- the lines so far and those of the entries that are left make the whole
abbrev pub invariant-loop-entry : goal.invariant-loop-entry
invariant-loop-entry l = string_bytes l.text ++ flat_map entry_line (map (λ e. e.entry) l.entry-iterator) ≡ string_bytes l.initial.text ++ flat_map entry_line (map (λ e. e.entry) l.history.items)
