use Rattle.std.proofs.Common.{drop, string_bytes}
use Rattle.session_text.specs.SessionData.{layout_row_data}
use Rattle.session_text.specs.Typed.{IsTypedLayoutRow}
use Rattle.session_text.proofs.Loops.{IsWriting}
use Rattle.session_text.proofs.section.push_layout.Given as goal

abbrev pub invariant-loop-row : goal.invariant-loop-row
invariant-loop-row l = IsWriting layout_row_data IsTypedLayoutRow (string_bytes l.initial.text) (string_bytes l.text) l.later (drop l.row-index l.row-items) l.row-items
