-- The text of a report: three sections, each headed by a line that counts its lines, and the schedule.
use Rattle.std.specs.Prelude.{ℕ, ℤ, List, ◌++◌, codes, length}
use Rattle.std.specs.List.{flat_map}
use Rattle.history_model.specs.declared.entry.Entry.{Entry}
use Rattle.txn_model.specs.declared.op.TupleId.{TupleId}
use Rattle.report_text.specs.Report.{EndedItem, Report}
use Rattle.report_text.specs.Lines.{count_line, item_line, entry_line, tuple_line, schedule_line}

unfoldable pub replies_text : List EndedItem → List ℕ
replies_text items = count_line (codes "replies") (length items) ++ flat_map item_line items

unfoldable pub history_text : List Entry → List ℕ
history_text entries = count_line (codes "history") (length entries) ++ flat_map entry_line entries

unfoldable pub tuples_text : List (TupleId × ℤ) → List ℕ
tuples_text rows = count_line (codes "tuples") (length rows) ++ flat_map tuple_line rows

-- the whole text
unfoldable pub report : Report → List ℕ
report r = replies_text r.items ++ history_text r.history ++ tuples_text r.tuples ++ schedule_line r.trace
