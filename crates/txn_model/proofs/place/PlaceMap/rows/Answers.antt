use Rattle.std.proofs.Common.{ap, ◌∙◌}
use Rattle.std.specs.FinMap as fin
use Rattle.txn_model.proofs.SortedRows.{rows_are_entries}
use Rattle.txn_model.proofs.PlaceOrder.{place_cmp_total}
use Rattle.txn_model.proofs.place.PlaceMap.rows.Goals as goal

pub returns : goal.returns
returns c = c.as_slice.ensures.value ∙ rows_are_entries place_cmp_total _ c.self.invariant ∙ ap fin.entries c.self.view_is
