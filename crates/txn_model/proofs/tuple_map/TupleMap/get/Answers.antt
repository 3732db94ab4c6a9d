use Rattle.std.proofs.Common.{SFits, w64, rules, Some, sym, ap, ◌∙◌}
use Rattle.std.proofs.lemmas.Int.{to_z-of_z}
use Rattle.std.specs.FinMap as fin
use Rattle.txn_model.proofs.SortedRows.{get_at, get_absent}
use Rattle.txn_model.proofs.TupleOrder.{tuple_cmp_total}
use Rattle.txn_model.proofs.tuple_map.TupleMap.get.Goals as goal

pub returns-in-Some : goal.returns-in-Some
returns-in-Some c =
    let row = c.index.result.now in
    let fits : SFits w64 row.1 = search rules in
    let found = rw c.as_slice.ensures.value at c.in-Some.ensures in
    ap Some (to_z-of_z w64 row.1 fits) ∙ sym (ap (λ m. fin.get m c.args.tuple) (sym c.self.view_is) ∙ get_at tuple_cmp_total _ c.self.invariant c.args.tuple c.in-Some.at row found.0 (found.1 row) c.index.ensures)

pub returns-in-None : goal.returns-in-None
returns-in-None c =
    let none = rw c.as_slice.ensures.value at c.in-None.ensures in
    sym (ap (λ m. fin.get m c.args.tuple) (sym c.self.view_is) ∙ get_absent tuple_cmp_total _ c.self.invariant c.args.tuple none)
