use Rattle.std.proofs.Common.{Some, sym, ap, ◌∙◌}
use Rattle.txn_model.proofs.SortedRows.{find_at}
use Rattle.txn_model.proofs.TupleOrder.{tuple_cmp_total}
use Rattle.stage_layout.specs.Layout.{place_of}
use Rattle.stage_layout.proofs.layout.Layout.place_of.Goals as goal

pub returns-in-Some : goal.returns-in-Some
returns-in-Some c =
    let found = rw c.as_slice.ensures.value at c.in-Some.ensures in
    let row = c.index.result.now in
    ap (λ r. Some r.1) c.index.ensures
    ∙ sym (find_at tuple_cmp_total c.self.inside.places.items c.self.invariant.sorted c.args.tuple c.in-Some.at row found.0 (found.1 row))
    ∙ c.self.invariant.by_tuple c.args.tuple
    ∙ ap (λ rows. place_of rows c.args.tuple) c.self.view_is
