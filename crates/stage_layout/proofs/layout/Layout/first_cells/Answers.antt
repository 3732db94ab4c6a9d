use Rattle.std.proofs.Common.{◌∙◌, ap}
use Rattle.std.specs.FinMap as fin
use Rattle.std.proofs.lemmas.Result.{IfOk-weaker}
use Rattle.txn_model.specs.Places.{Places, place_cmp}
use Rattle.txn_model.specs.Tuples.{value_at}
use Rattle.stage_layout.specs.Layout.{first_cells}
use Rattle.stage_layout.proofs.Cells.{is_sorted-map, first_cells-from_map}
use Rattle.stage_layout.proofs.layout.Layout.first_cells.Goals as goal

pub of-requires : goal.of-requires
of-requires c = record { ascending = rw (c.as_slice.ensures.value, c.in_ok-rows.ensures.rows) (is_sorted-map place_cmp (value_at c.args.tuples.now) c.self.inside.tuples.entries c.in_ok-rows.ensures.ordered) }

pub returns : goal.returns
returns c =
    let made = c.as_slice.ensures.value ∙ c.in_ok-rows.ensures.rows in
    let cells = first_cells-from_map c.args.tuples.now _ c.self.inside.tuples c.self.invariant.by_place c.in_ok-rows.ensures.ordered in
    IfOk-weaker c.of.result _ _ (λ (m : Places) e. e ∙ ap (fin.from_sorted {R = place_cmp}) made ∙ cells ∙ ap (first_cells c.args.tuples.now) c.self.view_is) c.of.ensures
