-- The session that is written, as a plan.
use Rattle.std.specs.Prelude.{List, [], ◌∷◌, map}
use Rattle.std.specs.FinMap.{from_sorted}
use Rattle.txn_model.specs.Needs.{needs_of}
use Rattle.txn_model.specs.declared.op.Op.{Op}
use Rattle.stage_layout.specs.declared.layout.LayoutRow.{LayoutRow}
use Rattle.stage_layout.specs.declared.shape.Shape.{Shape}
use Rattle.catalogue.specs.Plan.{Plan, PlainItem, Run, Lose}
use Rattle.session_draft.specs.Written.{WrittenOp, WrittenItem, run, lose, Written}
use Rattle.session_draft.specs.declared.draft.RowDraft.{RowDraft}
use Rattle.session_draft.specs.declared.draft.ShapeDraft.{ShapeDraft}

abbrev pub op_of : WrittenOp → Op
op_of op = record { tuple = op.tuple; act = op.act; needs = needs_of op.needs }

abbrev pub item_of : WrittenItem → PlainItem
item_of (run ops) = Run (map op_of ops)
item_of lose = Lose

abbrev pub row_of : RowDraft → LayoutRow
row_of row = record { tuple = row.tuple; place = row.place }

abbrev pub shape_of : ShapeDraft → Shape
shape_of shape = record { stages = shape.stages; arrays = shape.arrays; cells = shape.cells; split = shape.split; hosts = shape.hosts }

-- all that is written but the schedule
abbrev pub unscheduled : Written → Plan
unscheduled w = record {
  shape = shape_of w.shape;
  tuples = from_sorted w.tuples;
  layout = map row_of w.layout;
  tries = w.tries;
  clients = map (map item_of) w.clients;
  schedule = [];
}
