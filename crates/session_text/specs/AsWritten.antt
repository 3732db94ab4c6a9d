-- The draft that a session is: the same sections, with its tuples as a list and its schedule as a text.
use Rattle.std.specs.Prelude.{map}
use Rattle.std.specs.FinMap.{entries}
use Rattle.txn_model.specs.Needs.{needs_list}
use Rattle.txn_model.specs.declared.op.Op.{Op}
use Rattle.stage_layout.specs.declared.layout.LayoutRow.{LayoutRow}
use Rattle.stage_layout.specs.declared.shape.Shape.{Shape}
use Rattle.catalogue.specs.Plan.{Plan, PlainItem, Run, Lose}
use Rattle.session_draft.specs.Written.{WrittenOp, WrittenItem, run, lose, Written}
use Rattle.session_draft.specs.declared.draft.RowDraft.{RowDraft}
use Rattle.session_draft.specs.declared.draft.ShapeDraft.{ShapeDraft}
use Rattle.session_text.specs.SessionData.{schedule_text}

-- an operation, with its needs as a list
abbrev pub op_written : Op → WrittenOp
op_written op = record { tuple = op.tuple; act = op.act; needs = needs_list op.needs }

-- an item
abbrev pub item_written : PlainItem → WrittenItem
item_written (Run ops) = run (map op_written ops)
item_written Lose = lose

-- a row of a layout
abbrev pub row_written : LayoutRow → RowDraft
row_written row = record { tuple = row.tuple; place = row.place }

-- the numbers of a shape
abbrev pub shape_written : Shape → ShapeDraft
shape_written shape = record { stages = shape.stages; arrays = shape.arrays; split = shape.split; hosts = shape.hosts; cells = shape.cells }

-- the draft that a session is
abbrev pub written_of : Plan → Written
written_of plan = record {
  shape = shape_written plan.shape;
  tuples = entries plan.tuples;
  layout = map row_written plan.layout;
  tries = plan.tries;
  clients = map (map item_written) plan.clients;
  schedule = schedule_text plan.schedule;
}
