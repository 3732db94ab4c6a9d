-- A session as it is written, as pure lists and numbers, and what a draft holds in these words.
use Rattle.std.specs.Prelude.{ℕ, ℤ, List, map, string_bytes, Vec}
use Rattle.std.specs.declared.alloc.Global.{Global}
use Rattle.txn_model.specs.declared.op.Act.{Act}
use Rattle.txn_model.specs.declared.op.Need.{Need}
use Rattle.txn_model.specs.declared.op.TupleId.{TupleId}
use Rattle.session_draft.specs.declared.draft.Draft.{Draft}
use Rattle.session_draft.specs.declared.draft.ItemDraft.{ItemDraft}
use Rattle.session_draft.specs.declared.draft.ItemDraft.TheVariants.{Run, Lose}
use Rattle.session_draft.specs.declared.draft.OpDraft.{OpDraft}
use Rattle.session_draft.specs.declared.draft.RowDraft.{RowDraft}
use Rattle.session_draft.specs.declared.draft.ShapeDraft.{ShapeDraft}

-- an operation
pub record WrittenOp : Type 0 where
  pub tuple : TupleId
  pub act : Act
  pub needs : List Need

-- an item of a client
pub data WrittenItem : Type 0 where
  run : List WrittenOp → WrittenItem
  lose : WrittenItem

-- a whole session; the schedule is the bytes of its text
pub record Written : Type 0 where
  pub shape : ShapeDraft
  pub tuples : List (TupleId × ℤ)
  pub layout : List RowDraft
  pub tries : ℕ
  pub clients : List (List WrittenItem)
  pub schedule : List ℕ

abbrev pub written_op : OpDraft → WrittenOp
written_op op = record { tuple = op.tuple; act = op.act; needs = op.needs.items }

abbrev pub written_item : ItemDraft → WrittenItem
written_item (Run ops) = run (map written_op ops.items)
written_item Lose = lose

abbrev pub written_items : Vec ItemDraft Global → List WrittenItem
written_items items = map written_item items.items

abbrev pub written : Draft → Written
written draft = record {
  shape = draft.shape;
  tuples = draft.tuples.items;
  layout = draft.layout.items;
  tries = draft.tries;
  clients = map written_items draft.clients.items;
  schedule = string_bytes draft.schedule;
}
