-- Sessions as lists and finite maps, without spare room: what each client runs, and what is asked of it.
use Rattle.std.specs.Prelude.{ℕ, ◌-◌, ◌%◌, ◌==◌, List, [], Option, Some, None, slice_get, slice_index_or, option_and_then, unwrap_or, if◌then◌else◌}
use Rattle.std.specs.List.{list_all, list_any}
use Rattle.txn_model.specs.Places.{Places}
use Rattle.txn_model.specs.Tuples.{Tuples}
use Rattle.txn_model.specs.declared.op.Op.{Op}
use Rattle.txn_model.specs.declared.op.TupleId.{TupleId}
use Rattle.stage_layout.specs.Late.{is_hot}
use Rattle.stage_layout.specs.Layout.{first_cells}
use Rattle.stage_layout.specs.declared.layout.LayoutRow.{LayoutRow}
use Rattle.stage_layout.specs.declared.shape.Shape.{Shape}
use Rattle.catalogue.specs.declared.actor.Actor.{Actor}
use Rattle.catalogue.specs.declared.kind.Kind.{Kind}
use Rattle.catalogue.specs.declared.kind.Kind.TheVariants.{Hot, Warm, Cold}

-- an item: a transaction, or a loss of the switch
pub data PlainItem : Type 0 where
  Run : List Op → PlainItem
  Lose : PlainItem

pub record Plan : Type 0 where
  pub shape : Shape
  pub tuples : Tuples
  pub layout : List LayoutRow
  pub tries : ℕ
  pub clients : List (List PlainItem)
  pub schedule : List Actor

-- the items of a client
abbrev pub items_of : Plan → ℕ → List PlainItem
items_of plan client = slice_index_or plan.clients client []

-- the item of a client with this number, counted from 1
abbrev pub item_of : Plan → ℕ → ℕ → Option PlainItem
item_of plan client seq = if seq == 0 then None else slice_get (items_of plan client) (seq - 1)

abbrev pub script_in : PlainItem → Option (List Op)
script_in (Run ops) = Some ops
script_in Lose = None

-- the transaction that is this item of the client; None where it is a loss, or there is no such item
abbrev pub script_of : Plan → ℕ → ℕ → Option (List Op)
script_of plan client seq = option_and_then script_in (item_of plan client seq)

-- its operations; none where there is no transaction
abbrev pub script_at : Plan → ℕ → ℕ → List Op
script_at plan client seq = unwrap_or (script_of plan client seq) []

-- the host of a tuple
abbrev pub host_of : Plan → TupleId → ℕ
host_of plan t = t.0 % plan.shape.hosts

-- whether the tuples of a script are all in the switch, all on hosts, or some here and some there
abbrev pub kind_of : List LayoutRow → List Op → Kind
kind_of rows ops =
    if list_all (λ op. is_hot rows op.tuple) ops then Hot else
    (if list_any (λ op. is_hot rows op.tuple) ops then Warm else Cold)

-- the first values of the hot tuples, by their places
abbrev pub hot_cells : Plan → Places
hot_cells plan = first_cells plan.tuples plan.layout
