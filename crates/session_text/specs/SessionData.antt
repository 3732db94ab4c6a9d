-- A session as a JSON value: one function for each part of the grammar.
use Rattle.std.specs.Prelude.{ℕ, ℤ, List, [], ◌∷◌, ◌++◌, map, codes}
use Rattle.std.specs.FinMap.{entries}
use Rattle.serde_json.specs.Data.{Data, number, unsigned, string, array, object, no_members, member}
use Rattle.serde_json.specs.Find.{of_integer}
use Rattle.serde_json.specs.View.{items_of}
use Rattle.txn_model.specs.Needs.{needs_list}
use Rattle.txn_model.specs.Tuples.{Tuples}
use Rattle.txn_model.specs.declared.op.Act.{Act}
use Rattle.txn_model.specs.declared.op.Act.TheVariants.{Read, Put, Add, Choose}
use Rattle.txn_model.specs.declared.op.Need.{Need}
use Rattle.txn_model.specs.declared.op.Needs.{Needs}
use Rattle.txn_model.specs.declared.op.Op.{Op}
use Rattle.txn_model.specs.declared.op.TupleId.{TupleId}
use Rattle.txn_model.specs.declared.op.Which.{Which}
use Rattle.txn_model.specs.declared.op.Which.TheVariants.{Old, Moved}
use Rattle.stage_layout.specs.declared.layout.LayoutRow.{LayoutRow}
use Rattle.stage_layout.specs.declared.shape.Shape.{Shape}
use Rattle.catalogue.specs.Plan.{Plan, PlainItem, Run, Lose}
use Rattle.catalogue.specs.declared.actor.Actor.{Actor}
use Rattle.catalogue.specs.ActorWord.{actor_word}

-- a list of values
abbrev pub list : List Data → Data
list ds = array (items_of ds)

-- a whole number from 0
abbrev pub natural : ℕ → Data
natural n = number (unsigned n)

-- a whole number, with a sign where it is negative
abbrev pub integer : ℤ → Data
integer z = number (of_integer z)

-- `old` or `moved`
abbrev pub which_name : Which → List ℕ
which_name Old = codes "old"
which_name Moved = codes "moved"

-- `["old",k]` or `["moved",k]`
abbrev pub need_data : Need → Data
need_data need = list (string (which_name need.which) ∷ natural need.from ∷ [])

-- the list of an operation's needs
abbrev pub needs_data : Needs → Data
needs_data needs = list (map need_data (needs_list needs))

-- `["read",tuple]`, `["put",tuple,base,needs]`, `["add",tuple,base,needs]` or `["choose",tuple,limit,above,below,needs]`
abbrev pub act_data : TupleId → Needs → Act → Data
act_data tuple needs Read = list (string (codes "read") ∷ natural tuple.0 ∷ [])
act_data tuple needs (Put base) = list (string (codes "put") ∷ natural tuple.0 ∷ integer base ∷ needs_data needs ∷ [])
act_data tuple needs (Add base) = list (string (codes "add") ∷ natural tuple.0 ∷ integer base ∷ needs_data needs ∷ [])
act_data tuple needs (Choose limit above below) =
    list (string (codes "choose") ∷ natural tuple.0 ∷ integer limit ∷ integer above ∷ integer below ∷ needs_data needs ∷ [])

-- an operation
abbrev pub op_data : Op → Data
op_data op = act_data op.tuple op.needs op.act

-- a list of operations, or `"lose"`
abbrev pub item_data : PlainItem → Data
item_data (Run ops) = list (map op_data ops)
item_data Lose = string (codes "lose")

-- the items of a client
abbrev pub client_data : List PlainItem → Data
client_data items = list (map item_data items)

-- the items of each client
abbrev pub clients_data : List (List PlainItem) → Data
clients_data clients = list (map client_data clients)

-- `[tuple,stage,array,cell]`
abbrev pub layout_row_data : LayoutRow → Data
layout_row_data row = list (natural row.tuple.0 ∷ natural row.place.stage ∷ natural row.place.array ∷ natural row.place.cell ∷ [])

-- the rows of a layout in their order
abbrev pub layout_data : List LayoutRow → Data
layout_data rows = list (map layout_row_data rows)

-- `[id,value]`
abbrev pub tuple_row_data : TupleId × ℤ → Data
tuple_row_data row = list (natural row.0.0 ∷ integer row.1 ∷ [])

-- the tuples with their first values, by ascending ids
abbrev pub tuples_data : Tuples → Data
tuples_data tuples = list (map tuple_row_data (entries tuples))

-- the five numbers of a shape, in the order of their names
abbrev pub shape_data : Shape → Data
shape_data shape = object
    (member (codes "arrays") (natural shape.arrays)
    (member (codes "cells") (natural shape.cells)
    (member (codes "hosts") (natural shape.hosts)
    (member (codes "split") (natural shape.split)
    (member (codes "stages") (natural shape.stages) no_members)))))

-- the words of more actors, each behind a space
abbrev pub more_words : List Actor → List ℕ
more_words [] = []
more_words (actor ∷ actors) = codes " " ++ (actor_word actor ++ more_words actors)

-- the words of actors, with single spaces between them
abbrev pub schedule_text : List Actor → List ℕ
schedule_text [] = []
schedule_text (actor ∷ actors) = actor_word actor ++ more_words actors

-- a session: its six sections, in the order of their names
abbrev pub data_of : Plan → Data
data_of plan = object
    (member (codes "clients") (clients_data plan.clients)
    (member (codes "layout") (layout_data plan.layout)
    (member (codes "schedule") (string (schedule_text plan.schedule))
    (member (codes "shape") (shape_data plan.shape)
    (member (codes "tries") (natural plan.tries)
    (member (codes "tuples") (tuples_data plan.tuples) no_members))))))
