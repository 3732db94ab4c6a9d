-- The six sections of a session text, each as its part of the grammar says.
use Rattle.std.specs.Prelude.{ℕ, ℤ, Bool, List, [], ◌∷◌, codes, if◌then◌else◌, Option, Some, None, option_map}
use Rattle.std.specs.FinMap.{is_sorted}
use Rattle.std.specs.List.{list_any}
use Rattle.std.specs.Str.{bytes_eq}
use Rattle.serde_json.specs.Data.{Data}
use Rattle.serde_json.specs.Find.{get}
use Rattle.txn_model.specs.Tuples.{tuple_cmp}
use Rattle.txn_model.specs.declared.op.TupleId.{TupleId}
use Rattle.session_draft.specs.Json.{◌>>=◌, integer_of, number_to, is_text, list_of, list_each, has_only_keys}
use Rattle.session_draft.specs.OpText.{tuple_of, op_of}
use Rattle.session_draft.specs.Written.{WrittenItem, run, lose}
use Rattle.session_draft.specs.declared.draft.RowDraft.{RowDraft}
use Rattle.session_draft.specs.declared.draft.ShapeDraft.{ShapeDraft}

-- a key of the whole text
abbrev pub is_section_name : List ℕ → Bool
is_section_name key =
    list_any (bytes_eq key) (codes "shape" ∷ codes "tuples" ∷ codes "layout" ∷ codes "tries" ∷ codes "clients" ∷ codes "schedule" ∷ [])

-- a key of the shape
abbrev pub is_shape_name : List ℕ → Bool
is_shape_name key = list_any (bytes_eq key) (codes "stages" ∷ codes "arrays" ∷ codes "split" ∷ codes "hosts" ∷ codes "cells" ∷ [])

-- an object with no other keys than the six sections
abbrev pub is_session : Data → Bool
is_session d = has_only_keys is_section_name d

-- an object with no other keys than the five of a shape
abbrev pub is_shape : Data → Bool
is_shape d = has_only_keys is_shape_name d

-- the number at a key, from 0 to `most`
abbrev pub number_at : List ℕ → ℕ → Data → Option ℕ
number_at key most d = get key d >>= number_to most

-- an object with exactly the five keys of a shape
unfoldable pub shape_of : Data → Option ShapeDraft
shape_of d = if is_shape d then sizes else None
  where
    sizes : Option ShapeDraft
    sizes = do
      stages ← number_at (codes "stages") 255 d
      arrays ← number_at (codes "arrays") 255 d
      split ← number_at (codes "split") 255 d
      hosts ← number_at (codes "hosts") 255 d
      cells ← number_at (codes "cells") 65535 d
      Some (record { stages = stages; arrays = arrays; split = split; hosts = hosts; cells = cells })

abbrev pub tuple_row_in : List Data → Option (TupleId × ℤ)
tuple_row_in (id ∷ value ∷ []) = do
  t ← tuple_of id
  v ← integer_of value
  Some (t, v)
tuple_row_in _ = None

-- `[id,value]`
abbrev pub tuple_row_of : Data → Option (TupleId × ℤ)
tuple_row_of d = list_of d >>= tuple_row_in

abbrev pub if_ascending : List (TupleId × ℤ) → Option (List (TupleId × ℤ))
if_ascending rows = if is_sorted tuple_cmp rows then Some rows else None

-- a list of rows, with ids that strictly ascend
unfoldable pub tuples_of : Data → Option (List (TupleId × ℤ))
tuples_of d = list_each tuple_row_of d >>= if_ascending

abbrev pub layout_row_in : List Data → Option RowDraft
layout_row_in (tuple ∷ stage ∷ arr ∷ cell ∷ []) = do
  t ← tuple_of tuple
  s ← number_to 255 stage
  a ← number_to 255 arr
  c ← number_to 65535 cell
  Some (record { tuple = t; place = record { stage = s; array = a; cell = c } })
layout_row_in _ = None

-- `[tuple,stage,array,cell]`
abbrev pub layout_row_of : Data → Option RowDraft
layout_row_of d = list_of d >>= layout_row_in

-- a list of rows
unfoldable pub layout_of : Data → Option (List RowDraft)
layout_of d = list_each layout_row_of d

-- `"lose"`, or a list of operations
abbrev pub item_of : Data → Option WrittenItem
item_of d = if is_text (codes "lose") d then Some lose else option_map run (list_each op_of d)

-- a list of lists of items
unfoldable pub clients_of : Data → Option (List (List WrittenItem))
clients_of d = list_each (list_each item_of) d
