-- Operations: `["read",tuple]`, `["put",tuple,base,needs]`, `["add",tuple,base,needs]`, `["choose",tuple,limit,above,below,needs]`.
use Rattle.std.specs.Prelude.{List, [], ◌∷◌, codes, if◌then◌else◌, Option, Some, None, option_map}
use Rattle.serde_json.specs.Data.{Data}
use Rattle.txn_model.specs.declared.op.Act.TheVariants.{Read, Put, Add, Choose}
use Rattle.txn_model.specs.declared.op.Need.{Need}
use Rattle.txn_model.specs.declared.op.TupleId.{TupleId}
use Rattle.txn_model.specs.declared.op.Which.{Which}
use Rattle.txn_model.specs.declared.op.Which.TheVariants.{Old, Moved}
use Rattle.session_draft.specs.Json.{◌>>=◌, integer_of, number_to, is_text, list_of, list_each}
use Rattle.session_draft.specs.Written.{WrittenOp}

-- a tuple's number
abbrev pub tuple_of : Data → Option TupleId
tuple_of d = option_map (λ n. record { 0 = n }) (number_to 4294967295 d)

-- `"old"` or `"moved"`
abbrev pub which_of : Data → Option Which
which_of d = if is_text (codes "old") d then Some Old else (if is_text (codes "moved") d then Some Moved else None)

abbrev pub need_in : List Data → Option Need
need_in (which ∷ from ∷ []) = do
  w ← which_of which
  k ← number_to 255 from
  Some (record { from = k; which = w })
need_in _ = None

-- `["old",k]` or `["moved",k]`
abbrev pub need_of : Data → Option Need
need_of d = list_of d >>= need_in

-- `[tuple]`, behind the name
abbrev pub read_in : List Data → Option WrittenOp
read_in (tuple ∷ []) = do
  t ← tuple_of tuple
  Some (record { tuple = t; act = Read; needs = [] })
read_in _ = None

-- `[tuple,base,needs]`, behind the name
abbrev pub put_in : List Data → Option WrittenOp
put_in (tuple ∷ base ∷ needs ∷ []) = do
  t ← tuple_of tuple
  b ← integer_of base
  ns ← list_each need_of needs
  Some (record { tuple = t; act = Put b; needs = ns })
put_in _ = None

-- `[tuple,base,needs]`, behind the name
abbrev pub add_in : List Data → Option WrittenOp
add_in (tuple ∷ base ∷ needs ∷ []) = do
  t ← tuple_of tuple
  b ← integer_of base
  ns ← list_each need_of needs
  Some (record { tuple = t; act = Add b; needs = ns })
add_in _ = None

-- `[tuple,limit,above,below,needs]`, behind the name
abbrev pub choose_in : List Data → Option WrittenOp
choose_in (tuple ∷ limit ∷ above ∷ below ∷ needs ∷ []) = do
  t ← tuple_of tuple
  l ← integer_of limit
  a ← integer_of above
  b ← integer_of below
  ns ← list_each need_of needs
  Some (record { tuple = t; act = Choose l a b; needs = ns })
choose_in _ = None

abbrev pub op_in : List Data → Option WrittenOp
op_in [] = None
op_in (name ∷ rest) =
    if is_text (codes "read") name then read_in rest else
    (if is_text (codes "put") name then put_in rest else
    (if is_text (codes "add") name then add_in rest else
    (if is_text (codes "choose") name then choose_in rest else None)))

-- an operation
unfoldable pub op_of : Data → Option WrittenOp
op_of d = list_of d >>= op_in
