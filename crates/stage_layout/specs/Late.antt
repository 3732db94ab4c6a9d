-- Where the operations of a script are executed: those on hot tuples in the switch, the others on
-- hosts, before the switch or, where they need what was found there, after it.
use Rattle.std.specs.Prelude.{ℕ, Bool, true, false, not, ◌&&◌, List, [], ◌∷◌, ◌++◌, take, slice_index_or, position, Option, is_some, if◌then◌else◌}
use Rattle.std.specs.List.{list_any, enumerate_from}
use Rattle.txn_model.specs.Needs.{needs_list}
use Rattle.txn_model.specs.declared.op.Op.{Op}
use Rattle.txn_model.specs.declared.op.TupleId.{TupleId}
use Rattle.stage_layout.specs.declared.layout.LayoutRow.{LayoutRow}
use Rattle.stage_layout.specs.Layout.{place_of}

-- the tuple has a place in the switch
abbrev pub is_hot : List LayoutRow → TupleId → Bool
is_hot rows t = is_some (place_of rows t)

-- where an operation is executed: on a host before the switch, in the switch, on a host after it
pub data Part : Type 0 where
  Before : Part
  Hot : Part
  Late : Part

abbrev pub is_before : Part → Bool
is_before Before = true
is_before Hot = false
is_before Late = false

abbrev pub is_in_switch : Part → Bool
is_in_switch Before = false
is_in_switch Hot = true
is_in_switch Late = false

abbrev pub is_after : Part → Bool
is_after Before = false
is_after Hot = false
is_after Late = true

-- the part of operation k
abbrev pub part_at : List Part → ℕ → Part
part_at parts k = slice_index_or parts k Before

-- the part of the operation behind those with these parts: a cold one is late where it needs a hot or a late one
abbrev pub next_part : List LayoutRow → List Part → Op → Part
next_part rows parts op =
    if is_hot rows op.tuple then Hot else
    (if list_any (λ n. not (is_before (part_at parts n.from))) (needs_list op.needs) then Late else Before)

-- the parts of all operations, behind those with these parts
abbrev pub parts_behind : List LayoutRow → List Part → List Op → List Part
parts_behind rows parts [] = parts
parts_behind rows parts (op ∷ ops) = parts_behind rows (parts ++ next_part rows parts op ∷ []) ops

-- the part of each operation of a script
abbrev pub parts_of : List LayoutRow → List Op → List Part
parts_of rows ops = parts_behind rows [] ops

-- operation k of the script is late
abbrev pub is_late : List LayoutRow → List Op → ℕ → Bool
is_late rows ops k = is_after (part_at (parts_of rows ops) k)

-- the operation behind those with these parts is hot and needs a late one
abbrev pub turns_badly : List LayoutRow → List Part → Op → Bool
turns_badly rows parts op = is_hot rows op.tuple && list_any (λ n. is_after (part_at parts n.from)) (needs_list op.needs)

-- the number of the first hot operation of a script that needs a late one
abbrev pub first_bad_turn : List LayoutRow → List Op → Option ℕ
first_bad_turn rows ops = position (λ op. turns_badly rows (parts_of rows (take op.0 ops)) op.1) (enumerate_from 0 ops)
