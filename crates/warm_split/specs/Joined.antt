-- The reply of a script, joined from its two sides: what its operations on hosts found, and the pairs of
-- its operations in the switch.
use Rattle.std.specs.Prelude.{ℤ, pos, List, [], ◌∷◌, ◌++◌, drop, slice_index_or, if◌then◌else◌}
use Rattle.txn_model.specs.Serial.{pair_at, pair_of}
use Rattle.txn_model.specs.declared.op.Op.{Op}
use Rattle.txn_model.specs.declared.pairs.Pair.{Pair}
use Rattle.stage_layout.specs.Late.{is_hot}
use Rattle.stage_layout.specs.declared.layout.LayoutRow.{LayoutRow}

-- the first of the values
abbrev pub first_value : List ℤ → ℤ
first_value values = slice_index_or values 0 (pos 0)

-- the pairs of a script's operations, behind the pairs in done: one in the switch has the next hot pair, and one on a host makes
-- its pair of the next value and of the pairs before
abbrev pub joined_from : List LayoutRow → List Pair → List Op → List ℤ → List Pair → List Pair
joined_from rows done [] values hot = []
joined_from rows done (op ∷ ops) values hot =
    if is_hot rows op.tuple
    then (let pair = pair_at hot 0 in pair ∷ joined_from rows (done ++ pair ∷ []) ops values (drop 1 hot))
    else (let pair = pair_of op done (first_value values) in pair ∷ joined_from rows (done ++ pair ∷ []) ops (drop 1 values) hot)

-- the reply of a script whose operations on hosts find these values and whose operations in the switch have these pairs
abbrev pub joined : List LayoutRow → List Op → List ℤ → List Pair → List Pair
joined rows ops values hot = joined_from rows [] ops values hot
