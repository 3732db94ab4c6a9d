-- The numbers of a script's operations on hosts.
use Rattle.std.specs.Prelude.{ℕ, ◌+◌, ◌==◌, Bool, List, [], ◌∷◌, length, slice_index_or, if◌then◌else◌}
use Rattle.txn_model.specs.declared.op.Op.{Op}
use Rattle.warm_split.specs.OpSet.{contains}
use Rattle.warm_split.specs.declared.op_set.OpSet.{OpSet}
use Rattle.warm_split.specs.declared.parts.Parts.{Parts}

-- the numbers of these operations, which begin with number k, that aren't in the set
abbrev pub numbers_from : OpSet → ℕ → List Op → List ℕ
numbers_from hot k [] = []
numbers_from hot k (op ∷ ops) = if contains hot k then numbers_from hot (k + 1) ops else k ∷ numbers_from hot (k + 1) ops

-- the numbers of the operations on hosts, in script order
abbrev pub cold_numbers : Parts → List Op → List ℕ
cold_numbers parts ops = numbers_from parts.hot 0 ops

-- how many there are
abbrev pub cold_count : Parts → List Op → ℕ
cold_count parts ops = length (cold_numbers parts ops)

-- the number of the operation on a host that has so many of them before it
abbrev pub cold_number : Parts → List Op → ℕ → ℕ
cold_number parts ops nth = slice_index_or (cold_numbers parts ops) nth 0

-- all operations are on hosts
abbrev pub is_cold : Parts → List Op → Bool
is_cold parts ops = cold_count parts ops == length ops
