-- Sets of register arrays, kept as the bits of a number.
use Rattle.std.specs.Prelude.{ℕ, ◌==◌, Bool}
use Rattle.std.specs.Int.{bit_at}
use Rattle.declust.specs.declared.array_set.ArraySet.{ArraySet}

-- the array is in the set
abbrev pub contains : ArraySet → ℕ → Bool
contains set k = bit_at set.0 k == 1
