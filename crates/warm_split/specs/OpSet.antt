-- Sets of operation numbers, kept as the bits of a number.
use Rattle.std.specs.Prelude.{ℕ, zero, suc, ◌+◌, ◌==◌, Bool, if◌then◌else◌}
use Rattle.std.specs.Int.{bit_at}
use Rattle.warm_split.specs.declared.op_set.OpSet.{OpSet}

-- the number is in the set
abbrev pub contains : OpSet → ℕ → Bool
contains set k = bit_at set.0 k == 1

-- how many of the first n numbers are in the set
abbrev pub members : OpSet → ℕ → ℕ
members set zero = 0
members set (suc n) = members set n + (if contains set n then 1 else 0)
