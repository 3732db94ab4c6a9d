-- Numbers of a tuple: from -2^63 to 2^63 - 1, with arithmetic modulo 2^64.
use Rattle.std.specs.Prelude.{◌≡◌, ℤ, pos, ◌+ℤ◌, ◌*ℤ◌, neg_ℤ, ◌≤ℤ◌}
use Rattle.std.specs.Int.{w64, int_wrap}

-- the number of that range that is congruent to z modulo 2^64
abbrev pub wrap : ℤ → ℤ
wrap z = int_wrap w64 z

abbrev pub IsInRange : ℤ → Type 0
IsInRange z = (neg_ℤ (pos 9223372036854775808) ≤ℤ z) × (z ≤ℤ pos 9223372036854775807)

-- they differ by a multiple of 2^64
abbrev pub IsCongruent : ℤ → ℤ → Type 0
IsCongruent a b = (k : ℤ) × (a ≡ b +ℤ k *ℤ pos 18446744073709551616)
