-- A wrapped number is in range and congruent.
use Rattle.std.proofs.Common.{◌≡◌, ℕ, zero, suc, ℤ, pos, negsuc, ◌-◌, ◌*◌, ◌/◌, ◌%◌, ◌^◌, ◌<◌, ◌≤◌, ◌+◌, ◌+ℤ◌, ◌*ℤ◌, ◌⊎◌, ⊎_elim, w64, arith, sym, ap, ◌∙◌, to_z}
use Rattle.std.specs.Prelude.{FitsSigned}
use Rattle.std.specs.Int.{int_wrap, cast_signed}
use Rattle.std.proofs.Math.Facts.{to_z-neg}
use Rattle.std.proofs.lemmas.Int.{ints, SFits-int_wrap, to_z_pos}
use Rattle.std.proofs.lemmas.Bool.{cases_lt}
use Rattle.std.proofs.lemmas.Nat.{div-add-mod'}
use Rattle.std.proofs.Math.Nat.{mod-lt}
use Rattle.txn_model.specs.Number.{wrap, IsInRange, IsCongruent}

range : (z : ℤ) → FitsSigned w64 z → IsInRange z
range (pos n) fits = (omega (arith, ints), omega (arith, ints, fits.sfits))
range (negsuc n) fits = (omega (arith, ints, fits.sfits), omega (arith, ints))

pub wrap_in_range : (z : ℤ) → IsInRange (wrap z)
wrap_in_range z = range (wrap z) (SFits-int_wrap w64 z)

-- the signed reading of r lies below it by 2^64 once or not at all
record Read (r : ℕ) : Type 0 where
  times : ℕ
  once : times ≤ 1
  sum : cast_signed w64 r +ℤ pos (times * 18446744073709551616) ≡ pos r

read : (r : ℕ) → r < 18446744073709551616 → (r < 9223372036854775808) ⊎ (9223372036854775808 ≤ r) → Read r
read r fits half = ⊎_elim
    (λ low. let e = to_z_pos w64 r low in record { times = 0; once = omega arith; sum = omega (arith, ints, e) })
    (λ high.
    let k = 18446744073709551615 - r in
    let is : 2 ^ 64 - suc k ≡ r = omega arith in
    let e = ap (to_z w64) (sym is) ∙ to_z-neg w64 k (omega arith) in
    record { times = 1; once = omega arith; sum = omega (arith, ints, e) })
    half

-- 2^64 as often as j says, less one more than q times 2^64
lowered : (q j : ℕ) → j ≤ 1 → (k : ℤ) × (k *ℤ pos 18446744073709551616 +ℤ pos (suc q * 18446744073709551616) ≡ pos (j * 18446744073709551616))
lowered q zero once = (negsuc q, omega (arith, ints))
lowered zero (suc zero) once = (pos 0, omega (arith, ints))
lowered (suc q) (suc zero) once = (negsuc q, omega (arith, ints))
lowered q (suc (suc j)) once = absurd (omega arith)

pub wrap_congruent : (z : ℤ) → IsCongruent z (wrap z)
unfolding int_wrap
wrap_congruent (pos a) =
    let r = a % 18446744073709551616 in
    let small = mod-lt a {m = 18446744073709551616} (omega arith) in
    let s = read r small (cases_lt r 9223372036854775808) in
    let split = div-add-mod' a 18446744073709551616 in
    (pos (s.times + a / 18446744073709551616), omega (arith, ints, s.sum, split))
wrap_congruent (negsuc a) =
    let r = 18446744073709551615 - a % 18446744073709551616 in
    let s = read r (omega arith) (cases_lt r 9223372036854775808) in
    let split = div-add-mod' a 18446744073709551616 in
    let l = lowered (a / 18446744073709551616) s.times s.once in
    (l.0, omega (arith, ints, s.sum, split, l.1))
