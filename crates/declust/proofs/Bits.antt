-- Bits of numbers as members of sets.
use Rattle.std.proofs.Common.{◌≡◌, ◌≢◌, ℕ, ◌<◌, ◌%◌, ◌^◌, ◌*◌, false, ◌||◌, eqb, inl, inr, eq-eqb, arith, sym, ap, ◌∙◌, w64}
use Rattle.std.specs.Int.{bit_at}
use Rattle.std.specs.Int.RustNames.{bit_or}
use Rattle.std.proofs.lemmas.Bool.{cases_eq}
use Rattle.std.proofs.lemmas.Bool.Decides.{nat_tests}
use Rattle.std.proofs.lemmas.Nat.Bits.{bit_at_above, bit_at_set_same, bit_at_set_other}
use Rattle.declust.specs.ArraySet.{contains}

eqb_other : (i k : ℕ) → i ≢ k → eqb i k ≡ false
eqb_other i k apart = grind (arith, nat_tests)

-- setting bit k sets that bit alone
pub set_bit : (n k i : ℕ) → k < 64 → eqb (bit_at (bit_or n (1 * 2 ^ k % 18446744073709551616)) i) 1 ≡ (eqb i k || eqb (bit_at n i) 1)
set_bit n k i lt =
    let after : ℕ = bit_or n (1 * 2 ^ k % 18446744073709551616) in
    elim (cases_eq i k) as (λ _. eqb (bit_at after i) 1 ≡ (eqb i k || eqb (bit_at n i) 1)) [
      | inl same ↦ ap (λ j. eqb (bit_at after j) 1) same ∙ ap (λ b. eqb b 1) (bit_at_set_same w64 n k lt) ∙ sym (ap (λ b. b || eqb (bit_at n i) 1) (eq-eqb i k same))
      | inr apart ↦ ap (λ b. eqb b 1) (bit_at_set_other w64 n k lt i apart) ∙ sym (ap (λ b. b || eqb (bit_at n i) 1) (eqb_other i k apart))
    ]

-- nothing is in the set without arrays
pub in_none : (k : ℕ) → contains (record { 0 = 0 }) k ≡ false
in_none k = let small : 0 < 2 ^ 0 = omega arith in ap (λ b. eqb b 1) (bit_at_above 0 0 k small (omega arith))
