-- Bits of numbers as members of sets.
use Rattle.std.proofs.Common.{◌≡◌, ◌≢◌, ℕ, ◌<◌, ◌%◌, ◌^◌, ◌*◌, false, ◌||◌, eqb, max, inl, inr, eq-eqb, arith, sym, ap, ◌∙◌, w32}
use Rattle.std.specs.Int.{bit_at}
use Rattle.std.specs.Int.RustNames.{bit_or}
use Rattle.std.proofs.lemmas.Bool.{cases_eq}
use Rattle.std.proofs.lemmas.Bool.Decides.{nat_tests}
use Rattle.std.proofs.lemmas.Nat.Bits.{bit_at-lt, bit_at_set_same, bit_at_set_other}

-- the greater of two bits is set where one of them is
greater : (a b : ℕ) → a < 2 → b < 2 → eqb (max a b) 1 ≡ (eqb a 1 || eqb b 1)
greater a b p q = grind (arith, nat_tests)

pub max_of_bits : (a b k : ℕ) → eqb (max (bit_at a k) (bit_at b k)) 1 ≡ (eqb (bit_at a k) 1 || eqb (bit_at b k) 1)
max_of_bits a b k = greater _ _ (bit_at-lt a k) (bit_at-lt b k)

eqb_other : (i k : ℕ) → i ≢ k → eqb i k ≡ false
eqb_other i k apart = grind (arith, nat_tests)

-- setting bit k sets that bit alone
pub set_bit : (n k i : ℕ) → k < 32 → eqb (bit_at (bit_or n (1 * 2 ^ k % 4294967296)) i) 1 ≡ (eqb i k || eqb (bit_at n i) 1)
set_bit n k i lt =
    let after : ℕ = bit_or n (1 * 2 ^ k % 4294967296) in
    elim (cases_eq i k) as (λ _. eqb (bit_at after i) 1 ≡ (eqb i k || eqb (bit_at n i) 1)) [
      | inl same ↦ ap (λ j. eqb (bit_at after j) 1) same ∙ ap (λ b. eqb b 1) (bit_at_set_same w32 n k lt) ∙ sym (ap (λ b. b || eqb (bit_at n i) 1) (eq-eqb i k same))
      | inr apart ↦ ap (λ b. eqb b 1) (bit_at_set_other w32 n k lt i apart) ∙ sym (ap (λ b. b || eqb (bit_at n i) 1) (eqb_other i k apart))
    ]
