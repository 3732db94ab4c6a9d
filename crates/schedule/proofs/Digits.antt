-- Numbers that grow digit by digit.
use Rattle.std.proofs.Common.{◌≡◌, ℕ, ◌+◌, ◌*◌, ◌-◌, ◌≤◌, ◌<◌, true, false, cond, List, [], ◌∷◌, length, get_or, drop, Some, None, nat_lt, refl, ap, ◌∙◌, arith, add-one}
use Rattle.std.proofs.Math.ListN.{drop_of_length-le}
use Rattle.std.proofs.Math.Seq.{drop-cons}
use Rattle.std.proofs.lemmas.Bool.Decides.{nat_tests}
use Rattle.schedule.specs.Words.{is_digit, read_digits, below}

not_below : (n limit : ℕ) → limit ≤ n → nat_lt n limit ≡ false
not_below n limit h = grind (arith, nat_tests)

-- a number that isn't below the limit stays so
too_large : (limit n : ℕ) (bs : List ℕ) → limit ≤ n → below limit (read_digits n bs) ≡ None
too_large limit n [] h = rw (not_below n limit h) refl
too_large limit n (b ∷ bs) h =
    elim (is_digit b) as (λ d. below limit (cond d (read_digits (10 * n + (b - 48)) bs) None) ≡ None) [ true ↦ too_large limit (10 * n + (b - 48)) bs (omega arith) | false ↦ refl ]

-- one digit on
read_digit : (n i : ℕ) (bs : List ℕ) → i < length bs → is_digit (get_or bs i 0) ≡ true → read_digits n (drop i bs) ≡ read_digits (10 * n + (get_or bs i 0 - 48)) (drop (i + 1) bs)
read_digit n i bs lt e = rw (add-one, drop-cons bs i 0) (rw e refl)

-- a digit that makes it too large
pub read_too_large : (limit n i : ℕ) (bs : List ℕ) → i < length bs → is_digit (get_or bs i 0) ≡ true → limit ≤ 10 * n + (get_or bs i 0 - 48) → below limit (read_digits n (drop i bs)) ≡ None
read_too_large limit n i bs lt e h = ap (below limit) (read_digit n i bs lt e) ∙ too_large limit _ (drop (i + 1) bs) h

-- at the end of the digits the number is the whole
pub read_all : (limit n i : ℕ) (bs : List ℕ) → length bs ≤ i → n < limit → below limit (read_digits n (drop i bs)) ≡ Some n
read_all limit n i bs past less = let small : nat_lt n limit ≡ true = grind (arith, nat_tests) in rw (drop_of_length-le bs past) (rw small refl)
