-- The decimal of a number is read as that number, and nothing else is.
use Rattle.std.proofs.Common.{◌≡◌, ℕ, zero, suc, ◌+◌, ◌*◌, ◌-◌, ◌/◌, ◌%◌, ◌^◌, ◌≤◌, ◌<◌, true, false, cond, eqb, List, [], ◌∷◌, ◌++◌, map, length, get_or, take, Some, None, inl, inr, refl, sym, ap, subst, ◌∙◌, arith, add-one}
use Rattle.std.specs.Fmt.{decimal}
use Rattle.std.specs.Int.Digits.{number_from_digits_after, number_from_digits, digits_of, AllBelowBase}
use Rattle.std.proofs.Math.Seq.{take-suc, take-length}
use Rattle.std.proofs.lemmas.Bool.{cases_eq}
use Rattle.std.proofs.lemmas.Bool.Decides.{nat_tests}
use Rattle.std.proofs.lemmas.Fmt.{decimal-digits_of, decimal_digit}
use Rattle.std.proofs.lemmas.Int.Digits.{number_digits_of, all_below_base_digits_of, first_digits_of, digits_of_step, number_more}
use Rattle.schedule.specs.Words.{is_digit, read_digits, number_of}

abbrev text : List ℕ → List ℕ
text ds = map (λ d. 48 + d) ds

digit_is : (d : ℕ) → d < 10 → is_digit (48 + d) ≡ true
digit_is d h = grind (arith, nat_tests)

-- digits below ten are read as the number that they make
read_text : (n : ℕ) (ds : List ℕ) → AllBelowBase 10 ds → read_digits n (text ds) ≡ Some (number_from_digits_after 10 n ds)
read_text n [] h = refl
read_text n (d ∷ ds) h = let e : 10 * n + (48 + d - 48) ≡ n * 10 + d = omega arith in rw (digit_is d h.0, e) (read_text (n * 10 + d) ds h.1)

-- with no zero in front
read_plain : (ds : List ℕ) → AllBelowBase 10 ds → 0 < get_or ds 0 0 → number_of (text ds) ≡ Some (number_from_digits 10 ds)
read_plain [] h first = absurd (omega arith)
read_plain (d ∷ []) h first = read_text 0 (d ∷ []) h
read_plain (d ∷ e ∷ ds) h first = let apart : eqb (48 + d) 48 ≡ false = grind (arith, nat_tests) in rw apart (read_text 0 (d ∷ e ∷ ds) h)

pub number_of-decimal : (n : ℕ) → n < 2 ^ 64 → number_of (decimal n) ≡ Some n
number_of-decimal zero h = rw (decimal_digit 0 (omega arith)) refl
number_of-decimal (suc n) h =
    rw (decimal-digits_of (suc n) (omega arith) h)
    (read_plain (digits_of 10 (suc n)) (all_below_base_digits_of 10 (suc n) (omega arith)) (first_digits_of 10 (suc n) (omega arith) (omega arith)) ∙ ap Some (number_digits_of 10 (suc n) (omega arith)))

-- what is read: a text of digits below ten, and their number
record IsRead (n m : ℕ) (bs : List ℕ) : Type 0 where
  digits : List ℕ
  small : AllBelowBase 10 digits
  written : bs ≡ text digits
  read : m ≡ number_from_digits_after 10 n digits

a_digit : (b : ℕ) → is_digit b ≡ true → (48 ≤ b) × (b ≤ 57)
a_digit b e = (grind (arith, nat_tests), grind (arith, nat_tests))

parted : (n m b : ℕ) (bs : List ℕ) → is_digit b ≡ true → IsRead (10 * n + (b - 48)) m bs → IsRead n m (b ∷ bs)
parted n m b bs e r =
    let range = a_digit b e in
    let same : b ≡ 48 + (b - 48) = omega (arith, range) in
    let sum : 10 * n + (b - 48) ≡ n * 10 + (b - 48) = omega arith in
    record {
      digits = (b - 48) ∷ r.digits;
      small = (omega (arith, range), r.small);
      written = rw (← r.written) (ap (λ c. c ∷ bs) same);
      read = r.read ∙ ap (λ k. number_from_digits_after 10 k r.digits) sum;
    }

read_back : (n m : ℕ) (bs : List ℕ) → read_digits n bs ≡ Some m → IsRead n m bs
read_back n m [] e = record { digits = []; small = tt; written = refl; read = cc }
read_back n m (b ∷ bs) e =
    elim (is_digit b) as (λ d. is_digit b ≡ d → cond d (read_digits (10 * n + (b - 48)) bs) None ≡ Some m → IsRead n m (b ∷ bs)) [
      | true ↦ λ is h. parted n m b bs is (read_back (10 * n + (b - 48)) m bs h)
      | false ↦ λ is h. cc h
    ] refl e

-- one more digit behind those of a number
digits_more : (n d : ℕ) → d < 10 → 0 < n * 10 + d → digits_of 10 (n * 10 + d) ≡ digits_of 10 n ++ d ∷ []
digits_more n d small more =
    let rest : (n * 10 + d) / 10 ≡ n = omega arith in
    let last : (n * 10 + d) % 10 ≡ d = omega arith in
    rw (digits_of_step 10 (n * 10 + d) (omega arith) more, rest, last) refl

below_base_at : (ds : List ℕ) (i : ℕ) → AllBelowBase 10 ds → get_or ds i 0 < 10
below_base_at [] i h = omega arith
below_base_at (d ∷ ds) zero h = h.0
below_base_at (d ∷ ds) (suc i) h = below_base_at ds i h.1

-- digits with no zero in front are those of their number, from the first one on
record IsExact (ds : List ℕ) (i : ℕ) : Type 0 where
  same : digits_of 10 (number_from_digits 10 (take i ds)) ≡ take i ds
  above : 0 < i → 0 < number_from_digits 10 (take i ds)

exact_more : (ds : List ℕ) (i : ℕ) → AllBelowBase 10 ds → 0 < get_or ds 0 0 → i < length ds → IsExact ds i → IsExact ds (i + 1)
exact_more ds i small first lt before =
    let d = get_or ds i 0 in
    let n = number_from_digits 10 (take i ds) in
    let more = number_more 10 ds i lt in
    let above : 0 < n * 10 + d = elim (cases_eq i 0) [ inl e ↦ (let h = subst (λ j. 0 < get_or ds j 0) (sym e) first in omega arith) | inr e ↦ (let h = before.above (omega arith) in omega arith) ] in
    record {
      same = ap (digits_of 10) more ∙ digits_more n d (below_base_at ds i small) above ∙ ap (λ xs. xs ++ d ∷ []) before.same ∙ sym (rw add-one (take-suc ds i 0 lt));
      above = λ _. rw more above;
    }

exact_at : (ds : List ℕ) (i : ℕ) → AllBelowBase 10 ds → 0 < get_or ds 0 0 → i ≤ length ds → IsExact ds i
exact_at ds zero small first le = record { same = refl; above = λ h. absurd (omega arith) }
exact_at ds (suc i) small first le = rw (← add-one i) (exact_more ds i small first (omega arith) (exact_at ds i small first (omega arith)))

digits_of-number : (ds : List ℕ) → AllBelowBase 10 ds → 0 < get_or ds 0 0 → (digits_of 10 (number_from_digits 10 ds) ≡ ds) × (0 < number_from_digits 10 ds)
digits_of-number [] small first = absurd (omega arith)
digits_of-number (d ∷ ds) small first =
    let all = exact_at (d ∷ ds) (length (d ∷ ds)) small first (omega arith) in
    let whole = take-length (d ∷ ds) in
    (rw whole at all.same, rw whole at (all.above (omega arith)))

one_digit : (b n : ℕ) → read_digits 0 (b ∷ []) ≡ Some n → b ∷ [] ≡ decimal n
one_digit b n e =
    elim (is_digit b) as (λ d. is_digit b ≡ d → cond d (Some (10 * 0 + (b - 48))) None ≡ Some n → b ∷ [] ≡ decimal n) [
      | true ↦ λ is h.
          let range = a_digit b is in
          let value : 10 * 0 + (b - 48) ≡ n = cc h in
          let same : b ≡ 48 + n = omega (arith, range, value) in
          ap (λ k. k ∷ []) same ∙ sym (decimal_digit n (omega (arith, range, value)))
      | false ↦ λ is h. cc h
    ] refl e

many_digits : (b n : ℕ) (bs : List ℕ) → eqb b 48 ≡ false → n < 2 ^ 64 → (ds : List ℕ) → AllBelowBase 10 ds → b ∷ bs ≡ text ds → n ≡ number_from_digits 10 ds → b ∷ bs ≡ decimal n
many_digits b n bs apart fits [] small written read = cc written
many_digits b n bs apart fits (d ∷ ds) small written read =
    let head : b ≡ 48 + d = cc written in
    let above : 0 < d = grind (arith, nat_tests) in
    let exact = digits_of-number (d ∷ ds) small above in
    written ∙ sym (decimal-digits_of n (rw read exact.1) fits ∙ ap (λ k. text (digits_of 10 k)) read ∙ ap text exact.0)

pub decimal-number_of : (bs : List ℕ) (n : ℕ) → number_of bs ≡ Some n → n < 2 ^ 64 → bs ≡ decimal n
decimal-number_of [] n e fits = cc e
decimal-number_of (b ∷ []) n e fits = one_digit b n e
decimal-number_of (b ∷ c ∷ bs) n e fits =
    elim (eqb b 48) as (λ z. eqb b 48 ≡ z → cond z None (read_digits 0 (b ∷ c ∷ bs)) ≡ Some n → b ∷ c ∷ bs ≡ decimal n) [
      | true ↦ λ zero h. cc h
      | false ↦ λ apart h. let r = read_back 0 n (b ∷ c ∷ bs) h in many_digits b n (c ∷ bs) apart fits r.digits r.small r.written r.read
    ] refl e
