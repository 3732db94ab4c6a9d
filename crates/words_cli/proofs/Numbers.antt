-- The number that `parse` reads of 1 to 20 digits.
use Rattle.std.proofs.Common.{◌≡◌, sym, ap, refl, ℕ, ◌<◌, ◌≤◌, ◌^◌, Bool, true, false, cond, ◌&&◌, List, length, nat_lt, nat_le, Some, None, Result, Err, OkIff, arith}
use Rattle.std.specs.List.{list_all}
use Rattle.std.specs.Char.{is_ascii_digit}
use Rattle.std.specs.Str.Parse.{ParsesUnsigned, digits_value}
use Rattle.std.proofs.lemmas.Bool.Decides.{nat_tests}
use Rattle.std.proofs.lemmas.Str.Parse.{numerals_by_value, parse_digits, tells_all_ascii_digits}
use Rattle.words_cli.specs.Numbers.{is_number, number_in}
use Rattle.words_cli.proofs.Rules.{and_true}
use Rattle.words_cli.proofs.Walks.{and_false}

reads : {E : Type 0} (bs : List ℕ) (r : Result ℕ E) → ParsesUnsigned 64 10 bs r → is_number bs ≡ true → OkIff r ((0 < length bs) × (digits_value 10 bs < 2 ^ 64)) (digits_value 10 bs)
reads bs r h e =
    let first = and_true (nat_lt 0 (length bs)) (nat_le (length bs) 20 && list_all is_ascii_digit bs) e in
    let second = and_true (nat_le (length bs) 20) (list_all is_ascii_digit bs) first.1 in
    parse_digits (numerals_by_value _ tells_all_ascii_digits) 64 bs r h second.1

pub read_too_large : {E : Type 0} (least most : ℕ) (bs : List ℕ) (x : E) → ParsesUnsigned 64 10 bs (Err x) → is_number bs ≡ true → most < 2 ^ 64 → None ≡ number_in least most bs
read_too_large {E = E} least most bs x h e fits =
    let first = and_true (nat_lt 0 (length bs)) (nat_le (length bs) 20 && list_all is_ascii_digit bs) e in
    let some : 0 < length bs = grind (arith, nat_tests, first.0) in
    go (nat_le (digits_value 10 bs) most) refl some (reads {E = E} bs (Err x) h e)
  where
    go : (t : Bool) → nat_le (digits_value 10 bs) most ≡ t → 0 < length bs → ((0 < length bs) × (digits_value 10 bs < 2 ^ 64) → ⊥) → None ≡ number_in least most bs
    go true l some no_value = let small : digits_value 10 bs ≤ most = grind (arith, nat_tests, l) in absurd (no_value (some, omega arith))
    go false l some no_value = rw (e, l) (sym (ap (λ (t : Bool). cond t (Some (digits_value 10 bs)) None) (and_false (nat_le least (digits_value 10 bs)))))
