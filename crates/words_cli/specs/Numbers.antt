-- Numbers among the words.
use Rattle.std.specs.Prelude.{ℕ, ◌&&◌, Bool, length, nat_lt, nat_le, Option, Some, None, if◌then◌else◌}
use Rattle.std.specs.List.{list_all}
use Rattle.std.specs.Char.{is_ascii_digit}
use Rattle.std.specs.Str.Parse.{digits_value}
use Rattle.words_cli.specs.Words.{Text}

-- 1 to 20 digits; there may be zeros in front
abbrev pub is_number : Text → Bool
is_number text = nat_lt 0 (length text) && (nat_le (length text) 20 && list_all is_ascii_digit text)

-- the greatest number that seeds a generator
abbrev pub most_number : ℕ
most_number = 18446744073709551615

-- the number that the text writes, where it is one from `least` to `most`
abbrev pub number_in : ℕ → ℕ → Text → Option ℕ
number_in least most text = if is_number text && (nat_le least (digits_value 10 text) && nat_le (digits_value 10 text) most) then Some (digits_value 10 text) else None
