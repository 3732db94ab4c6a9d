-- Who holds the halves of the pipeline, the left half first.
use Rattle.std.specs.Prelude.{ℕ, ◌+◌, ◌==◌, ◌&&◌, Bool, nat_eq, List, [], ◌∷◌, map, Option, Some, None, is_some, if◌then◌else◌}
use Rattle.std.specs.Option.{option_eq}
use Rattle.std.specs.Int.{bit_at}

-- the holder of each half, by the half's number
abbrev pub Holders : Type 0
Holders = List (Option ℕ)

-- the set has this half: bit 0 stands for the left one, bit 1 for the right one
abbrev pub has_half : ℕ → ℕ → Bool
has_half set half = bit_at set half == 1

abbrev pub is_held_by : ℕ → Option ℕ → Bool
is_held_by client holder = option_eq nat_eq holder (Some client)

-- the holder of the first half of the set that is held; the list begins with this half
abbrev pub first_held_from : ℕ → ℕ → Holders → Option ℕ
first_held_from set half [] = None
first_held_from set half (holder ∷ rest) = if has_half set half && is_some holder then holder else first_held_from set (half + 1) rest

-- the holder of the first half of the set that is held; None where all of them are free
abbrev pub first_held : ℕ → Holders → Option ℕ
first_held set holders = first_held_from set 0 holders

-- the halves of the set are the client's, the others as before; the list begins with this half
abbrev pub given_from : ℕ → ℕ → ℕ → Holders → Holders
given_from set client half [] = []
given_from set client half (holder ∷ rest) = (if has_half set half then Some client else holder) ∷ given_from set client (half + 1) rest

-- the halves of the set are the client's, the others as before
abbrev pub given : ℕ → ℕ → Holders → Holders
given set client holders = given_from set client 0 holders

-- the client's halves are free, the others as before
abbrev pub without : ℕ → Holders → Holders
without client holders = map (λ holder. if is_held_by client holder then None else holder) holders
