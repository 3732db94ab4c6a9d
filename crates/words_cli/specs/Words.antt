-- What the words of a command are: options with their values, and words that stand by themselves.
use Rattle.std.specs.Prelude.{ℕ, ◌==◌, Bool, List, [], ◌∷◌, map, Option, Some, None, option_map, if◌then◌else◌}
use Rattle.std.specs.List.{list_any, before_first, after_first}

abbrev pub Text : Type 0
Text = List ℕ

-- the bytes `-` and `=`
abbrev pub is_dash : ℕ → Bool
is_dash b = b == 45

abbrev pub is_equals : ℕ → Bool
is_equals b = b == 61

-- what a word looks like
pub data Look : Type 0 where
  -- `--`
  ends : Look
  -- `--name`, or `--name=value`, where the first `=` counts
  option : (name : Text) → (value : Option Text) → Look
  -- any other word that begins with `-` and is longer
  dashed : Look
  plain : Look

abbrev pub behind_two_dashes : Text → Look
behind_two_dashes [] = ends
behind_two_dashes (b ∷ bs) = option (before_first is_equals (b ∷ bs)) (if list_any is_equals (b ∷ bs) then Some (after_first is_equals (b ∷ bs)) else None)

abbrev pub behind_a_dash : Text → Look
behind_a_dash [] = plain
behind_a_dash (b ∷ bs) = if is_dash b then behind_two_dashes bs else dashed

abbrev pub look : Text → Look
look [] = plain
look (b ∷ bs) = if is_dash b then behind_a_dash bs else plain

-- what a value is given to: the option of this name, or None for a word that stands by itself
abbrev pub Place : Type 0
Place = Option Text

-- a value, and what it is given to
abbrev pub Piece : Type 0
Piece = Place × Text

abbrev pub by_itself : Text → Piece
by_itself word = (None, word)

-- one more piece in front, where the others are pieces
abbrev pub with_piece : Piece → Option (List Piece) → Option (List Piece)
with_piece piece = option_map (λ pieces. piece ∷ pieces)

-- the pieces where no option waits for its value: `later` gives those of the rest, where this option waits or none
abbrev pub pieces_by : Look → Text → List Text → (Option Text → Option (List Piece)) → Option (List Piece)
pieces_by ends word rest later = Some (map by_itself rest)
pieces_by (option name (Some value)) word rest later = with_piece (Some name, value) (later None)
pieces_by (option name None) word rest later = later (Some name)
pieces_by dashed word rest later = None
pieces_by plain word rest later = with_piece (by_itself word) (later None)

-- the pieces where this option waits for its value
abbrev pub value_by : Look → Text → Text → Option (List Piece) → Option (List Piece)
value_by plain name word later = with_piece (Some name, word) later
value_by _ name word later = None

-- the pieces that the words are, in order, where this option waits for its value, or none does
unfoldable pub pieces : List Text → Option Text → Option (List Piece)
pieces [] None = Some []
pieces [] (Some name) = None
pieces (word ∷ rest) None = pieces_by (look word) word rest (pieces rest)
pieces (word ∷ rest) (Some name) = value_by (look word) name word (pieces rest None)
