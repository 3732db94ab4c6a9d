-- Which pieces a command takes, and what a line of words gives to which command.
use Rattle.std.specs.Prelude.{◌&&◌, Bool, true, false, not, List, [], ◌∷◌, ◌++◌, find, Option, Some, None, option_map, option_and_then, if◌then◌else◌}
use Rattle.std.specs.List.{list_any}
use Rattle.std.specs.Str.{bytes_eq}
use Rattle.words_cli.specs.Words.{Text, Place, Piece, pieces}

-- a command: its name, the names of its options, and whether one word may stand by itself
pub record Form : Type 0 where
  pub name : Text
  pub options : List Text
  pub takes_word : Bool

abbrev pub is_named : Text → Form → Bool
is_named name form = bytes_eq form.name name

-- the command has the place
abbrev pub has_place : Form → Place → Bool
has_place form None = form.takes_word
has_place form (Some name) = list_any (λ option. bytes_eq option name) form.options

abbrev pub same_place : Place → Place → Bool
same_place None None = true
same_place None (Some name) = false
same_place (Some name) None = false
same_place (Some a) (Some b) = bytes_eq a b

-- a piece was given to the place
abbrev pub is_taken : Place → List Piece → Bool
is_taken place given = list_any (λ piece. same_place piece.0 place) given

-- behind what was given already, each piece has a place in the command that nothing was given to before
abbrev pub fits_behind : Form → List Piece → List Piece → Bool
fits_behind form given [] = true
fits_behind form given (piece ∷ rest) = has_place form piece.0 && (not (is_taken piece.0 given) && fits_behind form (given ++ piece ∷ []) rest)

-- the pieces, where they fit the command
abbrev pub fitting : Form → List Piece → Option (List Piece)
fitting form given = if fits_behind form [] given then Some given else None

-- what the words behind a command's name give to it
abbrev pub given_to : Form → List Text → Option (List Piece)
given_to form words = option_and_then (fitting form) (pieces words None)

-- the name of the command that the words call, and what they give to it
abbrev pub line_of : List Form → List Text → Option (Text × List Piece)
line_of forms [] = None
line_of forms (name ∷ words) = option_and_then (λ form. option_map (λ given. (form.name, given)) (given_to form words)) (find (is_named name) forms)

-- the value that was given to the place
abbrev pub value_at : Place → List Piece → Option Text
value_at place given = option_map (λ piece. piece.1) (find (λ piece. same_place piece.0 place) given)
