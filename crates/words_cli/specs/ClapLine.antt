-- What `clap` is told of the commands.
use Rattle.std.specs.Prelude.{◌≡◌, Bool, true, false, List, [], ◌∷◌, ◌++◌, map, codes, Option, Some, None, if◌then◌else◌}
use Rattle.clap.specs.Words.{App, Row, Rule, Shape, first_of, new_rule, reading_of}
use Rattle.clap.specs.Simple.{new_shape}
use Rattle.clap.specs.declared.builder.action.ArgAction.TheVariants.{Set}
use Rattle.clap.specs.declared.builder.value_parser.ValueParser.TheVariants as value_parser
use Rattle.clap.specs.declared.parser.matches.ValueSource.TheVariants.{CommandLine}
use Rattle.clap.specs.declared.builder.command.Command.{Command}
use Rattle.clap.specs.declared.builder.command.Command.TheViews.{out-Command}
use Rattle.words_cli.specs.Words.{Text, Place, Piece}
use Rattle.words_cli.specs.Forms.{Form}

-- the id of the word that stands by itself
abbrev pub word_id : Text
word_id = codes "K"

abbrev pub option_rule : Text → Rule
option_rule name = record (new_rule name) { long = Some name; action = Some Set }

abbrev pub word_rule : Rule
word_rule = record (new_rule word_id) { action = Some Set }

abbrev pub word_rules : Bool → List Rule
word_rules takes_word = if takes_word then word_rule ∷ [] else []

abbrev pub form_shape : Form → Shape
form_shape form = record (new_shape form.name) { rules = map option_rule form.options ++ word_rules form.takes_word }

abbrev pub form_app : Form → App
form_app form = record { top = form_shape form; subs = [] }

-- one command, whose subcommands are these
abbrev pub line_shape : Bool → Shape
line_shape is_leaf = record (new_shape (codes "p4db")) {
  is_leaf = is_leaf;
  no_binary_name = true;
  disable_help_flag = true;
  disable_help_subcommand = true;
  disable_version_flag = true;
  subcommand_required = true;
}

abbrev pub bare_app : App
bare_app = record { top = line_shape true; subs = [] }

abbrev pub line_app : List Form → App
line_app forms = record { top = line_shape false; subs = map form_shape forms }

-- ---- what it gives back

-- the id of what takes values for the place
abbrev pub id_of : Place → Text
id_of None = word_id
id_of (Some name) = name

abbrev pub row_of : Piece → Row
row_of piece = record { id = id_of piece.0; values = piece.1 ∷ []; count = None; source = Some CommandLine; reading = reading_of value_parser.String }

abbrev pub rows_of : List Piece → List Row
rows_of = map row_of

-- a line, as the name and the rows of a subcommand
abbrev pub line_rows : Text × List Piece → Text × List Row
line_rows line = (line.0, rows_of line.1)

-- the values that rows have for places
abbrev pub values_in : List Row → Place → Option Text
values_in rows place = first_of (id_of place) rows

-- no argument of the command is global
abbrev pub IsLocal : Command → Type 0
IsLocal command = (out-Command command).has_globals ≡ false
