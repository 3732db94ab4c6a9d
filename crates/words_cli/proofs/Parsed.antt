-- What an answer of `clap` says of a line of words.
use Rattle.std.proofs.Common.{codes, ◌≡◌, ◌≢◌, ◌⊎◌, ◌∙◌, inl, inr, sym, ap, ap₂, refl, subst, subst₂, true, false, true≢false, List, [], ◌∷◌, bytes_eq, map, map-id, Option, Some, None, is_some, unwrap_or, option_map, option_and_then, Result, Ok, Err, IsUtf8}
use Rattle.std.specs.List.{AllByRecursion}
use Rattle.clap.specs.Words.{App, Row, HasMatchesOf, first_of, kind_of, subcommand_name_of, subcommand_rows_of}
use Rattle.clap.specs.Kinds.{HasKind, IsAmong}
use Rattle.clap.specs.Faults.{fault_of, is_simple_and_free}
use Rattle.clap.specs.declared.error.Error.{Error}
use Rattle.clap.specs.declared.error.kind.ErrorKind.TheVariants as kind
use Rattle.clap.specs.declared.parser.matches.ArgMatches.{ArgMatches}
use Rattle.clap.specs.declared.parser.matches.ArgMatches.TheViews.{out-ArgMatches}
use Rattle.words_cli.specs.Words.{Text, Piece}
use Rattle.words_cli.specs.Forms.{line_of, value_at}
use Rattle.words_cli.specs.Loads.{Values, load_options, work_by}
use Rattle.words_cli.specs.Table.{built_forms, command_by, command_of}
use Rattle.words_cli.specs.Answers.{Answers}
use Rattle.words_cli.specs.ClapLine.{line_app, line_rows, rows_of, values_in, word_id}
use Rattle.words_cli.specs.declared.command.Command.{Command}
use Rattle.words_cli.specs.declared.command.WordFault.{WordFault}
use Rattle.words_cli.specs.declared.command.WordFault.TheVariants.{Usage, NoMemory}
use Rattle.words_cli.proofs.Lines.{free_is, line_word, passed_line, refused_line, value_of_option}

pub parsed_ok : (a : App) (words : List Text) (m : ArgMatches) → a ≡ line_app built_forms → AllByRecursion IsUtf8 words
    → (is_simple_and_free a ≡ true → fault_of a (map (λ w. w) words) ≡ []) → HasMatchesOf a (map (λ w. w) words) m
    → subcommand_rows_of m ≡ option_map line_rows (line_of built_forms words)
parsed_ok a words m is texts kinds has =
    passed_line words m texts
    (subst₂ (λ (b : App) (ws : List Text). fault_of b ws ≡ []) is (map-id words) (kinds (ap is_simple_and_free is ∙ free_is)))
    (subst₂ (λ (b : App) (ws : List Text). HasMatchesOf b ws m) is (map-id words) has)

pub parsed_err : (a : App) (words : List Text) (e : Error) → a ≡ line_app built_forms → AllByRecursion IsUtf8 words
    → (is_simple_and_free a ≡ true → HasKind (fault_of a (map (λ w. w) words)) e) → kind_of e ≢ kind.OutOfMemory
    → line_of built_forms words ≡ None
parsed_err a words e is texts kinds other =
    go (subst₂ (λ (b : App) (ws : List Text). HasKind (fault_of b ws) e) is (map-id words) (kinds (ap is_simple_and_free is ∙ free_is)))
  where
    go : (kind_of e ≡ kind.OutOfMemory) ⊎ IsAmong (kind_of e) (fault_of (line_app built_forms) words) → line_of built_forms words ≡ None
    go (inl h) = absurd (other h)
    go (inr h) = refused_line words (kind_of e) texts h

-- ---- what the matches name

map_pairs : {X : Type 0} (f : X → Text) (g : X → List Row) (o : Option X) → option_map f o ≡ option_map {T = Text × List Row} (λ s. s.0) (option_map (λ x. (f x, g x)) o)
map_pairs f g None = refl
map_pairs f g (Some x) = refl

name_rows : (m : ArgMatches) → subcommand_name_of m ≡ option_map {T = Text × List Row} (λ s. s.0) (subcommand_rows_of m)
name_rows m = map_pairs _ _ ((out-ArgMatches m).subcommand)

command_here : (o : Option (Text × List Row)) (name : Text) (rows : List Row) → Some name ≡ option_map {T = Text × List Row} (λ s. s.0) o → Some rows ≡ option_map {T = Text × List Row} (λ s. s.1) o
    → command_by name (values_in rows) ≡ option_and_then {T = Text × List Row} (λ s. command_by s.0 (values_in s.1)) o
command_here None name rows e f = absurd (true≢false (ap is_some e))
command_here (Some s) name rows e f =
    ap₂ (λ (n : Text) (r : List Row). command_by n (values_in r)) (ap (λ (o : Option Text). unwrap_or o name) e) (ap (λ (o : Option (List Row)). unwrap_or o rows) f)

pub command_named : (m : ArgMatches) (name : Text) (rows : List Row) → Some name ≡ subcommand_name_of m → Some rows ≡ option_map {T = Text × List Row} (λ s. s.1) (subcommand_rows_of m)
    → command_by name (values_in rows) ≡ option_and_then {T = Text × List Row} (λ s. command_by s.0 (values_in s.1)) (subcommand_rows_of m)
command_named m name rows e f = command_here (subcommand_rows_of m) name rows (e ∙ name_rows m) f

no_command_here : (o : Option (Text × List Row)) → None ≡ option_map {T = Text × List Row} (λ s. s.1) o → None ≡ option_and_then {T = Text × List Row} (λ s. command_by s.0 (values_in s.1)) o
no_command_here None e = refl
no_command_here (Some s) e = absurd (true≢false (sym (ap is_some e)))

pub no_command_named : (m : ArgMatches) → None ≡ option_map {T = Text × List Row} (λ s. s.1) (subcommand_rows_of m) → None ≡ option_and_then {T = Text × List Row} (λ s. command_by s.0 (values_in s.1)) (subcommand_rows_of m)
no_command_named m e = no_command_here (subcommand_rows_of m) e

-- ---- the command of the words

-- a command looks at the word that stands by itself and at these options alone
abbrev read_options : List Text
read_options = codes "draws" ∷ codes "threads" ∷ load_options

abbrev AgreeAt : (f g : Values) → Text → Type 0
AgreeAt f g name = f (Some name) ≡ g (Some name)

same_work : (word : Option Text) (f g : Values) → AllByRecursion (AgreeAt f g) load_options → work_by word f ≡ work_by word g
same_work None f g agree = refl
same_work (Some word) f g (number, (clients, (scripts, (customers, (records, (hot, (share, (ops, (mix, end))))))))) =
    rw (number, clients, scripts, customers, records, hot, share, ops, mix) refl

same_values : (name : Text) (f g : Values) → f None ≡ g None → AllByRecursion (AgreeAt f g) read_options → command_by name f ≡ command_by name g
same_values name f g word (draws, (threads, load)) = rw (word, draws, load.0, threads, same_work (g None) f g load) refl

options_apart : AllByRecursion (λ name. bytes_eq word_id name ≡ false) read_options
options_apart = (refl, (refl, (refl, (refl, (refl, (refl, (refl, (refl, (refl, (refl, (refl, tt)))))))))))

options_agree : (names : List Text) (ps : List Piece) → AllByRecursion (λ name. bytes_eq word_id name ≡ false) names
    → AllByRecursion (AgreeAt (values_in (rows_of ps)) (λ place. value_at place ps)) names
options_agree [] ps apart = tt
options_agree (name ∷ names) ps apart = (value_of_option name apart.0 ps, options_agree names ps apart.1)

line_values : (name : Text) (ps : List Piece) → first_of word_id (rows_of ps) ≡ value_at None ps → command_by name (values_in (rows_of ps)) ≡ command_by name (λ place. value_at place ps)
line_values name ps word = same_values name (values_in (rows_of ps)) (λ place. value_at place ps) word (options_agree read_options ps options_apart)

same_command : (words : List Text) (o : Option (Text × List Piece)) → line_of built_forms words ≡ o
    → option_and_then {T = Text × List Row} (λ s. command_by s.0 (values_in s.1)) (option_map line_rows o) ≡ option_and_then {T = Text × List Piece} (λ line. command_by line.0 (λ place. value_at place line.1)) o
same_command words None e = refl
same_command words (Some l) e = line_values l.0 l.1 (line_word words l e)

pub command_is : (words : List Text) (m : ArgMatches) → subcommand_rows_of m ≡ option_map line_rows (line_of built_forms words)
    → option_and_then {T = Text × List Row} (λ s. command_by s.0 (values_in s.1)) (subcommand_rows_of m) ≡ command_of words
command_is words m e = ap (option_and_then {T = Text × List Row} (λ s. command_by s.0 (values_in s.1))) e ∙ same_command words (line_of built_forms words) refl

pub answered : (o : Option Command) (words : List Text) (r : Result Command WordFault) → o ≡ command_of words → Answers o r → Answers (command_of words) r
answered o words r e h = subst (λ (x : Option Command). Answers x r) e h

pub fault_answers : {T : Type 0} (fault : WordFault) (words : List Text) → (◌≡◌ {A = Result T WordFault} (Err fault) (Err Usage) → line_of built_forms words ≡ None) → Answers (command_of words) (Err fault)
fault_answers Usage words h = ap (option_and_then {T = Text × List Piece} (λ line. command_by line.0 (λ place. value_at place line.1))) (h refl)
fault_answers NoMemory words h = tt

abbrev fault_in : {T : Type 0} → WordFault → Result T WordFault → WordFault
fault_in fault (Ok x) = fault
fault_in fault (Err other) = other

pub same_fault : {T : Type 0} (a b : WordFault) → ◌≡◌ {A = Result T WordFault} (Err a) (Err b) → a ≡ b
same_fault {T = T} a b e = ap (fault_in {T = T} a) e
