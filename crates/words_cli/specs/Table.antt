-- The commands, and what each makes of what it was given.
use Rattle.std.specs.Prelude.{ℕ, true, false, List, [], ◌∷◌, codes, Option, Some, None, option_map, option_and_then, if◌then◌else◌}
use Rattle.std.specs.Str.{bytes_eq}
use Rattle.words_cli.specs.Words.{Text, Place}
use Rattle.words_cli.specs.Forms.{Form, line_of, value_at}
use Rattle.words_cli.specs.Numbers.{most_number, number_in}
use Rattle.words_cli.specs.Loads.{with_load, work_of}
use Rattle.words_cli.specs.declared.command.Command.{Command}
use Rattle.words_cli.specs.declared.command.Command.TheVariants.{Run, Race, Recover, Hot, Layout, Gen, Drive}
use Rattle.words_cli.specs.declared.command.Draws.{Draws}

-- a command that takes nothing, one that takes one word, and one that takes options
abbrev pub bare : Text → Form
bare name = record { name = name; options = []; takes_word = false }

abbrev pub of_a_word : Text → Form
of_a_word name = record { name = name; options = []; takes_word = true }

abbrev pub with_options : Text → List Text → Form
with_options name options = record { name = name; options = options; takes_word = false }

-- the commands
abbrev pub built_forms : List Form
built_forms =
    with_options (codes "run") (codes "draws" ∷ codes "number" ∷ []) ∷
    with_options (codes "race") (codes "threads" ∷ []) ∷
    bare (codes "recover") ∷
    of_a_word (codes "hot") ∷
    of_a_word (codes "layout") ∷
    with_load (codes "gen") ∷
    with_load (codes "drive") ∷ []

-- the greatest number of drawn actors, the greatest number of threads, and the greatest number of tuples that `hot` and `layout` take
abbrev pub most_draws : ℕ
most_draws = 1000000

abbrev pub most_threads : ℕ
most_threads = 8

abbrev pub most_tuples : ℕ
most_tuples = 65536

abbrev pub draws_by : Text → Text → Option Draws
draws_by count number =
    option_and_then (λ n. option_map (λ m. record { count = n; number = m }) (number_in 0 most_number number)) (number_in 0 most_draws count)

-- `run` takes both of its options, or neither
abbrev pub run_by : Option Text → Option Text → Option Command
run_by None None = Some (Run None)
run_by (Some count) (Some number) = option_map (λ draws. Run (Some draws)) (draws_by count number)
run_by (Some count) None = None
run_by None (Some number) = None

abbrev pub threads_of : Option Text → Option ℕ
threads_of value = option_and_then (number_in 1 most_threads) value

-- how many tuples are wanted, by the word
abbrev pub count_of : Option Text → Option ℕ
count_of word = option_and_then (number_in 0 most_tuples) word

-- what the command of this name makes of the values that were given to its places
abbrev pub command_by : Text → (Place → Option Text) → Option Command
command_by name values =
    if bytes_eq name (codes "run") then run_by (values (Some (codes "draws"))) (values (Some (codes "number"))) else
    (if bytes_eq name (codes "race") then option_map Race (threads_of (values (Some (codes "threads")))) else
    (if bytes_eq name (codes "recover") then Some Recover else
    (if bytes_eq name (codes "hot") then option_map Hot (count_of (values None)) else
    (if bytes_eq name (codes "layout") then option_map Layout (count_of (values None)) else
    (if bytes_eq name (codes "gen") then option_map Gen (work_of values) else
    (if bytes_eq name (codes "drive") then option_map Drive (work_of values) else None))))))

-- the command that the words are
abbrev pub command_of : List Text → Option Command
command_of words = option_and_then (λ line. command_by line.0 (λ place. value_at place line.1)) (line_of built_forms words)
