-- What the reader of words answers.
use Rattle.std.specs.Prelude.{◌≡◌, Option, Some, None, Result, Ok, Err}
use Rattle.words_cli.specs.declared.command.WordFault.{WordFault}
use Rattle.words_cli.specs.declared.command.WordFault.TheVariants.{Usage, NoMemory}

-- the value that is wanted, or `Usage` where there is none; want of memory is free
abbrev pub Answers : {A : Type 0} → Option A → Result A WordFault → Type 0
Answers wanted (Ok value) = wanted ≡ Some value
Answers wanted (Err Usage) = wanted ≡ None
Answers wanted (Err NoMemory) = Unit {0}
