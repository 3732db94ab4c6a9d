use Rattle.std.proofs.Common.{◌≡◌, take}
use Rattle.clap.specs.Words.{app_of}
use Rattle.words_cli.specs.ClapLine.{IsLocal}
use Rattle.words_cli.proofs.Told.{told, texts_of}
use Rattle.words_cli.proofs.line.form.Given as goal

-- the options so far
abbrev pub invariant-loop-option : goal.invariant-loop-option
invariant-loop-option l = record {
  app : app_of l.command ≡ told l.name (texts_of (take l.option-index l.options));
  local : IsLocal l.command;
}
