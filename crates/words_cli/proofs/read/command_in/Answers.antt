use Rattle.std.proofs.Common.{◌∙◌}
use Rattle.clap.specs.Words.{found_of, rows_of}
use Rattle.words_cli.proofs.Parsed.{command_named, no_command_named}
use Rattle.words_cli.proofs.read.command_in.Goals as goal

pub returns-in-Some-clause-value : goal.returns-in-Some-clause-value
returns-in-Some-clause-value c = c.command_by.ensures.value ∙ command_named c.args.matches.now c.in-Some.found.0.now (rows_of (found_of c.in-Some.found.1.now)) c.in-Some.ensures.name c.in-Some.ensures.rows

pub returns-in-None-clause-value : goal.returns-in-None-clause-value
returns-in-None-clause-value c = no_command_named c.args.matches.now c.in-None.ensures.rows
