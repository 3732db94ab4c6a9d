use Rattle.clap.specs.Words.{app_of}
use Rattle.words_cli.specs.declared.command.WordFault.TheVariants.{Usage}
use Rattle.words_cli.proofs.Parsed.{parsed_ok, parsed_err, same_fault}
use Rattle.words_cli.proofs.read.parsed.Goals as goal

pub returns-in-Ok-clause-ok : goal.returns-in-Ok-clause-ok
returns-in-Ok-clause-ok c = parsed_ok (app_of c.args.line) c.args.words.now c.in-Ok.matches c.requires.told c.requires.texts c.in-Ok.ensures.kinds c.in-Ok.ensures.matches

pub returns-in-Err-clause-usage : goal.returns-in-Err-clause-usage
returns-in-Err-clause-usage c is =
    parsed_err (app_of c.args.line) c.args.words.now c.in-Err.error c.requires.told c.requires.texts c.in-Err.ensures.kinds (c.fault_of.ensures (same_fault c.fault_of.result Usage is))
