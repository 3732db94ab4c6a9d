use Rattle.std.proofs.Common.{◌∙◌}
use Rattle.words_cli.proofs.Parsed.{answered, command_is, fault_answers}
use Rattle.words_cli.proofs.read.command_of.Goals as goal

pub returns-in-Ok-clause-value : goal.returns-in-Ok-clause-value
returns-in-Ok-clause-value c = answered c.command_in.result c.args.words.now c.answer.result (c.command_in.ensures.value ∙ command_is c.args.words.now c.in-Ok.matches c.in-Ok.ensures.ok) c.answer.ensures

pub returns-in-Err-clause-value : goal.returns-in-Err-clause-value
returns-in-Err-clause-value c = fault_answers c.in-Err.fault c.args.words.now c.in-Err.ensures.usage
