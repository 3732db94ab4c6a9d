use Rattle.std.proofs.Common.{rules}
use Rattle.words_cli.proofs.line.bare.Goals as goal

pub returns : goal.returns
returns c = search rules
