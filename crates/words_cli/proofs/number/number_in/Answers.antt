use Rattle.std.proofs.Common.{sym, ◌∙◌, arith}
use Rattle.words_cli.proofs.Numbers.{read_too_large}
use Rattle.words_cli.proofs.number.number_in.Goals as goal

pub returns-in-Err-clause-value : goal.returns-in-Err-clause-value
returns-in-Err-clause-value c =
    read_too_large c.args.least c.args.most c.args.text.now c.in-Err.field-0 c.in-Err.ensures.value.0 (sym c.is_number.ensures ∙ c.if-not-is_number.false) (omega arith)
