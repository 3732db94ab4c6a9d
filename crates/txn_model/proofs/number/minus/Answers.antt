use Rattle.std.proofs.Common.{rules}
use Rattle.std.proofs.lemmas.Int.{wraps}
use Rattle.txn_model.proofs.number.minus.Goals as goal

pub returns : goal.returns
returns c = search (rules, wraps)
