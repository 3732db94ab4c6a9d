use Rattle.txn_model.proofs.WrapLaws.{wrap_in_range, wrap_congruent}
use Rattle.txn_model.proofs.laws.wraps_around.Goals as goal

pub returns-clause-range : goal.returns-clause-range
returns-clause-range c = wrap_in_range

pub returns-clause-congruent : goal.returns-clause-congruent
returns-clause-congruent c = wrap_congruent
