use Rattle.smallbank.proofs.TotalLaws.{transact_adds}
use Rattle.smallbank.proofs.laws.transact_savings_adds_the_amount.Goals as goal

pub returns : goal.returns
returns c = transact_adds
