use Rattle.smallbank.proofs.TotalLaws.{deposit_adds}
use Rattle.smallbank.proofs.laws.deposit_checking_adds_the_amount.Goals as goal

pub returns : goal.returns
returns c = deposit_adds
