use Rattle.smallbank.proofs.TotalLaws.{balance_keeps}
use Rattle.smallbank.proofs.laws.balance_keeps_the_total.Goals as goal

pub returns : goal.returns
returns c = balance_keeps
