use Rattle.smallbank.proofs.TotalLaws.{check_takes}
use Rattle.smallbank.proofs.laws.write_check_takes_the_amount.Goals as goal

pub returns : goal.returns
returns c = check_takes
