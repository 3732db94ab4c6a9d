use Rattle.smallbank.proofs.TotalLaws.{payment_keeps}
use Rattle.smallbank.proofs.laws.send_payment_keeps_the_total.Goals as goal

pub returns : goal.returns
returns c = payment_keeps
