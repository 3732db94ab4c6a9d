use Rattle.fabric_model.proofs.Legal.{legal_when_up}
use Rattle.fabric_model.proofs.laws.histories_are_legal.Goals as goal

pub returns : goal.returns
returns c = legal_when_up
