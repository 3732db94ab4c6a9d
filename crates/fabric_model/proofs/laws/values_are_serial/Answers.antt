use Rattle.fabric_model.proofs.Legal.{values_when_up}
use Rattle.fabric_model.proofs.laws.values_are_serial.Goals as goal

pub returns : goal.returns
returns c = values_when_up
