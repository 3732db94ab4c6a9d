use Rattle.switch_model.proofs.Replayed.{registers_replayed}
use Rattle.switch_model.proofs.laws.registers_are_replayed.Goals as goal

pub returns : goal.returns
returns c = registers_replayed
