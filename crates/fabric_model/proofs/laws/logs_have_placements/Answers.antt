use Rattle.fabric_model.proofs.Placing.{has_placements}
use Rattle.fabric_model.proofs.laws.logs_have_placements.Goals as goal

pub returns : goal.returns
returns c = has_placements
