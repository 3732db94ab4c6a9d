use Rattle.fabric_model.proofs.Placing.{is_recovered}
use Rattle.fabric_model.proofs.laws.recovery_takes_the_first_placement.Goals as goal

pub returns : goal.returns
returns c = is_recovered
