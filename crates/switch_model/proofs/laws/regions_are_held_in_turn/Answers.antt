use Rattle.switch_model.proofs.HeldInTurn.{held_in_turn}
use Rattle.switch_model.proofs.laws.regions_are_held_in_turn.Goals as goal

pub returns : goal.returns
returns c = held_in_turn
