use Rattle.switch_model.proofs.Replayed.{shared}
use Rattle.switch_model.proofs.laws.regions_are_shared.Goals as goal

pub returns : goal.returns
returns c = shared
