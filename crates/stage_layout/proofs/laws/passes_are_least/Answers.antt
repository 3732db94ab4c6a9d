use Rattle.stage_layout.proofs.LeastPasses.{steps_are_least}
use Rattle.stage_layout.proofs.laws.passes_are_least.Goals as goal

pub returns : goal.returns
returns c = steps_are_least
