use Rattle.pipeline.proofs.Restoring.{fresh_shown}
use Rattle.pipeline.proofs.laws.beginnings_are_shown.Goals as goal

pub returns : goal.returns
returns c = fresh_shown
