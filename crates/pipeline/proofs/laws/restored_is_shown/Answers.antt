use Rattle.pipeline.proofs.Restoring.{restored_shown}
use Rattle.pipeline.proofs.laws.restored_is_shown.Goals as goal

pub returns : goal.returns
returns c = restored_shown
