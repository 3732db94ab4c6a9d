use Rattle.history_core.proofs.Answered.{inserted}
use Rattle.history_core.proofs.laws.answered_insertion.Goals as goal

pub returns : goal.returns
returns c = inserted
