use Rattle.fabric_model.proofs.FinishedLogs.{all_is_answered}
use Rattle.fabric_model.proofs.records.finished_ones_are_answered.Goals as goal

pub returns : goal.returns
returns c = all_is_answered
