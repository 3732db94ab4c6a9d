use Rattle.switch_model.proofs.Replayed.{answers_replayed}
use Rattle.switch_model.proofs.laws.answers_are_replayed.Goals as goal

pub returns : goal.returns
returns c = answers_replayed
