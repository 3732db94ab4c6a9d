use Rattle.pipeline.proofs.Answered.{answer_shown}
use Rattle.pipeline.proofs.laws.answers_are_taken.Goals as goal

pub returns : goal.returns
returns c = answer_shown
