use Rattle.pipeline.proofs.Advancing.{advance_shown}
use Rattle.pipeline.proofs.laws.advances_are_events.Goals as goal

pub returns : goal.returns
returns c = advance_shown
