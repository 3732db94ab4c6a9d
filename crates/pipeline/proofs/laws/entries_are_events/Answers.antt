use Rattle.pipeline.proofs.Entering.{enter_shown}
use Rattle.pipeline.proofs.laws.entries_are_events.Goals as goal

pub returns : goal.returns
returns c = enter_shown
