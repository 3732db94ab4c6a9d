use Rattle.fabric_model.proofs.Refusals.{refusals_of_run}
use Rattle.fabric_model.proofs.items.refusals_are_true.Goals as goal

pub returns : goal.returns
returns c = refusals_of_run
