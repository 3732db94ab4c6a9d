use Rattle.client_phase.proofs.Models.{locks_are_the_models}
use Rattle.client_phase.proofs.laws.locks_are_the_models.Goals as goal

pub returns : goal.returns
returns c = locks_are_the_models
