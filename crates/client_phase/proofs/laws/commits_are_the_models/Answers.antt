use Rattle.client_phase.proofs.Models.{commits_are_the_models}
use Rattle.client_phase.proofs.laws.commits_are_the_models.Goals as goal

pub returns : goal.returns
returns c = commits_are_the_models
