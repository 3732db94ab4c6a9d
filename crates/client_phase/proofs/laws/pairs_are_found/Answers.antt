use Rattle.client_phase.proofs.Models.{pairs_are_found}
use Rattle.client_phase.proofs.laws.pairs_are_found.Goals as goal

pub returns : goal.returns
returns c = pairs_are_found
