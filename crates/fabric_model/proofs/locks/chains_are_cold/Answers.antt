use Rattle.fabric_model.proofs.ColdChains.{cold_chains}
use Rattle.fabric_model.proofs.locks.chains_are_cold.Goals as goal

pub returns : goal.returns
returns c = cold_chains
