use Rattle.switch_packet.proofs.PlaceChainLaws.{replay_chains}
use Rattle.switch_packet.proofs.laws.replays_are_chains.Goals as goal

pub returns : goal.returns
returns c = replay_chains
