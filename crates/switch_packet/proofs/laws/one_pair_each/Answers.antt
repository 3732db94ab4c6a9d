use Rattle.switch_packet.proofs.ReplayLaws.{length-replay}
use Rattle.switch_packet.proofs.laws.one_pair_each.Goals as goal

pub returns : goal.returns
returns c = length-replay
