use Rattle.switch_packet.proofs.ReplayLaws.{replay_all-append}
use Rattle.switch_packet.proofs.laws.replays_in_turn.Goals as goal

pub returns : goal.returns
returns c = replay_all-append
