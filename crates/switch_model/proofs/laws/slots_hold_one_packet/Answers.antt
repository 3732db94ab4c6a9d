use Rattle.switch_model.proofs.Replayed.{one_in_a_slot}
use Rattle.switch_model.proofs.laws.slots_hold_one_packet.Goals as goal

pub returns : goal.returns
returns c = one_in_a_slot
