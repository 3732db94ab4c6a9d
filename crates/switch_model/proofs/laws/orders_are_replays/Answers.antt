use Rattle.switch_model.proofs.InOrder.{in_order}
use Rattle.switch_model.proofs.laws.orders_are_replays.Goals as goal

pub returns : goal.returns
returns c = in_order
