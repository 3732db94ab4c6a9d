use Rattle.switch_model.proofs.Replayed.{keep_order}
use Rattle.switch_model.proofs.laws.first_passes_keep_order.Goals as goal

pub returns : goal.returns
returns c = keep_order
