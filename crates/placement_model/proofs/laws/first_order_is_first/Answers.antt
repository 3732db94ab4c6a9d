use Rattle.placement_model.proofs.First.{first_order_is_first, no_order_is_no_placement}
use Rattle.placement_model.proofs.laws.first_order_is_first.Goals as goal

pub returns : goal.returns
returns c = record { first = first_order_is_first; none = no_order_is_no_placement }
