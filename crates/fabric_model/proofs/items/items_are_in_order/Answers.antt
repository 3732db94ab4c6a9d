use Rattle.fabric_model.proofs.InOrder.{items_in_order}
use Rattle.fabric_model.proofs.Legal.{holds_now}
use Rattle.fabric_model.proofs.Rising.{rising_stamps}
use Rattle.fabric_model.proofs.items.items_are_in_order.Goals as goal

pub returns : goal.returns
returns c = record { order = λ plan s reached. items_in_order plan (holds_now plan) s reached; stamps = rising_stamps }
