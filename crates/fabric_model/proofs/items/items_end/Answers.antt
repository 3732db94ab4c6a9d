use Rattle.fabric_model.proofs.Ended.{items_end}
use Rattle.fabric_model.proofs.Legal.{holds_now}
use Rattle.fabric_model.proofs.items.items_end.Goals as goal

pub returns : goal.returns
returns c plan s reached = items_end plan (holds_now plan) s reached
