use Rattle.fabric_model.proofs.StampsAbove.{stamps_above}
use Rattle.fabric_model.proofs.items.stamps_stand_above.Goals as goal

pub returns : goal.returns
returns c = stamps_above
