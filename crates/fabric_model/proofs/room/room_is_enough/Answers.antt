use Rattle.fabric_model.proofs.SmallStamps.{fits_room}
use Rattle.fabric_model.proofs.room.room_is_enough.Goals as goal

pub returns : goal.returns
returns c = fits_room
