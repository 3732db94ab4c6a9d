use Rattle.fabric_model.proofs.Legal.{holds_now}
use Rattle.fabric_model.proofs.Stuck.{someone_can_move}
use Rattle.fabric_model.proofs.rounds.someone_can_move.Goals as goal

pub returns : goal.returns
returns c plan s reached more = someone_can_move plan s reached (holds_now plan s reached) more
