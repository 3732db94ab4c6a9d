use Rattle.fabric_model.proofs.Either.{fits_now}
use Rattle.fabric_model.proofs.Legal.{holds_now, holds_up}
use Rattle.fabric_model.proofs.MovesLeft.{moves_bounded}
use Rattle.fabric_model.proofs.rounds.moves_are_bounded.Goals as goal

pub returns : goal.returns
returns c plan s reached = moves_bounded plan (fits_now plan (holds_now plan)) (holds_up plan) s reached
