use Rattle.client_phase.proofs.NextMoves.{actions_are_moves}
use Rattle.client_phase.proofs.laws.actions_are_moves.Goals as goal

pub returns : goal.returns
returns c = actions_are_moves
