use Rattle.client_phase.proofs.ModelRows.{rows_are_stepped, losses_are_stepped}
use Rattle.client_phase.proofs.laws.moves_are_stepped.Goals as goal

pub returns : goal.returns
returns c = record { scripts = rows_are_stepped; losses = losses_are_stepped }
