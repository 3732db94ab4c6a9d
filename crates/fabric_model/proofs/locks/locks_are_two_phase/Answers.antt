use Rattle.fabric_model.proofs.TwoPhases.{two_phases}
use Rattle.fabric_model.proofs.locks.locks_are_two_phase.Goals as goal

pub returns : goal.returns
returns c = two_phases
