use Rattle.fabric_model.proofs.Runs.{moves_are_the_trace}
use Rattle.fabric_model.proofs.SmallBounds.{small_bound}
use Rattle.fabric_model.proofs.rounds.bounds_are_small.Goals as goal

pub returns : goal.returns
returns c = record { bound = small_bound; counted = moves_are_the_trace }
