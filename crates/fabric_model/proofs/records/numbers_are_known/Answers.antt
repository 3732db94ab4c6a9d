use Rattle.fabric_model.proofs.KnownNumbers.{known_numbers}
use Rattle.fabric_model.proofs.OwnStamps.{last_stamps}
use Rattle.fabric_model.proofs.records.numbers_are_known.Goals as goal

pub returns-clause-numbers : goal.returns-clause-numbers
returns-clause-numbers c = known_numbers

pub returns-clause-last : goal.returns-clause-last
returns-clause-last c = last_stamps
