use Rattle.switch_model.proofs.Replayed.{fresh_reached, restored_reached, goes_on}
use Rattle.switch_model.proofs.Starts.{entered-restored}
use Rattle.switch_model.proofs.laws.switches_go_on.Goals as goal

pub returns-clause-fresh : goal.returns-clause-fresh
returns-clause-fresh c = fresh_reached

pub returns-clause-restored : goal.returns-clause-restored
returns-clause-restored c = restored_reached

pub returns-clause-entered : goal.returns-clause-entered
returns-clause-entered c = entered-restored

pub returns-clause-goes_on : goal.returns-clause-goes_on
returns-clause-goes_on c = goes_on
