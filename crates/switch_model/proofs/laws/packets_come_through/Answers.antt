use Rattle.switch_model.proofs.NotStuck.{not_stuck}
use Rattle.switch_model.proofs.Lessens.{lessens}
use Rattle.switch_model.proofs.laws.packets_come_through.Goals as goal

pub returns-clause-not_stuck : goal.returns-clause-not_stuck
returns-clause-not_stuck c = not_stuck

pub returns-clause-lessens : goal.returns-clause-lessens
returns-clause-lessens c = lessens
