use Rattle.stage_layout.proofs.LeastPasses as least
use Rattle.stage_layout.proofs.laws.plans_are_in_order.Goals as goal

pub returns : goal.returns
returns c = least.plans_are_in_order
