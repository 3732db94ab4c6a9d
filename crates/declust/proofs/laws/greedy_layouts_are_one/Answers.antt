use Rattle.std.proofs.Common.{[]}
use Rattle.declust.proofs.OneGreedy.{one_greedy}
use Rattle.declust.proofs.laws.greedy_layouts_are_one.Goals as goal

pub returns : goal.returns
returns c = λ plan. one_greedy plan []
