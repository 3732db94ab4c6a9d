use Rattle.switch_model.proofs.LeftBehind.{left_behind}
use Rattle.switch_model.proofs.laws.registers_are_left.Goals as goal

pub returns : goal.returns
returns c = left_behind
