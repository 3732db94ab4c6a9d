use Rattle.std.proofs.Common.{arith}
use Rattle.txn_model.proofs.SerialLaws.{sound_length}
use Rattle.client_phase.proofs.Numbers.{few-numbers}
use Rattle.client_phase.proofs.client_state.ClientState.install.Goals as goal

pub overflow_add-self : goal.overflow_add-self
overflow_add-self c = omega (arith, c.requires.left, few-numbers c.args.parts.now.hot 0 c.args.script.now.items, sound_length _ c.requires.fit)
