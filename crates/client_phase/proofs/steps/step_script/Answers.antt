use Rattle.std.proofs.Common.{arith}
use Rattle.txn_model.proofs.SerialLaws.{sound_length}
use Rattle.client_phase.proofs.steps.step_script.Goals as goal

pub overflow_cast-len : goal.overflow_cast-len
overflow_cast-len c = omega (arith, c.len.ensures, sound_length _ c.requires.fit)

pub log_intent-requires-clause-few : goal.log_intent-requires-clause-few
log_intent-requires-clause-few c = omega (arith, c.len.ensures, sound_length _ c.requires.fit)
