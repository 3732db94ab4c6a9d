use Rattle.std.proofs.Common.{rules}
use Rattle.std.proofs.lemmas.Int.{wraps, int_wrap-add_left}
use Rattle.txn_model.specs.Serial.{effect}
use Rattle.txn_model.proofs.serial.effect.Goals as goal

pub returns-in-Add : goal.returns-in-Add
unfolding effect
returns-in-Add c = search (rules, wraps, int_wrap-add_left)
