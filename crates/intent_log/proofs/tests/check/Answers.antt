use Rattle.std.proofs.Common.{arith}
use Rattle.intent_log.proofs.ViewLaws.{texts_fit}
use Rattle.intent_log.proofs.tests.check.Goals as goal

pub check_log-requires-clause-room : goal.check_log-requires-clause-room
check_log-requires-clause-room c = texts_fit _ _ c.requires.written (omega (arith, c.in_ok-buf.ensures))
