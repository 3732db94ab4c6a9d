use Rattle.std.proofs.Common.{arith}
use Rattle.intent_log.proofs.ViewLaws.{texts_fit}
use Rattle.fabric_core.proofs.Recoveries.{expected_at}
use Rattle.fabric_core.proofs.recovery.compare_logs.Goals as goal

pub check_log-requires-clause-written : goal.check_log-requires-clause-written
check_log-requires-clause-written g c = (expected_at c.args.views.now c.loop-c.c c.index-views-c.result (omega arith) c.index-views-c.is c.requires.expected).written

pub check_log-requires-clause-whole : goal.check_log-requires-clause-whole
check_log-requires-clause-whole g c = (expected_at c.args.views.now c.loop-c.c c.index-views-c.result (omega arith) c.index-views-c.is c.requires.expected).whole

pub check_log-requires-clause-room : goal.check_log-requires-clause-room
check_log-requires-clause-room g c =
    texts_fit _ _ (expected_at c.args.views.now c.loop-c.c c.index-views-c.result (omega arith) c.index-views-c.is c.requires.expected).written (omega (arith, c.requires.room, c.loop-c.invariant.text))
