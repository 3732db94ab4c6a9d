use Rattle.intent_log.proofs.ViewLaws.{views_can_be_written}
use Rattle.intent_log.proofs.tests.the_first_change_of_a_log_is_found.Goals as goal

pub check-requires-clause-written : goal.check-requires-clause-written
check-requires-clause-written g c = views_can_be_written 2 _ (c.in_ok-want.ensures.read.bytes, c.in_ok-want.ensures.read.of_them)
