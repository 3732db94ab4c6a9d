use Rattle.intent_log.proofs.ViewLaws.{views_can_be_written}
use Rattle.intent_log.proofs.laws.views_can_be_written.Goals as goal

pub returns : goal.returns
returns c = views_can_be_written
