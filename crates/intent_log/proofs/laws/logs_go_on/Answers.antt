use Rattle.intent_log.proofs.GrammarLaws.{logs_go_on}
use Rattle.intent_log.proofs.laws.logs_go_on.Goals as goal

pub returns : goal.returns
returns c = logs_go_on
