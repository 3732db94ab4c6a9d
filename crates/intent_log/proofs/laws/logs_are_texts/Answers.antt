use Rattle.intent_log.proofs.GrammarLaws.{logs_are_texts}
use Rattle.intent_log.proofs.laws.logs_are_texts.Goals as goal

pub returns : goal.returns
returns c = logs_are_texts
