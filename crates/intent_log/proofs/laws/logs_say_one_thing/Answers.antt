use Rattle.intent_log.proofs.GrammarLaws.{logs_differ, logs_are_whole, damage_has_one_place}
use Rattle.intent_log.proofs.laws.logs_say_one_thing.Goals as goal

pub returns-clause-says : goal.returns-clause-says
returns-clause-says c = logs_differ

pub returns-clause-whole : goal.returns-clause-whole
returns-clause-whole c = logs_are_whole

pub returns-clause-damage : goal.returns-clause-damage
returns-clause-damage c = damage_has_one_place
