use Rattle.schedule.proofs.WordLaws.{actor_of-actor_word, actor_word-actor_of}
use Rattle.std.proofs.Common.{ap, ◌∙◌}
use Rattle.schedule.specs.Words.{actor_of}
use Rattle.schedule.proofs.word.words_name_actors.Goals as goal

pub returns : goal.returns
returns c = λ plan word actor limits. (actor_word-actor_of plan word actor limits, λ named. ap (actor_of plan) named.0 ∙ actor_of-actor_word plan actor limits named.1)
