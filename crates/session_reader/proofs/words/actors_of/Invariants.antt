use Rattle.std.proofs.Common.{◌≡◌, map, drop}
use Rattle.catalogue.specs.PlanOf.{plan_of}
use Rattle.session_reader.specs.SessionOf.{actors_of}
use Rattle.session_reader.proofs.ScheduleWords.{with_front}
use Rattle.session_reader.proofs.Searches.{actors_from}
use Rattle.session_reader.proofs.words.actors_of.Given as goal

-- the actors so far, in front of those of the words that are left, are all
abbrev pub invariant-loop-i : goal.invariant-loop-i
invariant-loop-i l =
    actors_of (plan_of l.session) (map (λ word. word.now) l.words)
    ≡ with_front l.actors.items (actors_from (plan_of l.session) l.i (map (λ word. word.now) (drop l.i l.words)))
