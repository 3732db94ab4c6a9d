use Rattle.std.proofs.Common.{◌≡◌, ◌++◌, string_bytes, codes, take}
use Rattle.std.specs.List.{flat_map}
use Rattle.catalogue.specs.ActorWord.{actor_word}
use Rattle.report_text.proofs.line.push_schedule.Given as goal

abbrev pub invariant-loop-actor : goal.invariant-loop-actor
invariant-loop-actor l = string_bytes l.text ≡ string_bytes l.initial.text ++ flat_map (λ a. codes " " ++ actor_word a) (take l.actor-index l.trace)
