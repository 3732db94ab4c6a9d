use Rattle.std.proofs.Common.{◌≡◌, ◌++◌, drop, string_bytes}
use Rattle.std.specs.List.{AllByRecursion}
use Rattle.session_text.specs.SessionData.{more_words}
use Rattle.session_text.specs.Typed.{IsTypedActor}
use Rattle.session_text.proofs.section.push_words.Given as goal

-- what is left makes the whole
abbrev pub invariant-loop-actor : goal.invariant-loop-actor
invariant-loop-actor l =
    (string_bytes l.text ++ more_words (drop l.actor-index l.others) ≡ string_bytes l.initial.text ++ more_words l.others)
    × (AllByRecursion IsTypedActor (drop l.actor-index l.others) → AllByRecursion IsTypedActor l.others)
