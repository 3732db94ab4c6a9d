-- Comparing a log with a text, piece by piece.
use Rattle.std.specs.Prelude.{◌≡◌, ℕ, ◌+◌, List, [], ◌++◌, Option, Some, None, Result, Ok, Err, IfSome, ⊤, length, drop}
use Rattle.switch_packet.specs.Packets.{PlainOutcome}
use Rattle.intent_log.specs.declared.fault.CheckFault.{CheckFault}
use Rattle.intent_log.specs.declared.fault.CheckFault.TheVariants.{Failed, Changed}
use Rattle.intent_log.specs.LogText.{outcome_text}
use Rattle.intent_log.specs.Told.{DifferAt}

-- the log, where it is told, begins with these bytes
abbrev pub Begins : Option (List ℕ) → List ℕ → Type 0
Begins told found = IfSome told (λ log. log ≡ found ++ drop (length found) log)

-- behind a front that ends at this place the log goes on with this text, or the first place at which it doesn't is found, whatever
-- follows the text
abbrev pub GoesOn : Option (List ℕ) → ℕ → List ℕ → Result ℕ CheckFault → Type 0
GoesOn told at text (Ok next) = (next ≡ at + length text) × ((front : List ℕ) → at ≡ length front → Begins told front → Begins told (front ++ text))
GoesOn told at text (Err Failed) = ⊤
GoesOn told at text (Err (Changed place)) =
    (front rest : List ℕ) → at ≡ length front → Begins told front → IfSome told (λ log. DifferAt log (front ++ (text ++ rest)) place)

-- a front that ends at this place is the whole log, or the log goes on behind it
abbrev pub EndsAt : Option (List ℕ) → ℕ → Result (Unit {0}) CheckFault → Type 0
EndsAt told at (Ok done) = (front : List ℕ) → at ≡ length front → Begins told front → IfSome told (λ log. log ≡ front)
EndsAt told at (Err Failed) = ⊤
EndsAt told at (Err (Changed place)) = (front : List ℕ) → at ≡ length front → Begins told front → IfSome told (λ log. DifferAt log front place)

-- the text of an outcome, where there is one
abbrev pub text_if : Option PlainOutcome → List ℕ
text_if None = []
text_if (Some o) = outcome_text o
