-- Laws of logs.
use Rattle.std.specs.Prelude.{◌≡◌, ℕ, List, [], ◌++◌, false}
use Rattle.switch_packet.specs.Packets.{PlainLog}
use Rattle.intent_log.specs.Grammar.{Record, IsRecord, record_text, no_records, with_record, FitsBehind, Ends, IsLog, IsDamagedAt, IsView}
use Rattle.intent_log.specs.LogText.{log_text}
use Rattle.intent_log.specs.Told.{CanBeWritten}

-- bytes say one thing at most
abbrev pub LogsDiffer : Type 0
LogsDiffer = (client : ℕ) (bytes : List ℕ) (a b : PlainLog) → IsLog client bytes a → IsLog client bytes b → a ≡ b

-- bytes that say something are not damaged
abbrev pub LogsAreWhole : Type 0
LogsAreWhole = (client : ℕ) (bytes : List ℕ) (log : PlainLog) (at : ℕ) → IsLog client bytes log → IsDamagedAt client bytes at → ⊥

-- bytes are damaged at one place at most
abbrev pub DamageHasOnePlace : Type 0
DamageHasOnePlace = (client : ℕ) (bytes : List ℕ) (a b : ℕ) → IsDamagedAt client bytes a → IsDamagedAt client bytes b → a ≡ b

-- a log is the text of what it says, and behind it what is torn
abbrev pub LogsAreTexts : Type 0
LogsAreTexts = (client : ℕ) (bytes : List ℕ) (log : PlainLog) → IsLog client bytes log → (left : List ℕ) × Ends log.torn left × (bytes ≡ log_text log ++ left)

-- no bytes are a log that says nothing, and a log that isn't torn goes on with each record that fits
abbrev pub LogsGoOn : Type 0
LogsGoOn = (client : ℕ) → IsLog client [] no_records × ((bytes : List ℕ) (log : PlainLog) (r : Record) → IsLog client bytes log → log.torn ≡ false → IsRecord r → FitsBehind client log r
    → IsLog client (bytes ++ record_text r) (with_record log r))

-- what some log of a client says can be written
abbrev pub ViewsCanBeWritten : Type 0
ViewsCanBeWritten = (client : ℕ) (log : PlainLog) → IsView client log → CanBeWritten log
