-- What the calls that read a client's log say of the bytes that the rack tells.
use Rattle.std.specs.Prelude.{◌≡◌, ◌≢◌, ℕ, ◌+◌, ◌<◌, ◌≤◌, ◌^◌, List, Option, Result, Ok, Err, IfSome, MatchResult, true, ⊤, length, slice_get, take, drop}
use Rattle.std.specs.List.{AllByRecursion}
use Rattle.switch_packet.specs.Packets.{PlainLog, plain_log}
use Rattle.switch_packet.specs.Ranges.{Fits}
use Rattle.switch_packet.specs.declared.record.LogView.{LogView}
use Rattle.switch_packet.specs.declared.fault.PacketFault.{PacketFault}
use Rattle.switch_packet.specs.declared.fault.PacketFault.TheVariants as packet
use Rattle.intent_log.specs.declared.entry.EntryFault.{EntryFault}
use Rattle.intent_log.specs.declared.entry.EntryFault.TheVariants as entry
use Rattle.intent_log.specs.declared.fault.CheckFault.{CheckFault}
use Rattle.intent_log.specs.declared.fault.CheckFault.TheVariants as check
use Rattle.intent_log.specs.declared.fault.LogFault.{LogFault}
use Rattle.intent_log.specs.declared.fault.LogFault.TheVariants as fault
use Rattle.intent_log.specs.Grammar.{IsLog, IsDamagedAt}
use Rattle.intent_log.specs.LogText.{intent_text, outcome_text, log_text}
use Rattle.intent_log.specs.Records.{HasPairs}

-- the rack tells these bytes, if it tells any
abbrev pub IsTold : Option (List ℕ) → List ℕ → Type 0
IsTold told bytes = IfSome told (λ log. log ≡ bytes)

-- no more bytes than a log may have were read, and of these this holds
pub record ReadWithin (told : Option (List ℕ)) (holds : List ℕ → Type 0) : Type 0 where
  pub bytes : List ℕ
  pub are_told : IsTold told bytes
  pub within : length bytes ≤ 16777216
  pub of_them : holds bytes

-- what the bytes of a client's log say
abbrev pub Says : ℕ → List ℕ → Result LogView LogFault → Type 0
Says client bytes (Ok view) = IsLog client bytes (plain_log view)
Says client bytes (Err (fault.Damaged at)) = IsDamagedAt client bytes at
Says client bytes (Err fault.NoMemory) = ⊤
Says client bytes (Err fault.Failed) = ⊥
Says client bytes (Err fault.TooLong) = ⊥

-- what is said of a log where the bytes from this place on begin with no record, and this much was said before
abbrev pub CutsOff : PacketFault → ℕ → PlainLog → Result LogView LogFault → Type 0
CutsOff packet.Short place log result = MatchResult result (λ view. plain_log view ≡ record log { torn = true }) (λ _. ⊥)
CutsOff (packet.BadByte at) place log result = result ≡ Err (fault.Damaged place)

-- the same where memory may have run out
abbrev pub StopsWith : EntryFault → ℕ → PlainLog → Result LogView LogFault → Type 0
StopsWith (entry.Text cut) place log result = CutsOff cut place log result
StopsWith entry.NoMemory place log result = result ≡ Err fault.NoMemory

-- why not all bytes of a log were read
abbrev pub StopsReading : Option (List ℕ) → LogFault → Type 0
StopsReading told fault.Failed = ⊤
StopsReading told fault.TooLong = IfSome told (λ log. 16777216 < length log)
StopsReading told (fault.Damaged at) = ⊥
StopsReading told fault.NoMemory = ⊤

-- the first n bytes of the buffer are those of the told log from this place on; none come only at its end
abbrev pub GivesSome : Option (List ℕ) → ℕ → ℕ → List ℕ → Type 0
GivesSome told at n buf = IfSome told (λ log. (take n buf ≡ take n (drop at log)) × (n ≡ 0 → length log ≤ at))

-- what was read of a client's log, where the rack tells these bytes
abbrev pub HasRead : ℕ → Option (List ℕ) → Result LogView LogFault → Type 0
HasRead client told (Ok view) = ReadWithin told (λ bytes. IsLog client bytes (plain_log view))
HasRead client told (Err fault.Failed) = ⊤
HasRead client told (Err fault.TooLong) = IfSome told (λ log. 16777216 < length log)
HasRead client told (Err (fault.Damaged at)) = ReadWithin told (λ bytes. IsDamagedAt client bytes at)
HasRead client told (Err fault.NoMemory) = ⊤

-- the first place at which two texts differ; a missing or further byte differs
pub record DifferAt (xs ys : List ℕ) (at : ℕ) : Type 0 where
  pub same : take at xs ≡ take at ys
  pub differ : slice_get xs at ≢ slice_get ys at

-- how a client's log, where the rack tells it, stands to the text that it should have
abbrev pub HasChecked : Option (List ℕ) → List ℕ → Result (Unit {0}) CheckFault → Type 0
HasChecked told text (Ok done) = IsTold told text
HasChecked told text (Err check.Failed) = ⊤
HasChecked told text (Err (check.Changed at)) = IfSome told (λ log. DifferAt log text at)

-- What a log's records say can be written: each packet has its fields in their ranges, each outcome 1 to 16 pairs, the last intent
-- alone may be unanswered, and the places of the text are numbers of the program. What some log says can be written.
pub record CanBeWritten (log : PlainLog) : Type 0 where
  pub intents : AllByRecursion (λ i. Fits i.packet) log.intents
  pub outcomes : AllByRecursion HasPairs log.outcomes
  pub most : length log.outcomes ≤ length log.intents
  pub least : length log.intents ≤ length log.outcomes + 1
  pub places : length (log_text log) < 2 ^ 64

-- each record's text has at most so many bytes
pub record TextsFit (log : PlainLog) (room : ℕ) : Type 0 where
  pub intents : AllByRecursion (λ i. length (intent_text i) ≤ room) log.intents
  pub outcomes : AllByRecursion (λ o. length (outcome_text o) ≤ room) log.outcomes
