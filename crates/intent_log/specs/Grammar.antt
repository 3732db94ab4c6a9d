-- The grammar of logs. A log is read from its front, one record that fits after another.
use Rattle.std.specs.Prelude.{◌≡◌, ℕ, ◌+◌, ◌-◌, ◌<◌, Bool, true, false, List, [], ◌∷◌, ◌++◌, length, slice_get, Option, Some, None, ⊤}
use Rattle.std.specs.List.{flat_map}
use Rattle.switch_packet.specs.Fronts.{IsFront}
use Rattle.switch_packet.specs.Packets.{PlainIntent, PlainOutcome, PlainLog}
use Rattle.intent_log.specs.LogText.{intent_text, outcome_text}
use Rattle.intent_log.specs.Records.{IsIntent, IsOutcome}

-- ---- records

pub data Record : Type 0 where
  Intended : PlainIntent → Record
  Answered : PlainOutcome → Record

abbrev pub record_text : Record → List ℕ
record_text (Intended i) = intent_text i
record_text (Answered o) = outcome_text o

-- a record that has a text
abbrev pub IsRecord : Record → Type 0
IsRecord (Intended i) = IsIntent i
IsRecord (Answered o) = IsOutcome o

-- ---- which record fits

-- nothing is said yet
abbrev pub no_records : PlainLog
no_records = record { intents = []; outcomes = []; torn = false }

-- the log that says one record more
abbrev pub with_record : PlainLog → Record → PlainLog
with_record log (Intended i) = record { intents = log.intents ++ i ∷ []; outcomes = log.outcomes; torn = log.torn }
with_record log (Answered o) = record { intents = log.intents; outcomes = log.outcomes ++ o ∷ []; torn = log.torn }

abbrev pub last_intent : PlainLog → Option PlainIntent
last_intent log = slice_get log.intents (length log.intents - 1)

-- the number of the item is above that of the last intent, where there is one
abbrev pub IsAbove : Option PlainIntent → ℕ → Type 0
IsAbove None seq = ⊤
IsAbove (Some last) seq = last.packet.seq < seq

-- the outcome is of the last intent's item, and has a pair for each operation of its packet
abbrev pub IsOutcomeOf : Option PlainIntent → PlainOutcome → Type 0
IsOutcomeOf None o = ⊥
IsOutcomeOf (Some last) o = (o.seq ≡ last.packet.seq) × (length o.pairs ≡ length last.packet.ops)

-- The record fits where a client's log has said this much. An intent fits where its packet is the client's, no earlier intent is
-- unanswered, and its item is behind the last intent's. An outcome fits where an intent is unanswered, and it is that one's.
abbrev pub FitsBehind : ℕ → PlainLog → Record → Type 0
FitsBehind client log (Intended i) = (i.packet.client ≡ client) × (length log.intents ≡ length log.outcomes) × IsAbove (last_intent log) i.packet.seq
FitsBehind client log (Answered o) = (length log.intents ≡ length log.outcomes + 1) × IsOutcomeOf (last_intent log) o

-- the records have texts, and each fits where the log has said those before it
abbrev pub FitInTurn : ℕ → PlainLog → List Record → Type 0
FitInTurn client log [] = ⊤
FitInTurn client log (r ∷ rs) = IsRecord r × FitsBehind client log r × FitInTurn client (with_record log r) rs

-- the log that says these records as well
abbrev pub with_records : PlainLog → List Record → PlainLog
with_records log [] = log
with_records log (r ∷ rs) = with_records (with_record log r) rs

-- ---- logs

-- Where a log ends nothing is left, unless it is torn: then what is left is the front of a record, and counts as absent.
abbrev pub Ends : Bool → List ℕ → Type 0
Ends false left = left ≡ []
Ends true left = (0 < length left) × IsFront record_text IsRecord left

-- the bytes are a log of this client, and say this
pub record IsLog (client : ℕ) (bytes : List ℕ) (log : PlainLog) : Type 0 where
  pub records : List Record
  pub left : List ℕ
  pub parts : bytes ≡ flat_map record_text records ++ left
  pub fit : FitInTurn client no_records records
  pub ends : Ends log.torn left
  pub says : log ≡ record (with_records no_records records) { torn = log.torn }

-- The bytes are no log of this client: at this place, which whole fitting records have reached, stands neither a record that fits nor
-- the front of a record.
pub record IsDamagedAt (client : ℕ) (bytes : List ℕ) (at : ℕ) : Type 0 where
  pub records : List Record
  pub left : List ℕ
  pub parts : bytes ≡ flat_map record_text records ++ left
  pub fit : FitInTurn client no_records records
  pub place : at ≡ length (flat_map record_text records)
  pub some : 0 < length left
  pub no_front : ¬ IsFront record_text IsRecord left
  pub no_record : (r : Record) (rest : List ℕ) → IsRecord r → FitsBehind client (with_records no_records records) r → left ≡ record_text r ++ rest → ⊥

-- some log of this client says this
abbrev pub IsView : ℕ → PlainLog → Type 0
IsView client log = (bytes : List ℕ) × IsLog client bytes log
