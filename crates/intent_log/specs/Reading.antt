-- Reading a record from left to right, with the first fault that is met.
use Rattle.std.specs.Prelude.{◌≡◌, ℕ, ◌==◌, ⊤, Result, Ok, Err, if◌then◌else◌}
use Rattle.txn_model.specs.declared.pairs.Pair.{Pair}
use Rattle.switch_packet.specs.declared.fault.PacketFault.{PacketFault}
use Rattle.switch_packet.specs.Packets.{PlainIntent, PlainOutcome, plain_intent, plain_outcome}
use Rattle.switch_packet.specs.Reading.{Cursor, ◌>>=◌, byte_at, either_at, zeros_at, u32_at, u64_at, i64_at, each_at}
use Rattle.switch_packet.specs.PacketReading.{packet_at}
use Rattle.intent_log.specs.declared.entry.Entry.{Entry}
use Rattle.intent_log.specs.declared.entry.Entry.TheVariants as entry
use Rattle.intent_log.specs.declared.entry.EntryFault.{EntryFault}
use Rattle.intent_log.specs.declared.entry.EntryFault.TheVariants as fault
use Rattle.intent_log.specs.Grammar.{Record, Intended, Answered}

-- a pair
unfoldable pub pair_at : Cursor → Result (Pair × Cursor) PacketFault
pair_at c = do
  was ← i64_at c
  now ← i64_at was.1
  Ok (record { was = was.0; now = now.0 }, now.1)

-- an intent without its first byte
unfoldable pub intent_at : Cursor → Result (PlainIntent × Cursor) PacketFault
intent_at c = do
  version ← byte_at 1 1 c
  zeros ← zeros_at 2 version.1
  floor ← u64_at zeros.1
  packet ← packet_at floor.1
  Ok (record { floor = floor.0; packet = packet.0 }, packet.1)

-- an outcome without its first byte
unfoldable pub outcome_at : Cursor → Result (PlainOutcome × Cursor) PacketFault
outcome_at c = do
  version ← byte_at 1 1 c
  count ← byte_at 1 16 version.1
  reserved ← byte_at 0 0 count.1
  seq ← u32_at reserved.1
  number ← u64_at seq.1
  pairs ← each_at (λ _. pair_at) 0 count.0 number.1
  Ok (record { seq = seq.0; number = number.0; pairs = pairs.0 }, pairs.1)

abbrev pub as_intended : PlainIntent × Cursor → Result (Record × Cursor) PacketFault
as_intended read = Ok (Intended read.0, read.1)

abbrev pub as_answered : PlainOutcome × Cursor → Result (Record × Cursor) PacketFault
as_answered read = Ok (Answered read.0, read.1)

-- a record that begins with this byte, which was read
abbrev pub record_behind : ℕ → Cursor → Result (Record × Cursor) PacketFault
record_behind mark c = if mark == 0x49 then intent_at c >>= as_intended else outcome_at c >>= as_answered

-- a record
unfoldable pub record_at : Cursor → Result (Record × Cursor) PacketFault
record_at c = do
  mark ← either_at 0x49 0x4f c
  record_behind mark.0 mark.1

-- ---- what the code holds of it

-- a record as it is held, seen so
abbrev pub plain_entry : Entry → Record
plain_entry (entry.Intent i) = Intended (plain_intent i)
plain_entry (entry.Outcome o) = Answered (plain_outcome o)

-- what a function returned, seen so, is what reading gives, unless memory ran out
abbrev pub ReadsEntry : {X Y : Type 0} → (X → Y) → Cursor → Result X EntryFault → Result (Y × Cursor) PacketFault → Type 0
ReadsEntry seen new (Ok x) read = read ≡ Ok (seen x, new)
ReadsEntry seen new (Err (fault.Text f)) read = read ≡ Err f
ReadsEntry seen new (Err fault.NoMemory) read = ⊤
