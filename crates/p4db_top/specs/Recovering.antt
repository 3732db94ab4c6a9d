-- What stands behind each note of the command `recover`, where `old` is the rack as it was handed in.
use Rattle.std.specs.Prelude.{◌≡◌, ◌⊎◌, ℕ, List, Option, Ok, Err}
use Rattle.std.specs.Io.KnownBytes.{Appends}
use Rattle.catalogue.specs.Plan.{Plan}
use Rattle.fabric_core.specs.Racks.{Rack}
use Rattle.port_io.specs.ReadAll.{TakesWithin, TakesBeyond}
use Rattle.port_io.specs.WriteAll.{AppendsFront}
use Rattle.report_text.specs.Recovered.{recovered_text, recovery_of}
use Rattle.switch_recovery.specs.Recovering.{IsRecoverable, Recovers}
use Rattle.switch_recovery.specs.declared.recovered.Recovered.{Recovered}
use Rattle.switch_recovery.specs.declared.recovered.RecoveryFault.{RecoveryFault}
use Rattle.switch_recovery.specs.declared.recovered.RecoveryFault.TheVariants as faults
use Rattle.p4db_top.specs.declared.note.Note.{Note}
use Rattle.p4db_top.specs.declared.note.Note.TheVariants.{Done, ReadFault, InputTooLong, WriteFault, Session, LogFault, LogDamaged, LogTooLong, BadIntent, NoOrder, NoMemory}
use Rattle.p4db_top.specs.Headline.{most_input, IsRead, OfSession, Refuses}

-- each log of the session's clients is told and read, and some order of their packets fits
abbrev pub CanRecover : Plan → Rack → Type 0
CanRecover session old = IsRecoverable session old.told

-- the session's logs were recovered, and this is true of the text of what was
pub record OfRecovery (session : Plan) (old : Rack) (Is : List ℕ → Type 0) : Type 0 where
  pub recovered : Recovered
  pub recovers : Recovers session old.told (Ok recovered)
  pub is : Is (recovered_text (recovery_of session recovered))

-- a session was read, and exactly the recovered order of its logs was written
abbrev pub PrintsRecovered : (left rest before after : Option (List ℕ)) (old : Rack) → Type 0
PrintsRecovered left rest before after old = OfSession (IsRead left rest) (λ session. OfRecovery session old (Appends before after))

-- what stands behind each note of recovering a session that was read
abbrev pub EndsRecovery : Note → Plan → Rack → (before after : Option (List ℕ)) → Type 0
EndsRecovery Done session old before after = OfRecovery session old (Appends before after)
EndsRecovery WriteFault session old before after = OfRecovery session old (AppendsFront before after)
EndsRecovery (LogFault c) session old before after = Recovers session old.told (Err (faults.LogFailed c)) × (after ≡ before)
EndsRecovery (LogTooLong c) session old before after = Recovers session old.told (Err (faults.LogTooLong c)) × (after ≡ before)
EndsRecovery (LogDamaged c at) session old before after = Recovers session old.told (Err (faults.LogDamaged c at)) × (after ≡ before)
EndsRecovery (BadIntent c seq) session old before after = Recovers session old.told (Err (faults.BadIntent c seq)) × (after ≡ before)
EndsRecovery NoOrder session old before after = Recovers session old.told (Err faults.NoOrder) × (after ≡ before)
EndsRecovery NoMemory session old before after = (after ≡ before) ⊎ OfRecovery session old (AppendsFront before after)
EndsRecovery other session old before after = ⊥

-- what stands behind each note of the command
abbrev pub ExplainsRecovery : Note → (left rest before after : Option (List ℕ)) → (old new : Rack) → Type 0
ExplainsRecovery ReadFault left rest before after old new = TakesWithin most_input left rest × (after ≡ before)
ExplainsRecovery InputTooLong left rest before after old new = TakesBeyond most_input left rest × (after ≡ before)
ExplainsRecovery (Session fault) left rest before after old new = Refuses left rest fault × (after ≡ before)
ExplainsRecovery NoMemory left rest before after old new =
    (TakesWithin most_input left rest × (after ≡ before)) ⊎ OfSession (IsRead left rest) (λ session. EndsRecovery NoMemory session old before after)
ExplainsRecovery note left rest before after old new = OfSession (IsRead left rest) (λ session. EndsRecovery note session old before after)

-- the note of a fault of recovery
abbrev pub note_of : RecoveryFault → Note
note_of (faults.LogFailed c) = LogFault c
note_of (faults.LogTooLong c) = LogTooLong c
note_of (faults.LogDamaged c at) = LogDamaged c at
note_of (faults.BadIntent c seq) = BadIntent c seq
note_of faults.NoOrder = NoOrder
note_of faults.NoMemory = NoMemory
