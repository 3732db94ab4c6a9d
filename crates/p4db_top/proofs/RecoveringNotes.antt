-- What stands behind the notes of the command `recover`.
use Rattle.std.proofs.Common.{◌≡◌, ◌⊎◌, ℕ, ◌≤◌, ◌++◌, List, Option, Some, None, Ok, Err, length, length-append, append-nil, inl, inr, refl, sym, ap, subst, ◌∙◌, arith}
use Rattle.catalogue.specs.Plan.{Plan}
use Rattle.port_io.specs.Cause.{HasCause}
use Rattle.port_io.specs.ReadAll.{TakesAll, TakesBeyond}
use Rattle.session_reader.specs.SessionOf.{session_of}
use Rattle.session_reader.specs.declared.fault.SessionFault.{SessionFault}
use Rattle.fabric_core.specs.Racks.{Rack}
use Rattle.report_text.specs.Recovered.{recovered_text, recovery_of}
use Rattle.switch_recovery.specs.Recovering.{IsRecoverable, Recovers, IsFailure}
use Rattle.switch_recovery.specs.declared.recovered.Recovered.{Recovered}
use Rattle.switch_recovery.specs.declared.recovered.RecoveryFault.{RecoveryFault}
use Rattle.switch_recovery.specs.declared.recovered.RecoveryFault.TheVariants as faults
use Rattle.switch_recovery.proofs.RecoveringLaws.{is_owed}
use Rattle.p4db_top.specs.declared.note.Note.{Note}
use Rattle.p4db_top.specs.declared.note.Note.TheVariants.{Done, Usage, ReadFault, InputTooLong, WriteFault, Session, LogFault, LogChanged, LogDamaged, LogTooLong, BadIntent, NoOrder, NoMemory}
use Rattle.p4db_top.specs.Headline.{most_input, IsRead, OfSession, Refuses, StopsReading}
use Rattle.p4db_top.specs.Logs.{IsLogFault, HasLogCause}
use Rattle.p4db_top.specs.Prints.{Written}
use Rattle.p4db_top.specs.Recovering.{EndsRecovery, ExplainsRecovery, note_of}

-- ---- notes of a session's recovery

pub printed : (note : Note) (session : Plan) (old : Rack) (recovered : Recovered) (before after : Option (List ℕ)) → Recovers session old.told (Ok recovered)
    → Written note (recovered_text (recovery_of session recovered)) before after → EndsRecovery note session old before after
printed Done session old recovered before after r w = record { recovered = recovered; recovers = r; is = w }
printed WriteFault session old recovered before after r w = record { recovered = recovered; recovers = r; is = w }
printed NoMemory session old recovered before after r w = inr (record { recovered = recovered; recovers = r; is = w })
printed other session old recovered before after r w = absurd w

pub refused : (fault : RecoveryFault) (session : Plan) (old : Rack) (before : Option (List ℕ)) → Recovers session old.told (Err fault) → EndsRecovery (note_of fault) session old before before
refused (faults.LogFailed c) session old before r = (r, refl)
refused (faults.LogTooLong c) session old before r = (r, refl)
refused (faults.LogDamaged c at) session old before r = (r, refl)
refused (faults.BadIntent c seq) session old before r = (r, refl)
refused faults.NoOrder session old before r = (r, refl)
refused faults.NoMemory session old before r = inl refl

pub printed_cause : (note : Note) (text : List ℕ) (before after : Option (List ℕ)) (was now : ℕ) → Written note text before after → now ≡ was → HasLogCause was now note
printed_cause Done text before after was now w same = record { rose = λ r. absurd r; still = λ _. same }
printed_cause WriteFault text before after was now w same = record { rose = λ r. absurd r; still = λ _. same }
printed_cause NoMemory text before after was now w same = record { rose = λ r. absurd r; still = λ _. same }
printed_cause other text before after was now w same = absurd w

pub refused_cause : (fault : RecoveryFault) (was now : ℕ) → HasCause was now (IsFailure fault) → HasLogCause was now (note_of fault)
refused_cause (faults.LogFailed c) was now h = record { rose = λ _. h.rose tt; still = λ no. absurd (no tt) }
refused_cause (faults.LogTooLong c) was now h = record { rose = λ r. absurd r; still = λ _. h.still (λ e. e) }
refused_cause (faults.LogDamaged c at) was now h = record { rose = λ r. absurd r; still = λ _. h.still (λ e. e) }
refused_cause (faults.BadIntent c seq) was now h = record { rose = λ r. absurd r; still = λ _. h.still (λ e. e) }
refused_cause faults.NoOrder was now h = record { rose = λ r. absurd r; still = λ _. h.still (λ e. e) }
refused_cause faults.NoMemory was now h = record { rose = λ r. absurd r; still = λ _. h.still (λ e. e) }

pub refused_is_no_write : (fault : RecoveryFault) → note_of fault ≡ WriteFault → ⊥
refused_is_no_write (faults.LogFailed c) e = cc
refused_is_no_write (faults.LogTooLong c) e = cc
refused_is_no_write (faults.LogDamaged c at) e = cc
refused_is_no_write (faults.BadIntent c seq) e = cc
refused_is_no_write faults.NoOrder e = cc
refused_is_no_write faults.NoMemory e = cc

-- ---- notes of the command

pub recovery_explained : (note : Note) (left rest before after : Option (List ℕ)) (old new : Rack) (session : Plan) → IsRead left rest session → EndsRecovery note session old before after → ExplainsRecovery note left rest before after old new
recovery_explained Done left rest before after old new session read e = record { session = session; given = read; is = e }
recovery_explained WriteFault left rest before after old new session read e = record { session = session; given = read; is = e }
recovery_explained (LogFault c) left rest before after old new session read e = record { session = session; given = read; is = e }
recovery_explained (LogTooLong c) left rest before after old new session read e = record { session = session; given = read; is = e }
recovery_explained (LogDamaged c at) left rest before after old new session read e = record { session = session; given = read; is = e }
recovery_explained (BadIntent c seq) left rest before after old new session read e = record { session = session; given = read; is = e }
recovery_explained NoOrder left rest before after old new session read e = record { session = session; given = read; is = e }
recovery_explained NoMemory left rest before after old new session read e = inr (record { session = session; given = read; is = e })
recovery_explained other left rest before after old new session read e = absurd e

pub unread_explained : (note : Note) (left rest before : Option (List ℕ)) (old new : Rack) → StopsReading note left rest → ExplainsRecovery note left rest before before old new
unread_explained ReadFault left rest before old new s = (s, refl)
unread_explained InputTooLong left rest before old new s = (s, refl)
unread_explained (Session fault) left rest before old new s = (s, refl)
unread_explained NoMemory left rest before old new s = inl (s, refl)
unread_explained other left rest before old new s = absurd s

-- why no session was read is no fault of a log
pub unread_cause : (note : Note) (left rest : Option (List ℕ)) (was : ℕ) → StopsReading note left rest → HasLogCause was was note
unread_cause ReadFault left rest was s = record { rose = λ r. absurd r; still = λ _. refl }
unread_cause InputTooLong left rest was s = record { rose = λ r. absurd r; still = λ _. refl }
unread_cause (Session fault) left rest was s = record { rose = λ r. absurd r; still = λ _. refl }
unread_cause NoMemory left rest was s = record { rose = λ r. absurd r; still = λ _. refl }
unread_cause other left rest was s = absurd s

pub recovery_is_no_fault : (note : Note) (session : Plan) (old : Rack) (before after : Option (List ℕ)) (fault : SessionFault) → EndsRecovery note session old before after → note ≡ Session fault → ⊥
recovery_is_no_fault note session old before after fault e is = subst (λ (n : Note). EndsRecovery n session old before after) is e

pub recovery_is_no_read : (note : Note) (session : Plan) (old : Rack) (before after : Option (List ℕ)) → EndsRecovery note session old before after → note ≡ ReadFault → ⊥
recovery_is_no_read note session old before after e is = subst (λ (n : Note). EndsRecovery n session old before after) is e

-- ---- what is owed

taken_all : (most : ℕ) (bytes taken : List ℕ) (rest : Option (List ℕ)) → TakesAll most (Some bytes) rest taken → taken ≡ bytes
taken_all most bytes taken None t = absurd t.taken
taken_all most bytes taken (Some left) t = sym (t.taken ∙ ap (λ (l : List ℕ). taken ++ l) t.ended ∙ append-nil taken)

not_beyond : (most : ℕ) (bytes : List ℕ) (rest : Option (List ℕ)) → TakesBeyond most (Some bytes) rest → length bytes ≤ most → ⊥
not_beyond most bytes None t few = absurd t.2
not_beyond most bytes (Some left) t few = omega (arith, t.1, ap length t.2, length-append t.0 left, few)

not_refused : (bytes : List ℕ) (session : Plan) (rest : Option (List ℕ)) (fault : SessionFault) → session_of bytes ≡ Ok session → Refuses (Some bytes) rest fault → ⊥
not_refused bytes session rest fault is r =
    let e : session_of bytes ≡ Err fault = subst (λ (b : List ℕ). session_of b ≡ Err fault) (taken_all most_input bytes r.bytes rest r.taken) r.is in
    cc (is, e)

-- the session that was read is that of all the bytes
the_session : (bytes : List ℕ) (session other : Plan) (rest : Option (List ℕ)) → session_of bytes ≡ Ok session → IsRead (Some bytes) rest other → other ≡ session
the_session bytes session other rest is r =
    let e : session_of bytes ≡ Ok other = subst (λ (b : List ℕ). session_of b ≡ Ok other) (taken_all most_input bytes r.bytes rest r.taken) r.is in
    cc (is, e)

-- logs that can be recovered are refused for want of memory alone
not_unordered : (bytes : List ℕ) (session : Plan) (rest : Option (List ℕ)) (old : Rack) (fault : RecoveryFault) → session_of bytes ≡ Ok session → IsRecoverable session old.told
    → OfSession (IsRead (Some bytes) rest) (λ s. Recovers s old.told (Err fault)) → (IsFailure fault → ⊥) → fault ≡ faults.NoMemory
not_unordered bytes session rest old fault is can r whole =
    is_owed session old.told fault (subst (λ (s : Plan). Recovers s old.told (Err fault)) (the_session bytes session r.session rest is r.given) r.is) can whole

of_session : (left rest : Option (List ℕ)) (P : Plan → Type 0) (Q : Type 0) → OfSession (IsRead left rest) (λ s. P s × Q) → OfSession (IsRead left rest) P
of_session left rest P Q o = record { session = o.session; given = o.given; is = o.is.0 }

pub recovery_owed : (note : Note) (rest before after : Option (List ℕ)) (old new : Rack) (bytes : List ℕ) (session : Plan) → ExplainsRecovery note (Some bytes) rest before after old new → length bytes ≤ most_input → session_of bytes ≡ Ok session
    → IsRecoverable session old.told → (note ≡ ReadFault → ⊥) → (note ≡ WriteFault → ⊥) → (IsLogFault note → ⊥) → (note ≡ Done) ⊎ (note ≡ NoMemory)
recovery_owed Done rest before after old new bytes session e few is can read write log = inl refl
recovery_owed NoMemory rest before after old new bytes session e few is can read write log = inr refl
recovery_owed Usage rest before after old new bytes session e few is can read write log = absurd e.is
recovery_owed ReadFault rest before after old new bytes session e few is can read write log = absurd (read refl)
recovery_owed WriteFault rest before after old new bytes session e few is can read write log = absurd (write refl)
recovery_owed (LogFault c) rest before after old new bytes session e few is can read write log = absurd (log tt)
recovery_owed (LogChanged c at) rest before after old new bytes session e few is can read write log = absurd e.is
recovery_owed InputTooLong rest before after old new bytes session e few is can read write log = absurd (not_beyond most_input bytes rest e.0 few)
recovery_owed (Session fault) rest before after old new bytes session e few is can read write log = absurd (not_refused bytes session rest fault is e.0)
recovery_owed (LogTooLong c) rest before after old new bytes session e few is can read write log =
    let none : faults.LogTooLong c ≡ faults.NoMemory = not_unordered bytes session rest old (faults.LogTooLong c) is can (of_session _ _ (λ s. Recovers s old.told (Err (faults.LogTooLong c))) _ e) (λ n. n) in absurd (cc none)
recovery_owed (LogDamaged c at) rest before after old new bytes session e few is can read write log =
    let none : faults.LogDamaged c at ≡ faults.NoMemory = not_unordered bytes session rest old (faults.LogDamaged c at) is can (of_session _ _ (λ s. Recovers s old.told (Err (faults.LogDamaged c at))) _ e) (λ n. n) in absurd (cc none)
recovery_owed (BadIntent c seq) rest before after old new bytes session e few is can read write log =
    let none : faults.BadIntent c seq ≡ faults.NoMemory = not_unordered bytes session rest old (faults.BadIntent c seq) is can (of_session _ _ (λ s. Recovers s old.told (Err (faults.BadIntent c seq))) _ e) (λ n. n) in absurd (cc none)
recovery_owed NoOrder rest before after old new bytes session e few is can read write log =
    let none : faults.NoOrder ≡ faults.NoMemory = not_unordered bytes session rest old faults.NoOrder is can (of_session _ _ (λ s. Recovers s old.told (Err faults.NoOrder)) _ e) (λ n. n) in absurd (cc none)
