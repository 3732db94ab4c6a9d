-- A session within the limit is run, unless a call failed or memory ran out.
use Rattle.std.proofs.Common.{◌≡◌, ◌⊎◌, ℕ, ◌≤◌, ◌++◌, true, List, Option, Some, None, Ok, Err, IsTrue, length, length-append, append-nil, inl, inr, refl, sym, ap, subst, ◌∙◌, arith}
use Rattle.catalogue.specs.Plan.{Plan}
use Rattle.port_io.specs.ReadAll.{TakesAll, TakesBeyond}
use Rattle.session_reader.specs.SessionOf.{session_of}
use Rattle.session_reader.specs.declared.fault.SessionFault.{SessionFault}
use Rattle.fabric_core.specs.Racks.{Rack}
use Rattle.fabric_core.specs.declared.turn.Stop.TheVariants as stops
use Rattle.fabric_model.specs.Driven.{has_no_loss}
use Rattle.p4db_top.specs.declared.note.Note.{Note}
use Rattle.p4db_top.specs.declared.note.Note.TheVariants.{Done, ReadFault, InputTooLong, WriteFault, Session, LogFault, LogChanged, NoMemory}
use Rattle.p4db_top.specs.Headline.{most_input, IsRead, Explains, Refuses}
use Rattle.p4db_top.specs.Logs.{IsLogFault, Stops}
use Rattle.p4db_top.specs.Order.{Way}

-- what was taken is all that there was
taken_all : (most : ℕ) (bytes taken : List ℕ) (rest : Option (List ℕ)) → TakesAll most (Some bytes) rest taken → taken ≡ bytes
taken_all most bytes taken None t = absurd t.taken
taken_all most bytes taken (Some left) t = sym (t.taken ∙ ap (λ (l : List ℕ). taken ++ l) t.ended ∙ append-nil taken)

not_beyond : (most : ℕ) (bytes : List ℕ) (rest : Option (List ℕ)) → TakesBeyond most (Some bytes) rest → length bytes ≤ most → ⊥
not_beyond most bytes None t few = absurd t.2
not_beyond most bytes (Some left) t few = omega (arith, t.1, ap length t.2, length-append t.0 left, few)

not_refused : (bytes : List ℕ) (session : Plan) (rest : Option (List ℕ)) (fault : SessionFault) → session_of bytes ≡ Ok session → Refuses (Some bytes) rest fault → ⊥
not_refused bytes session rest fault is r =
    let e : session_of bytes ≡ Err fault = subst (λ (b : List ℕ). session_of b ≡ Err fault) (taken_all most_input bytes r.bytes rest r.taken) r.is in
    cc (is, e)

same_session : (bytes : List ℕ) (session other : Plan) (rest : Option (List ℕ)) → session_of bytes ≡ Ok session → IsRead (Some bytes) rest other → other ≡ session
same_session bytes session other rest is r =
    let e : session_of bytes ≡ Ok other = subst (λ (b : List ℕ). session_of b ≡ Ok other) (taken_all most_input bytes r.bytes rest r.taken) r.is in
    cc (is, e)

-- a log that a run wrote has not changed where the rack keeps, or the switch is never lost
not_changed : (way : Way) (session : Plan) (c at : ℕ) (old new : Rack) → IsTrue old.keeps ⊎ (has_no_loss session ≡ true) → Stops way session (stops.LogChanged c at) old new → ⊥
not_changed way session c at old new (inl keeps) s = s.told keeps
not_changed way session c at old new (inr none) s = let some = s.cause.losses in cc (none, some)

pub complete_from : (way : Way) (note : Note) (rest before after : Option (List ℕ)) (old new : Rack) (bytes : List ℕ) (session : Plan)
    → Explains way note (Some bytes) rest before after old new → length bytes ≤ most_input → session_of bytes ≡ Ok session → IsTrue old.keeps ⊎ (has_no_loss session ≡ true) → (note ≡ ReadFault → ⊥) → (note ≡ WriteFault → ⊥) → (IsLogFault note → ⊥)
    → (note ≡ Done) ⊎ (note ≡ NoMemory)
complete_from way Done rest before after old new bytes session e few is keeps read write log = inl refl
complete_from way NoMemory rest before after old new bytes session e few is keeps read write log = inr refl
complete_from way ReadFault rest before after old new bytes session e few is keeps read write log = absurd (read refl)
complete_from way WriteFault rest before after old new bytes session e few is keeps read write log = absurd (write refl)
complete_from way (LogFault c) rest before after old new bytes session e few is keeps read write log = absurd (log tt)
complete_from way (LogChanged c at) rest before after old new bytes session e few is keeps read write log =
    absurd (not_changed way session c at old new keeps
    (subst (λ (p : Plan). Stops way p (stops.LogChanged c at) old new) (same_session bytes session e.0.session rest is e.0.given) e.0.is))
complete_from way InputTooLong rest before after old new bytes session e few is keeps read write log = absurd (not_beyond most_input bytes rest e.0 few)
complete_from way (Session fault) rest before after old new bytes session e few is keeps read write log = absurd (not_refused bytes session rest fault is e.0)
complete_from way other rest before after old new bytes session e few is keeps read write log = absurd e
