-- What stands behind the note of a session that was given and run.
use Rattle.std.proofs.Common.{◌≡◌, ◌⊎◌, ℕ, List, Option, true, inl, inr, refl, ap, subst, ◌∙◌}
use Rattle.std.specs.Io.KnownBytes.{Appends}
use Rattle.catalogue.specs.Plan.{Plan}
use Rattle.catalogue.specs.Sound.{IsSound}
use Rattle.fabric_model.specs.Driven.{has_no_loss}
use Rattle.fabric_model.specs.Laws.{IsReached}
use Rattle.fabric_core.specs.Racks.{Rack}
use Rattle.fabric_core.specs.declared.turn.Stop.TheVariants as stops
use Rattle.port_io.specs.WriteAll.{AppendsFront}
use Rattle.session_reader.specs.declared.fault.SessionFault.{SessionFault}
use Rattle.words_cli.specs.declared.command.Work.{Work}
use Rattle.p4db_top.specs.declared.note.Note.{Note}
use Rattle.p4db_top.specs.declared.note.Note.TheVariants.{Done, WriteFault, Session, LogFault, LogChanged, NoMemory}
use Rattle.p4db_top.specs.declared.output.Output.{Output}
use Rattle.p4db_top.specs.declared.output.Output.TheVariants.{Report, Summary}
use Rattle.p4db_top.specs.Headline.{IsRead, Explains, ExplainsRun, Headline, OfSession, WritesFront}
use Rattle.p4db_top.specs.Loads.{ExplainsDrive, IsLoad, load_plan, load_way}
use Rattle.p4db_top.specs.Logs.{IsLogFault, Stops, StopsShort}
use Rattle.p4db_top.specs.Order.{Way}
use Rattle.p4db_top.specs.Ran.{Ran, Reports}
use Rattle.p4db_top.proofs.Claims.{run_is_serial, run_is_once_each, aborts_have_causes, keeps_answers}
use Rattle.p4db_top.proofs.NoLoss.{no_loss}

module _ (way : Way) (output : Output) (IsGiven : Plan → Type 0) (before after : Option (List ℕ)) (old new : Rack) (session : Plan) (given : IsGiven session) where
  front_of : Reports way output (AppendsFront before after) session old new → WritesFront way IsGiven output before after old new
  front_of r = record { session = session; trace = r.trace; state = r.state; given = given; made = r.made; run = r.run; printed = r.printed; logs_match = r.logs }

  headline_of : IsSound session → Reports way output (Appends before after) session old new → Headline way IsGiven output before after old new
  headline_of sound r =
      let reached : IsReached session r.state = record { sound = sound; trace = r.trace; run = r.run } in record {
        session = session;
        trace = r.trace;
        state = r.state;
        given = given;
        made = r.made;
        run = r.run;
        printed = r.printed;
        serial = run_is_serial session r.state reached r.finished;
        once_each = run_is_once_each session r.trace r.state r.run reached r.finished;
        aborts_have_causes = aborts_have_causes session r.trace r.state r.run reached r.finished;
        answers_stand = keeps_answers session r.trace sound;
        logs_match = r.logs;
      }

  of_this : {Is : Plan → Type 0} → (after ≡ before) × Is session → OfSession IsGiven Is × (after ≡ before)
  of_this stop = (record { session = session; given = given; is = stop.1 }, stop.0)

  short_of : ((after ≡ before) × StopsShort way session old new) ⊎ Reports way output (AppendsFront before after) session old new → ExplainsRun way IsGiven output NoMemory before after old new
  short_of (inl short) = inl (of_this short)
  short_of (inr printed) = inr (front_of printed)

pub explained_by : (way : Way) (left rest before after : Option (List ℕ)) (old new : Rack) (session : Plan) → IsRead left rest session → (note : Note) → IsSound session → Ran way Report note session before after old new
    → Explains way note left rest before after old new
explained_by way left rest before after old new session read Done sound ran = headline_of way Report (IsRead left rest) before after old new session read sound ran
explained_by way left rest before after old new session read WriteFault sound ran = front_of way Report (IsRead left rest) before after old new session read ran
explained_by way left rest before after old new session read (LogFault c) sound ran = of_this way Report (IsRead left rest) before after old new session read ran
explained_by way left rest before after old new session read (LogChanged c at) sound ran = of_this way Report (IsRead left rest) before after old new session read ran
explained_by way left rest before after old new session read NoMemory sound (inl same) = inl ((read.bytes, read.taken.within, read.taken.taken), same.0, same.1)
explained_by way left rest before after old new session read NoMemory sound (inr ran) = inr (short_of way Report (IsRead left rest) before after old new session read ran)
explained_by way left rest before after old new session read other sound ran = absurd ran

-- no item of a generated session loses the switch, so no log is ever found changed
not_changed : (work : Work) (session : Plan) (c at : ℕ) (old new : Rack) → IsLoad work session → Stops (load_way work) session (stops.LogChanged c at) old new → ⊥
not_changed work session c at old new is stop = let none : has_no_loss session ≡ true = ap has_no_loss is ∙ no_loss work in let some = stop.cause.losses in cc (none, some)

pub drive_explained : (work : Work) (before after : Option (List ℕ)) (old new : Rack) (session : Plan) → IsLoad work session → (note : Note) → IsSound session → Ran (load_way work) Summary note session before after old new
    → ExplainsDrive work note before after old new
drive_explained work before after old new session is Done sound ran = headline_of (load_way work) Summary (IsLoad work) before after old new session is sound ran
drive_explained work before after old new session is WriteFault sound ran = front_of (load_way work) Summary (IsLoad work) before after old new session is ran
drive_explained work before after old new session is (LogFault c) sound ran = of_this (load_way work) Summary (IsLoad work) before after old new session is ran
drive_explained work before after old new session is (LogChanged c at) sound ran = not_changed work session c at old new is ran.1
drive_explained work before after old new session is NoMemory sound (inl same) = inl same
drive_explained work before after old new session is NoMemory sound (inr ran) = inr (short_of (load_way work) Summary (IsLoad work) before after old new session is ran)
drive_explained work before after old new session is other sound ran = absurd ran

-- a generated session is run, unless a call failed or memory ran out
pub drive_complete : (work : Work) (note : Note) (before after : Option (List ℕ)) (old new : Rack) → ExplainsDrive work note before after old new → (note ≡ WriteFault → ⊥) → (IsLogFault note → ⊥) → (note ≡ Done) ⊎ (note ≡ NoMemory)
drive_complete work Done before after old new e write log = inl refl
drive_complete work NoMemory before after old new e write log = inr refl
drive_complete work WriteFault before after old new e write log = absurd (write refl)
drive_complete work (LogFault c) before after old new e write log = absurd (log tt)
drive_complete work other before after old new e write log = absurd e

-- a run is refused for no fault of its text
pub ran_is_no_fault : (way : Way) (output : Output) (note : Note) (before after : Option (List ℕ)) (old new : Rack) (session : Plan) (fault : SessionFault) → Ran way output note session before after old new → note ≡ Session fault → ⊥
ran_is_no_fault way output note before after old new session fault ran is = subst (λ (n : Note). Ran way output n session before after old new) is ran
