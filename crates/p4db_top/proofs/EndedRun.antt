-- What a run that has ended, and was reported, says of its session.
use Rattle.std.proofs.Common.{◌≡◌, ℕ, List, ◌++◌, length, Option, Some, None, IsTrue, inl, inr, refl, subst}
use Rattle.port_io.specs.Cause.{Rose}
use Rattle.catalogue.specs.Plan.{Plan}
use Rattle.catalogue.specs.declared.actor.Actor.{Actor}
use Rattle.fabric_model.specs.Run.{state_of}
use Rattle.fabric_core.specs.Racks.{Rack}
use Rattle.fabric_core.specs.RecordTexts.{HasStopCause, LogsMatch}
use Rattle.fabric_core.specs.Running.{Running, state_in}
use Rattle.fabric_core.specs.declared.turn.BeginFault.{BeginFault}
use Rattle.fabric_core.specs.declared.turn.BeginFault.TheVariants as begins
use Rattle.fabric_core.specs.declared.turn.End.{End}
use Rattle.fabric_core.specs.declared.turn.End.TheVariants as ends
use Rattle.fabric_core.specs.declared.turn.Stop.{Stop}
use Rattle.fabric_core.specs.declared.turn.Stop.TheVariants as stops
use Rattle.race_run.specs.Raced.{EndsWith}
use Rattle.p4db_top.specs.declared.note.Note.{Note}
use Rattle.p4db_top.specs.declared.note.Note.TheVariants.{Done, WriteFault, LogFault, LogChanged, NoMemory}
use Rattle.p4db_top.specs.declared.output.Output.{Output}
use Rattle.p4db_top.specs.Logs.{HasLogCause, HasLogs, MakesSome, Stops}
use Rattle.p4db_top.specs.Order.{Way, IsMade, LeavesOthers}
use Rattle.p4db_top.specs.Outputs.{output_text}
use Rattle.p4db_top.specs.Ran.{begin_note, Closed, Ran, Reports}

-- The trace of the run is the front of one that comes about in this way, and all of it where the run has finished. `new` is the
-- rack that is handed back.
pub record Ended {R : Type 0} (way : Way) (now : Running R) (end : End) (old new : Rack) : Type 0 where
  pub run : state_of now.plan now.trace ≡ Some (state_in now)
  pub ended : EndsWith now end
  pub left : List Actor
  pub whole : IsMade way now.plan (now.trace ++ left)
  pub full : end ≡ ends.Finished → IsMade way now.plan now.trace
  pub logs : IsTrue old.keeps → LogsMatch now.plan (state_in now) now.stop new
  pub cause : HasStopCause now.plan (state_in now) now.stop old.faults new
  pub beyond : LeavesOthers way (length now.plan.clients) old new

module _ {R : Type 0} (way : Way) (output : Output) (now : Running R) (end : End) (old new : Rack) (e : Ended way now end old new) where
  some : MakesSome way now.plan (state_in now)
  some = record { made = now.trace; left = e.left; whole = e.whole; run = e.run }

  logs_of : now.stop ≡ None → HasLogs way now.plan (state_in now) old new
  logs_of none = record { told = λ k. subst (λ (o : Option Stop). LogsMatch now.plan (state_in now) o new) none (e.logs k); beyond = e.beyond }

  stops_by : (stop : Stop) → now.stop ≡ Some stop → Stops way now.plan stop old new
  stops_by stop is = record {
    state = state_in now;
    some = some;
    cause = subst (λ (o : Option Stop). HasStopCause now.plan (state_in now) o old.faults new) is e.cause;
    told = λ k. subst (λ (o : Option Stop). LogsMatch now.plan (state_in now) o new) is (e.logs k);
    beyond = e.beyond;
  }

  ends_as : (other : End) → end ≡ other → EndsWith now other
  ends_as other same = subst (EndsWith now) same e.ended

  reports : (IsWritten : List ℕ → Type 0) → end ≡ ends.Finished → IsWritten (output_text output now.plan (state_in now) now.trace) → Reports way output IsWritten now.plan old new
  reports IsWritten same written =
      let done = ends_as ends.Finished same in record {
        trace = now.trace;
        state = state_in now;
        made = e.full same;
        run = e.run;
        finished = done.0;
        printed = written;
        logs = logs_of done.1;
      }

  ran_now : (note : Note) (before after : Option (List ℕ)) → Closed note end (output_text output now.plan (state_in now) now.trace) before after → Ran way output note now.plan before after old new
  ran_now Done before after c = reports _ c.0 c.1
  ran_now WriteFault before after c = reports _ c.0 c.1
  ran_now (LogFault client) before after c = (c.1, inr (stops_by (stops.LogFault client) (ends_as (ends.LogFault client) c.0)))
  ran_now (LogChanged client at) before after c = (c.1, stops_by (stops.LogChanged client at) (ends_as (ends.LogChanged client at) c.0))
  ran_now NoMemory before after (inl c) = inr (inl (c.1, record { state = state_in now; some = some; logs = logs_of (ends_as ends.NoMemory c.0) }))
  ran_now NoMemory before after (inr c) = inr (inr (reports _ c.0 c.1))
  ran_now other before after c = absurd c

  pub ran_of : (plan : Plan) → now.plan ≡ plan → (note : Note) (before after : Option (List ℕ)) → Closed note end (output_text output now.plan (state_in now) now.trace) before after → Ran way output note plan before after old new
  ran_of plan same note before after c = subst (λ (p : Plan). Ran way output note p before after old new) same (ran_now note before after c)

-- a run that did not begin says of the rack's count what its fault does
pub begin_cause : (fault : BeginFault) (before now : ℕ) → ((c : ℕ) → fault ≡ begins.LogFault c → Rose before now) → (fault ≡ begins.NoMemory → now ≡ before) → HasLogCause before now (begin_note fault)
begin_cause (begins.LogFault c) before now rose same = record { rose = λ _. rose c refl; still = λ n. absurd (n tt) }
begin_cause begins.NoMemory before now rose same = record { rose = λ f. absurd f; still = λ _. same refl }
