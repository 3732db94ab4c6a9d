-- Where a world stands that was begun for a session and driven.
use Rattle.std.proofs.Common.{◌≡◌, ℕ, Bool, IsTrue, List, [], ◌++◌, length, append-nil, Option, Some, None, refl, sym, ap, subst, ◌∙◌}
use Rattle.catalogue.specs.Plan.{Plan}
use Rattle.catalogue.specs.declared.actor.Actor.{Actor}
use Rattle.fabric_model.specs.Rota.{driven, driven_from}
use Rattle.fabric_model.specs.Run.{opening, state_now, state_of}
use Rattle.fabric_model.specs.State.{State}
use Rattle.fabric_core.specs.Racks.{Rack, StaysFrom}
use Rattle.fabric_core.specs.RecordTexts.{HasStopCause, LogsMatch}
use Rattle.fabric_core.specs.Running.{Running, state_in}
use Rattle.fabric_core.specs.Turns.{EndsAs, EndsFrom, IsEnd, IsDone, Halts}
use Rattle.fabric_core.specs.declared.turn.End.{End}
use Rattle.fabric_core.specs.declared.turn.End.TheVariants as ends
use Rattle.fabric_core.specs.declared.turn.Stop.{Stop}
use Rattle.fabric_core.specs.declared.turn.Stop.TheVariants as stops
use Rattle.race_run.specs.Raced.{EndsWith}
use Rattle.p4db_top.specs.declared.note.Note.{Note}
use Rattle.p4db_top.specs.declared.output.Output.{Output}
use Rattle.p4db_top.specs.Order.{Driven}
use Rattle.p4db_top.specs.Outputs.{output_text}
use Rattle.p4db_top.specs.Ran.{Closed, Ran}
use Rattle.p4db_top.proofs.EndedRun.{Ended, ran_of}

at_first : (plan : Plan) → state_now plan [] ≡ opening plan
unfolding state_of
at_first plan = refl

-- a run of nothing yet
abbrev pub first_run : {R : Type 0} → Plan → R → Running R
first_run plan rack = record { plan = plan; trace = []; stop = None; rack = rack }

pub stays_on : (n : ℕ) (a b c : Rack) → StaysFrom n a b → StaysFrom n b c → StaysFrom n a c
stays_on n a b c one two d from = two d from ∙ one d from

-- A run of the plan ended so that was to make these moves: it made some, from the first on, and all where it finished.
pub record Stands {R : Type 0} (plan : Plan) (now : Running R) (moves : List Actor) (end : End) : Type 0 where
  pub same : now.plan ≡ plan
  pub left : List Actor
  pub whole : now.trace ++ left ≡ moves
  pub full : end ≡ ends.Finished → now.trace ≡ moves
  pub ended : EndsWith now end

module _ {R : Type 0} (plan : Plan) (begun now : Running R) (moves : List Actor) (is : begun ≡ first_run plan begun.rack) where
  whole_run : IsDone begun now moves → now ≡ record { plan = plan; trace = moves; stop = None; rack = now.rack }
  whole_run done = done.run ∙ ap (λ (r : Running R). record { plan = r.plan; trace = r.trace ++ moves; stop = r.stop; rack = now.rack }) is

  part_run : (stop : Option Stop) (halts : Halts begun now moves stop) → now ≡ record { plan = plan; trace = halts.made; stop = stop; rack = now.rack }
  part_run stop halts = halts.run ∙ ap (λ (r : Running R). record { plan = r.plan; trace = r.trace ++ halts.made; stop = stop; rack = now.rack }) is

  finished : IsDone begun now moves → Stands plan now moves ends.Finished
  finished done =
      let e = whole_run done in record {
        same = ap (λ (r : Running R). r.plan) e;
        left = [];
        whole = append-nil now.trace ∙ ap (λ (r : Running R). r.trace) e;
        full = λ _. ap (λ (r : Running R). r.trace) e;
        ended = (done.finished, ap (λ (r : Running R). r.stop) e);
      }

  halted : (stop : Option Stop) (end : End) → Halts begun now moves stop → (end ≡ ends.Finished → ⊥) → (now.stop ≡ stop → EndsWith now end) → Stands plan now moves end
  halted stop end halts not ended =
      let e = part_run stop halts in record {
        same = ap (λ (r : Running R). r.plan) e;
        left = halts.left;
        whole = ap (λ (r : Running R). r.trace ++ halts.left) e ∙ halts.parts;
        full = λ f. absurd (not f);
        ended = ended (ap (λ (r : Running R). r.stop) e);
      }

  stands_as : (old new : Rack) (end : End) → EndsAs begun now old new moves end → Stands plan now moves end
  stands_as old new ends.Finished e = finished e.0
  stands_as old new (ends.LogFault c) e = halted (Some (stops.LogFault c)) (ends.LogFault c) e.0 (λ f. cc) (λ s. s)
  stands_as old new (ends.LogChanged c at) e = halted (Some (stops.LogChanged c at)) (ends.LogChanged c at) e.0 (λ f. cc) (λ s. s)
  stands_as old new ends.NoMemory e = halted None ends.NoMemory e.0 (λ f. cc) (λ s. s)

module _ {R : Type 0} (plan : Plan) (begun now : Running R) (old new : Rack) (actors : List Actor) (end : End) (is : begun ≡ first_run plan begun.rack) (ended : IsEnd begun now old new (driven_from begun.plan (state_in begun) actors) end) where
  moves_are : driven_from begun.plan (state_in begun) actors ≡ driven plan actors
  moves_are = ap (λ (r : Running R). driven_from r.plan (state_in r) actors) is ∙ ap (λ (s : State). driven_from plan s actors) (at_first plan)

  ends_as : EndsAs begun now old new (driven plan actors) end
  ends_as =
      subst (λ (moves : List Actor). EndsAs begun now old new moves end) moves_are
      (subst (λ (stop : Option Stop). EndsFrom stop begun now old new (driven_from begun.plan (state_in begun) actors) end) (ap (λ (r : Running R). r.stop) is) ended.ends)

  pub stands : Stands plan now (driven plan actors) end
  stands = stands_as plan begun now (driven plan actors) is old new end ends_as

  pub beyond : (first : Rack) → StaysFrom (length plan.clients) first old → StaysFrom (length plan.clients) first new
  beyond first apart = stays_on (length plan.clients) first old new apart (subst (λ (p : Plan). StaysFrom (length p.clients) old new) (ap (λ (r : Running R). r.plan) is) ended.beyond)

-- A world that was begun for a plan, with the rack that was handed in, driven by these actors, and reported. `view` is what is seen of
-- a rack, `back` the one that is handed back.
module _ {R : Type 0} (view : R → Rack) (listed : Plan → List Actor) (plan : Plan) (rack : R) (begun now : Running R) (actors : List Actor) (end : End) (back : R) (kept : Bool) (faults : ℕ) where
  driven_ended : Stands plan now (driven plan actors) end → actors ≡ listed plan → state_of now.plan now.trace ≡ Some (state_in now) → StaysFrom (length plan.clients) (view rack) (view back) → (view rack).keeps ≡ kept → (view rack).faults ≡ faults
      → (IsTrue kept → LogsMatch now.plan (state_in now) now.stop (view back)) → HasStopCause now.plan (state_in now) now.stop faults (view back) → Ended (Driven listed) now end (view rack) (view back)
  driven_ended s these run apart keeps counted logs cause =
      let moves : driven plan actors ≡ driven now.plan (listed now.plan) = ap (driven plan) these ∙ sym (ap (λ (p : Plan). driven p (listed p)) s.same) in record {
        run = run;
        ended = s.ended;
        left = s.left;
        whole = s.whole ∙ moves;
        full = λ f. s.full f ∙ moves;
        logs = λ k. logs (subst IsTrue keeps k);
        cause = subst (λ (n : ℕ). HasStopCause now.plan (state_in now) now.stop n (view back)) (sym counted) cause;
        beyond = subst (λ (p : Plan). StaysFrom (length p.clients) (view rack) (view back)) (sym s.same) apart;
      }

  pub driven_ran : begun ≡ first_run plan begun.rack → IsEnd begun now (view begun.rack) (view now.rack) (driven_from begun.plan (state_in begun) actors) end → actors ≡ listed plan → StaysFrom (length plan.clients) (view rack) (view begun.rack)
      → state_of now.plan now.trace ≡ Some (state_in now) → back ≡ now.rack → (view rack).keeps ≡ kept → (view rack).faults ≡ faults → (IsTrue kept → LogsMatch now.plan (state_in now) now.stop (view back)) → HasStopCause now.plan (state_in now) now.stop faults (view back)
      → (output : Output) (note : Note) (before after : Option (List ℕ)) → Closed note end (output_text output now.plan (state_in now) now.trace) before after → Ran (Driven listed) output note plan before after (view rack) (view back)
  driven_ran is ended these apart run handed keeps counted logs cause output note before after closed =
      let s = stands plan begun now (view begun.rack) (view now.rack) actors end is ended in
      let all = subst (λ (r : R). StaysFrom (length plan.clients) (view rack) (view r)) (sym handed) (beyond plan begun now (view begun.rack) (view now.rack) actors end is ended (view rack) apart) in
      ran_of (Driven listed) output now end (view rack) (view back) (driven_ended s these run all keeps counted logs cause) plan s.same note before after closed
