-- A run that was raced can be driven on to its end.
use Rattle.std.proofs.Common.{◌≡◌, ℕ, Bool, IsTrue, List, [], ◌++◌, Option, Some, sym, subst, ◌∙◌}
use Rattle.catalogue.specs.Plan.{Plan}
use Rattle.catalogue.specs.declared.actor.Actor.{Actor}
use Rattle.fabric_model.specs.Laws.{IsReached}
use Rattle.fabric_model.specs.Rota.{driven_from}
use Rattle.fabric_model.specs.Run.{opening, state_behind, state_of}
use Rattle.fabric_model.specs.State.{State}
use Rattle.fabric_model.proofs.Driven.{runs_finish}
use Rattle.fabric_model.proofs.Either.{fits_now}
use Rattle.fabric_model.proofs.Legal.{holds_now}
use Rattle.fabric_model.proofs.Runs.{state_behind-append}
use Rattle.fabric_core.specs.Racks.{Rack}
use Rattle.fabric_core.specs.RecordTexts.{HasStopCause, LogsMatch}
use Rattle.fabric_core.specs.Running.{Running, state_in}
use Rattle.fabric_core.specs.declared.turn.End.{End}
use Rattle.race_run.specs.Raced.{EndsWith, IsRaced}
use Rattle.p4db_top.specs.declared.note.Note.{Note}
use Rattle.p4db_top.specs.declared.output.Output.{Output}
use Rattle.p4db_top.specs.Order.{MoveToTheEnd, Raced}
use Rattle.p4db_top.specs.Outputs.{output_text}
use Rattle.p4db_top.specs.Ran.{Closed, Ran}
use Rattle.p4db_top.proofs.EndedRun.{Ended, ran_of}

behind : (plan : Plan) (s after : State) (trace more : List Actor) → state_of plan trace ≡ Some s → state_behind plan s more ≡ Some after → state_of plan (trace ++ more) ≡ Some after
unfolding state_of
behind plan s after trace more run on = state_behind-append plan (opening plan) s after trace more run on

can_be_raced : (plan : Plan) (s : State) (trace : List Actor) → IsReached plan s → state_of plan trace ≡ Some s → MoveToTheEnd plan (trace ++ driven_from plan s [])
can_be_raced plan s trace reached run =
    let rest = runs_finish plan (fits_now plan (holds_now plan)) (holds_now plan) s [] reached in
    record { state = rest.after; run = behind plan s rest.after trace (driven_from plan s []) run rest.run; finished = rest.finished }

-- A world that was raced under a name and reported. `view` is what is seen of a rack, `back` the one that is handed back.
module _ {R : Type 0} (view : R → Rack) (plan name : Plan) (rack : R) (now : Running R) (end : End) (back : R) (kept : Bool) (faults : ℕ) where
  raced_ended : IsRaced name now end → (view rack).keeps ≡ kept → (view rack).faults ≡ faults → (IsTrue kept → LogsMatch now.plan (state_in now) now.stop (view back)) → HasStopCause now.plan (state_in now) now.stop faults (view back)
      → Ended Raced now end (view rack) (view back)
  raced_ended raced keeps counted logs cause = record {
    run = raced.moves;
    ended = raced.ends;
    left = driven_from now.plan (state_in now) [];
    whole = can_be_raced now.plan (state_in now) now.trace raced.reached raced.moves;
    full = λ f. record { state = state_in now; run = raced.moves; finished = (subst (EndsWith now) f raced.ends).0 };
    logs = λ k. logs (subst IsTrue keeps k);
    cause = subst (λ (n : ℕ). HasStopCause now.plan (state_in now) now.stop n (view back)) (sym counted) cause;
    beyond = tt;
  }

  pub raced_ran : IsRaced name now end → plan ≡ name → (view rack).keeps ≡ kept → (view rack).faults ≡ faults → (IsTrue kept → LogsMatch now.plan (state_in now) now.stop (view back)) → HasStopCause now.plan (state_in now) now.stop faults (view back)
      → (output : Output) (note : Note) (before after : Option (List ℕ)) → Closed note end (output_text output now.plan (state_in now) now.trace) before after → Ran Raced output note plan before after (view rack) (view back)
  raced_ran raced named keeps counted logs cause output note before after closed =
      ran_of Raced output now end (view rack) (view back) (raced_ended raced keeps counted logs cause) plan (raced.named ∙ sym named) note before after closed
