-- What is known of each world, and how its moves keep that.
use Rattle.std.proofs.Common.{◌≡◌, ◌⊎◌, ℕ, zero, suc, ◌+◌, ◌<◌, ◌≤◌, List, [], ◌∷◌, ◌++◌, append-nil, map, length, length-append, get_or, unwrap_or, Option, Some, None, IsTrue, IfSome, is_some, inl, inr, refl, sym, ap, subst, ◌∙◌, arith}
use Rattle.port_io.specs.Cause.{Rose}
use Rattle.intent_log.specs.Told.{DifferAt, IsTold}
use Rattle.txn_model.specs.Listed.{Listed}
use Rattle.catalogue.specs.Plan.{Plan, PlainItem}
use Rattle.catalogue.specs.Sound.{IsSound, IsActor}
use Rattle.catalogue.specs.declared.actor.Actor.{Actor}
use Rattle.catalogue.specs.declared.actor.Actor.TheVariants.{Client, Recover}
use Rattle.fabric_model.specs.Bound.{move_bound}
use Rattle.fabric_model.specs.Laws.{IsReached}
use Rattle.fabric_model.specs.Run.{opening, state_of, state_now}
use Rattle.fabric_model.specs.State.{State, log_at, no_records}
use Rattle.fabric_model.proofs.Either.{fits_now}
use Rattle.fabric_model.proofs.Legal.{holds_now, holds_up}
use Rattle.fabric_model.proofs.MovesLeft.{fewer_moves, moves_bounded}
use Rattle.fabric_model.proofs.Runs.{moves_are_the_trace, one_more}
use Rattle.fabric_model.proofs.SmallBounds.{small_bound}
use Rattle.fabric_core.specs.CoreTurns.{Fails, FailsToRead, FindsChange, IsTurnOf, LacksMemory, Moves}
use Rattle.fabric_core.specs.Kept.{IsKept}
use Rattle.fabric_core.specs.Racks.{Rack}
use Rattle.fabric_core.specs.RecordTexts.{AreAsRecorded, HasStopCause, IsFirstChange, IsLogged, LogsMatch, TellsAll, text_of}
use Rattle.fabric_core.specs.Running.{Running, state_in}
use Rattle.fabric_core.specs.Standing.{StandsFor, IsTurnIn, Follows}
use Rattle.fabric_core.specs.declared.core_state.CoreState.{CoreState}
use Rattle.fabric_core.specs.Turns.{HasChanged, HasFailed, IsTurn}
use Rattle.fabric_core.specs.declared.turn.Stop.{Stop}
use Rattle.fabric_core.specs.declared.turn.Stop.TheVariants.{LogFault, LogChanged}
use Rattle.fabric_core.specs.declared.turn.Turn.{Turn}
use Rattle.fabric_core.specs.declared.turn.Turn.TheVariants.{Moved, Idle, NoMemory}
use Rattle.fabric_core.specs.declared.turn.Turn.TheVariants as Turns
use Rattle.fabric_core.proofs.NoLoss.{loses_somewhere}

-- the run of a sound session
pub record IsRun {R : Type 0} (run : Running R) : Type 0 where
  pub reached : IsReached run.plan (state_in run)
  pub made : state_of run.plan run.trace ≡ Some (state_in run)

-- no client has a record at the opening
no_text : (plan : Plan) (c : ℕ) → text_of (log_at (opening plan) c) ≡ []
unfolding opening
no_text plan c = ap text_of (get_or-map_same plan.clients c)
  where
    get_or-map_same : (lists : List (List PlainItem)) (i : ℕ) → get_or (map (λ items. no_records) lists) i no_records ≡ no_records
    get_or-map_same [] i = refl
    get_or-map_same (x ∷ lists) zero = refl
    get_or-map_same (x ∷ lists) (suc i) = get_or-map_same lists i

-- in a rack that tells all logs as the text of their records none has changed
pub never_changed : (plan : Plan) (s : State) (c at : ℕ) (rack : Rack) → IsFirstChange plan s c at rack → TellsAll plan s rack → ⊥
never_changed plan s c at rack change tells = same (text_of (log_at s c)) (subst (λ (o : Option (List ℕ)). IfSome o (λ log. DifferAt log (text_of (log_at s c)) at)) (tells c change.within) change.differs)
  where
    same : (text : List ℕ) → DifferAt text text at → ⊥
    same text d = d.differ refl

-- logs that are told as they were stand to the records as they did
pub recorded_still : (s : State) (c : ℕ) (old new : Rack) → ((d : ℕ) → new.told d ≡ old.told d) → AreAsRecorded s c old → AreAsRecorded s c new
recorded_still s c old new stay below d lt = subst (λ (o : Option (List ℕ)). IsTold o (text_of (log_at s d))) (sym (stay d)) (below d lt)

pub change_still : (plan : Plan) (s : State) (c at : ℕ) (old new : Rack) → ((d : ℕ) → new.told d ≡ old.told d) → IsFirstChange plan s c at old → IsFirstChange plan s c at new
change_still plan s c at old new stay change = record {
  lost = change.lost;
  within = change.within;
  below = recorded_still s c old new stay change.below;
  differs = subst (λ (o : Option (List ℕ)). IfSome o (λ log. DifferAt log (text_of (log_at s c)) at)) (sym (stay c)) change.differs;
}

-- a world that begins
pub kept_first : (session plan : Plan) (faults : ℕ) (Kept : Type 0) (core : CoreState) (trace : Listed Actor) (rack : Rack) → plan ≡ session → IsSound plan → StandsFor plan (opening plan) core → trace.items ≡ [] → move_bound plan ≤ trace.spare
    → (Kept → IsTrue rack.keeps) → (Kept → (c : ℕ) → c < length plan.clients → rack.told c ≡ Some []) → rack.faults ≡ faults → IsKept session plan faults Kept core trace None rack
unfolding state_of
kept_first session plan faults Kept core trace rack named sound stands empty space keeps logs counted =
    let run : state_of plan trace.items ≡ Some (opening plan) = ap (state_of plan) empty in
    let now : state_now plan trace.items ≡ opening plan = ap (λ (o : Option State). unwrap_or o (opening plan)) run in
    record {
      named = named;
      sound = sound;
      run = run ∙ ap Some (sym now);
      stands = subst (λ (s : State). StandsFor plan s core) (sym now) stands;
      space = omega (arith, space);
      logged = subst (λ (s : State). IsLogged plan s None faults Kept rack) (sym now) (record { keeps = keeps; logs = λ k c lt. logs k c lt ∙ ap Some (sym (no_text plan c)); cause = counted });
    }

module _ {session plan : Plan} {faults : ℕ} {Kept : Type 0} {core : CoreState} {trace : Listed Actor} {stop : Option Stop} {rack : Rack} (kept : IsKept session plan faults Kept core trace stop rack) where
  pub is_reached : IsReached plan (state_now plan trace.items)
  is_reached = record { sound = kept.sound; trace = trace.items; run = kept.run }

  pub is_run : {R : Type 0} (stop : Option Stop) (rack : R) → IsRun (record { plan = plan; trace = trace.items; stop = stop; rack = rack })
  is_run stop rack = record { reached = is_reached; made = kept.run }

  -- as many moves were made as the trace has, and they are few
  pub is_short : length trace.items ≤ 2039808
  is_short =
      let s = state_now plan trace.items in
      omega (arith, moves_bounded plan (fits_now plan (holds_now plan)) (holds_up plan) s is_reached, small_bound plan kept.sound, moves_are_the_trace plan trace.items s kept.run)

  -- each actor can take its turn
  pub its_turn : (actor : Actor) (at : ℕ) → IsActor plan actor → at ≡ length trace.items → IsTurnIn plan core actor at (state_now plan trace.items)
  its_turn actor at within is = record {
    reached = is_reached;
    stands = kept.stands;
    within = within;
    moves = moves_are_the_trace plan trace.items (state_now plan trace.items) kept.run ∙ sym is;
  }

  -- where an actor moves, there is room for its move
  pub has_room : (actor : Actor) (after : CoreState) (new : Rack) → Moves plan (state_now plan trace.items) actor after rack new → 1 ≤ trace.spare
  has_room actor after new m =
      let s = state_now plan trace.items in
      omega (arith, moves_are_the_trace plan trace.items s kept.run, moves_bounded plan (fits_now plan (holds_now plan)) (holds_up plan) s is_reached, fewer_moves plan (fits_now plan (holds_now plan)) (holds_up plan) s m.follows.next actor is_reached m.follows.step, kept.space)

  -- the state behind an actor's move
  moved_to : (actor : Actor) (after : CoreState) (follows : Follows plan (state_now plan trace.items) actor after) → state_of plan (trace.items ++ actor ∷ []) ≡ Some follows.next
  moved_to actor after follows = one_more plan trace.items actor (state_now plan trace.items) follows.next kept.run follows.step

  -- a world that has not stopped
  module _ (goes : stop ≡ None) where
    tells : Kept → TellsAll plan (state_now plan trace.items) rack
    tells k = subst (λ (o : Option Stop). LogsMatch plan (state_now plan trace.items) o rack) goes (kept.logged.logs k)

    counted : rack.faults ≡ faults
    counted = subst (λ (o : Option Stop). HasStopCause plan (state_now plan trace.items) o faults rack) goes kept.logged.cause

    -- what is kept behind an actor's move
    pub kept_moved : (actor : Actor) (after : CoreState) (longer : Listed Actor) (new : Rack) → Moves plan (state_now plan trace.items) actor after rack new → longer.items ≡ trace.items ++ actor ∷ [] → longer.spare + 1 ≡ trace.spare
        → IsKept session plan faults Kept after longer stop new
    kept_moved actor after longer new m items spare =
        let run : state_of plan longer.items ≡ Some m.follows.next = ap (state_of plan) items ∙ moved_to actor after m.follows in
        let now : state_now plan longer.items ≡ m.follows.next = ap (λ (o : Option State). unwrap_or o (opening plan)) run in
        record {
          named = kept.named;
          sound = kept.sound;
          run = run ∙ ap Some (sym now);
          stands = subst (λ (s : State). StandsFor plan s after) (sym now) m.follows.stands;
          space = omega (arith, kept.space, spare, ap length items, length-append trace.items (actor ∷ []));
          logged = subst (λ (o : Option Stop). IsLogged plan (state_now plan longer.items) o faults Kept new) (sym goes) (subst (λ (s : State). IsLogged plan s None faults Kept new) (sym now) (record {
            keeps = λ k. m.keeps (kept.logged.keeps k);
            logs = λ k. m.logs (kept.logged.keeps k) (tells k);
            cause = m.faults ∙ counted;
          }));
        }

    -- where it goes on to stand, with other records in the making
    kept_stopped : (why : Option Stop) (after : CoreState) (new : Rack) → StandsFor plan (state_now plan trace.items) after → IsLogged plan (state_now plan trace.items) why faults Kept new → IsKept session plan faults Kept after trace why new
    kept_stopped why after new stands logged = record {
      named = kept.named;
      sound = kept.sound;
      run = kept.run;
      stands = stands;
      space = kept.space;
      logged = logged;
    }

    rises : (new : Rack) → Rose rack.faults new.faults → Rose faults new.faults
    rises new rose = subst (λ (n : ℕ). Rose n new.faults) counted rose

    -- where its record could not be appended, or the logs could not be read
    pub kept_failed : (actor : Actor) (c : ℕ) (after : CoreState) (new : Rack) → ((actor ≡ Client c) × Fails plan (state_now plan trace.items) c after rack new) ⊎ ((actor ≡ Recover) × FailsToRead plan (state_now plan trace.items) c after rack new)
        → IsKept session plan faults Kept after trace (Some (LogFault c)) new
    kept_failed actor c after new (inl f) = kept_stopped (Some (LogFault c)) after new f.1.stands (record {
      keeps = λ k. f.1.keeps (kept.logged.keeps k);
      logs = λ k. inl (f.1.logs (kept.logged.keeps k) (tells k));
      cause = record { within = f.1.within; cause = inl (record { text = f.1.text; adds = f.1.adds }); rose = rises new f.1.rose };
    })
    kept_failed actor c after new (inr f) = kept_stopped (Some (LogFault c)) after new f.1.stands (record {
      keeps = λ k. f.1.keeps (kept.logged.keeps k);
      logs = λ k. inr (f.1.compares.lost, λ d lt. f.1.stays d (omega arith) ∙ tells k d lt);
      cause = record {
        within = f.1.within;
        cause = inr (record { lost = f.1.compares.lost; below = recorded_still (state_now plan trace.items) c rack new (λ d. f.1.stays d (omega arith)) f.1.compares.below });
        rose = rises new f.1.rose;
      };
    })

    -- where a log has changed
    pub kept_changed : (c at : ℕ) (after : CoreState) (new : Rack) → FindsChange plan (state_now plan trace.items) c at after rack new → IsKept session plan faults Kept after trace (Some (LogChanged c at)) new
    kept_changed c at after new f = kept_stopped (Some (LogChanged c at)) after new f.stands (record {
      keeps = λ k. f.keeps (kept.logged.keeps k);
      logs = λ k. never_changed plan (state_now plan trace.items) c at rack f.change (tells k);
      cause = record {
        losses = loses_somewhere plan (state_now plan trace.items) is_reached f.change.lost;
        change = change_still plan (state_now plan trace.items) c at rack new f.stays.told f.change;
        counted = f.stays.faults ∙ counted;
      };
    })

    -- where there was no memory for its move
    pub kept_lacking : (actor : Actor) (after : CoreState) (new : Rack) → LacksMemory plan (state_now plan trace.items) actor after rack new → IsKept session plan faults Kept after trace stop new
    kept_lacking actor after new l = kept_stopped stop after new l.stands (subst (λ (o : Option Stop). IsLogged plan (state_now plan trace.items) o faults Kept new) (sym goes) (record {
      keeps = λ k. l.keeps (kept.logged.keeps k);
      logs = λ k d lt. l.stays.told d ∙ tells k d lt;
      cause = l.stays.faults ∙ counted;
    }))

    -- where it can't move, or there was no memory for its move
    pub kept_rest : (actor : Actor) (after : CoreState) (new : Rack) (turn : Turn) → IsTurnOf plan (state_now plan trace.items) actor core after rack new turn → (turn ≡ Idle) ⊎ (turn ≡ NoMemory) → (turn ≡ Idle → new ≡ rack)
        → IsKept session plan faults Kept after trace stop new
    kept_rest actor after new turn t (inl e) same =
        let rests = subst (IsTurnOf plan (state_now plan trace.items) actor core after rack new) e t in
        subst (λ (k : CoreState). IsKept session plan faults Kept k trace stop new) (sym rests.1) (subst (IsKept session plan faults Kept core trace stop) (sym (same e)) kept)
    kept_rest actor after new turn t (inr e) same =
        let lacks = subst (IsTurnOf plan (state_now plan trace.items) actor core after rack new) e t in
        kept_lacking actor after new lacks

  -- what a turn says of the run, with these racks
  module _ {R : Type 0} (r q : R) (actor : Actor) (after : CoreState) (new : Rack) (turn : Turn) (t : IsTurnOf plan (state_now plan trace.items) actor core after rack new turn) where
    pub moves : turn ≡ Moved → Moves plan (state_now plan trace.items) actor after rack new
    moves e = subst (IsTurnOf plan (state_now plan trace.items) actor core after rack new) e t

    pub fails : (c : ℕ) → turn ≡ Turns.LogFault c → ((actor ≡ Client c) × Fails plan (state_now plan trace.items) c after rack new) ⊎ ((actor ≡ Recover) × FailsToRead plan (state_now plan trace.items) c after rack new)
    fails c e = subst (IsTurnOf plan (state_now plan trace.items) actor core after rack new) e t

    pub changes : (c at : ℕ) → turn ≡ Turns.LogChanged c at → (actor ≡ Recover) × FindsChange plan (state_now plan trace.items) c at after rack new
    changes c at e = subst (IsTurnOf plan (state_now plan trace.items) actor core after rack new) e t

    abbrev run : Running R
    run = record { plan = plan; trace = trace.items; stop = stop; rack = r }

    pub says_moved : turn ≡ Moved → (longer : List Actor) → longer ≡ trace.items ++ actor ∷ [] → IsTurn run (record { plan = plan; trace = longer; stop = stop; rack = q }) rack new actor turn
    says_moved e longer items =
        let m = moves e in
        subst (IsTurn run (record { plan = plan; trace = longer; stop = stop; rack = q }) rack new actor) (sym e) (record {
          step = ap is_some m.follows.step;
          compared = m.compared;
          run = ap (λ (l : List Actor). record { plan = plan; trace = l; stop = stop; rack = q }) items;
          faults = m.faults;
          beyond = m.beyond;
        })

    pub says_failed : (c : ℕ) → turn ≡ Turns.LogFault c → HasFailed run (record { plan = plan; trace = trace.items; stop = Some (LogFault c); rack = q }) rack new actor c
    says_failed c e = by (fails c e)
      where
        by : ((actor ≡ Client c) × Fails plan (state_now plan trace.items) c after rack new) ⊎ ((actor ≡ Recover) × FailsToRead plan (state_now plan trace.items) c after rack new)
            → HasFailed run (record { plan = plan; trace = trace.items; stop = Some (LogFault c); rack = q }) rack new actor c
        by (inl f) = record { turn = inl f.0; within = f.1.within; run = refl; rose = f.1.rose; beyond = f.1.beyond }
        by (inr f) = record { turn = inr (f.0, f.1.compares); within = f.1.within; run = refl; rose = f.1.rose; beyond = λ d le. f.1.stays d (omega arith) }

    pub says_changed : (c at : ℕ) → turn ≡ Turns.LogChanged c at → HasChanged run (record { plan = plan; trace = trace.items; stop = Some (LogChanged c at); rack = q }) rack new actor c at
    says_changed c at e =
        let f = changes c at e in
        record { turn = f.0; change = f.1.change; run = refl; stays = f.1.stays }

    pub says_rest : (turn ≡ Idle) ⊎ (turn ≡ NoMemory) → (turn ≡ Idle → q ≡ r) → IsTurn run (record { plan = plan; trace = trace.items; stop = stop; rack = q }) rack new actor turn
    says_rest (inl e) same =
        let rests = subst (IsTurnOf plan (state_now plan trace.items) actor core after rack new) e t in
        subst (IsTurn run (record { plan = plan; trace = trace.items; stop = stop; rack = q }) rack new actor) (sym e) (rests.0, ap (λ (x : R). record { plan = plan; trace = trace.items; stop = stop; rack = x }) (same e))
    says_rest (inr e) same =
        let lacks = subst (IsTurnOf plan (state_now plan trace.items) actor core after rack new) e t in
        subst (IsTurn run (record { plan = plan; trace = trace.items; stop = stop; rack = q }) rack new actor) (sym e) (record {
          takes = lacks.takes;
          run = ap (λ (l : List Actor). record { plan = plan; trace = l; stop = stop; rack = q }) (sym (append-nil trace.items));
          stays = lacks.stays;
        })
