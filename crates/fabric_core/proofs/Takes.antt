-- Actors that take their turns one after another, and rotas that drive a run to its end.
use Rattle.std.proofs.Common.{◌≡◌, ◌⊎◌, ◌↔◌, ℕ, zero, suc, ◌+◌, ◌-◌, ◌<◌, ◌≤◌, Bool, true, false, List, [], ◌∷◌, ◌++◌, append-nil, append_assoc, map, length, get_or, drop, is_some, unwrap_or, Option, Some, None, Result, Ok, Err, IsTrue, if◌then◌else◌, inl, inr, refl, sym, ap, ap₂, subst, ◌∙◌, arith}
use Rattle.std.specs.List.{range_with_len}
use Rattle.std.specs.Prelude.{reverse}
use Rattle.std.proofs.Math.ListN.{drop_of_length-le}
use Rattle.std.proofs.Math.Seq.{drop-cons}
use Rattle.std.proofs.lemmas.List.{reverse-append}
use Rattle.port_io.specs.Cause.{Rose}
use Rattle.catalogue.specs.Plan.{Plan}
use Rattle.catalogue.specs.declared.actor.Actor.{Actor}
use Rattle.catalogue.specs.declared.actor.Actor.TheVariants.{Client, Port, Stage}
use Rattle.fabric_model.specs.Bound.{moves_left}
use Rattle.fabric_model.specs.Driven.{IsFinished, IsRound}
use Rattle.fabric_model.specs.Laws.{IsReached}
use Rattle.core_model.specs.Rota.{numbers_below, rota, rotas}
use Rattle.fabric_model.specs.Bound.{move_bound}
use Rattle.fabric_model.specs.Rota.{all_finished, after_turns, driven_from, moved_by, movers}
use Rattle.fabric_model.specs.Run.{opening, state_of}
use Rattle.fabric_model.specs.State.{State}
use Rattle.fabric_model.specs.Step.{step}
use Rattle.fabric_model.proofs.Driven.{finished_by_test, reached_turns, round_of, state_of_parts}
use Rattle.fabric_model.proofs.Either.{fits_now}
use Rattle.fabric_model.proofs.Legal.{holds_now}
use Rattle.fabric_model.proofs.Turns.{behind_turns, driven_parts, movers-append, movers_done, turns_are}
use Rattle.fabric_core.specs.Racks.{Rack, StaysFrom}
use Rattle.fabric_core.specs.RecordTexts.{IsFirstChange}
use Rattle.fabric_core.specs.Running.{Running, state_in, stopped, taken, with_moves}
use Rattle.fabric_core.specs.Taken.{EndsWith, IsTaken, IsTakenOn, end_with}
use Rattle.fabric_core.specs.Turns.{EndsAs, EndsFrom, Halts, HasChanged, HasFailed, HasMoved, HasNoMemory, IsEnd, IsTurn, end_of}
use Rattle.fabric_core.specs.declared.turn.End.{End}
use Rattle.fabric_core.specs.declared.turn.End.TheVariants as ends
use Rattle.fabric_core.specs.declared.turn.Halt.{Halt}
use Rattle.fabric_core.specs.declared.turn.Halt.TheVariants as halts
use Rattle.fabric_core.specs.declared.turn.Stop.{Stop}
use Rattle.fabric_core.specs.declared.turn.Stop.TheVariants as stops
use Rattle.fabric_core.specs.declared.turn.Turn.{Turn}
use Rattle.fabric_core.specs.declared.turn.Turn.TheVariants as turns
use Rattle.fabric_core.proofs.Unused.{switch_rests}
use Rattle.fabric_core.proofs.Worlds.{IsRun, change_still}

no_moves : {R : Type 0} (run : Running R) → with_moves run [] run.rack ≡ run
no_moves run = ap (λ (l : List Actor). record { plan = run.plan; trace = l; stop = run.stop; rack = run.rack }) (append-nil run.trace)

more_moves : {R : Type 0} (run : Running R) (moves more : List Actor) (r q : R) → with_moves (with_moves run moves q) more r ≡ with_moves run (moves ++ more) r
more_moves run moves more r q = ap (λ (l : List Actor). record { plan = run.plan; trace = l; stop = run.stop; rack = r }) (append_assoc run.trace moves more)

made_turns : {R : Type 0} (run : Running R) (actors : List Actor) → IsRun run → state_of run.plan (run.trace ++ movers run.plan (state_in run) actors) ≡ Some (after_turns run.plan (state_in run) actors)
made_turns run actors is =
    state_of_parts run.plan run.trace (movers run.plan (state_in run) actors) (state_in run) is.made ∙ behind_turns run.plan (state_in run) actors

pub taken_state : {R : Type 0} (run : Running R) (actors : List Actor) (r : R) → IsRun run → state_in (taken run actors r) ≡ after_turns run.plan (state_in run) actors
taken_state run actors r is = ap (λ (o : Option State). unwrap_or o (opening run.plan)) (made_turns run actors is)

pub taken_run : {R : Type 0} (run : Running R) (actors : List Actor) (r : R) → IsRun run → IsRun (taken run actors r)
taken_run run actors r is = record {
  reached = subst (IsReached run.plan) (sym (taken_state run actors r is)) (reached_turns run.plan (state_in run) actors is.reached);
  made = made_turns run actors is ∙ ap Some (sym (taken_state run actors r is));
}

-- the test of whether all clients have finished
finished_test : (s : State) (b : Bool) → IsTrue b ↔ IsFinished s → all_finished s ≡ b
finished_test s true same = (finished_by_test s).1 (same.0 refl)
finished_test s false same = by (all_finished s) refl
  where
    by : (f : Bool) → all_finished s ≡ f → f ≡ false
    by false e = refl
    by true e = let clash : false ≡ true = same.1 ((finished_by_test s).0 e) in cc

-- an actor is taken only where not all clients have finished
pub taken_none : {R : Type 0} (run : Running R) (rack : Rack) (actor : Actor) (b : Bool) → IsTrue b ↔ IsFinished (state_in run) → b ≡ true → IsTaken run run rack rack (actor ∷ []) (Ok tt)
taken_none run rack actor b same is = record {
  takes = (sym (ap (λ (l : List Actor). with_moves run l run.rack) (movers_done run.plan (state_in run) (actor ∷ []) (finished_test (state_in run) b same ∙ is)) ∙ no_moves run), refl);
  beyond = λ d le. refl;
}

-- it moves, or it can't
one_mover : (plan : Plan) (s : State) (actor : Actor) (b : Bool) → IsTrue b ↔ IsFinished s → b ≡ false → movers plan s (actor ∷ []) ≡ moved_by plan s actor ++ []
one_mover plan s actor b same is = ap (λ (f : Bool). if f then [] else moved_by plan s actor ++ []) (finished_test s b same ∙ is)

pub taken_moved : {R : Type 0} (before after : Running R) (old new : Rack) (actor : Actor) (b : Bool) → IsTrue b ↔ IsFinished (state_in before) → b ≡ false → HasMoved before after old new actor → IsTaken before after old new (actor ∷ []) (Ok tt)
taken_moved before after old new actor b same is m = record {
  takes = (m.run ∙ sym (ap (λ (l : List Actor). with_moves before l after.rack) (one_mover before.plan (state_in before) actor b same is ∙ ap (λ (f : Bool). (if f then actor ∷ [] else []) ++ []) m.step)), m.faults);
  beyond = m.beyond;
}

pub taken_idle : {R : Type 0} (before after : Running R) (old new : Rack) (actor : Actor) (b : Bool) → IsTrue b ↔ IsFinished (state_in before) → b ≡ false → step before.plan (state_in before) actor ≡ None → after ≡ before → new.faults ≡ old.faults
    → StaysFrom (length before.plan.clients) old new → IsTaken before after old new (actor ∷ []) (Ok tt)
taken_idle before after old new actor b same is rests unchanged faults beyond = record {
  takes = (unchanged ∙ sym (ap (λ (l : List Actor). with_moves before l after.rack) (one_mover before.plan (state_in before) actor b same is ∙ ap (λ (o : Option State). (if is_some o then actor ∷ [] else []) ++ []) rests) ∙ rack_back), faults);
  beyond = beyond;
}
  where
    rack_back : with_moves before [] after.rack ≡ before
    rack_back = ap (λ (r : Running _). with_moves before [] r.rack) unchanged ∙ no_moves before

-- it stopped, or memory ran out, before its move
halts_at_once : {R : Type 0} (before after : Running R) (moves : List Actor) (stop : Option Stop) → after ≡ stopped before stop after.rack → Halts before after moves stop
halts_at_once before after moves stop is = record {
  made = [];
  left = moves;
  parts = refl;
  run = is ∙ ap (λ (l : List Actor). record { plan = before.plan; trace = l; stop = stop; rack = after.rack }) (sym (append-nil before.trace));
}

pub taken_failed : {R : Type 0} (before after : Running R) (old new : Rack) (actor : Actor) (c : ℕ) → HasFailed before after old new actor c → IsTaken before after old new (actor ∷ []) (Err (halts.LogFault c))
taken_failed before after old new actor c f = record { takes = (halts_at_once before after (movers before.plan (state_in before) (actor ∷ [])) (Some (stops.LogFault c)) f.run, f.rose); beyond = f.beyond }

pub taken_changed : {R : Type 0} (before after : Running R) (old new : Rack) (actor : Actor) (c at : ℕ) → HasChanged before after old new actor c at → IsTaken before after old new (actor ∷ []) (Err (halts.LogChanged c at))
taken_changed before after old new actor c at h = record {
  takes = (halts_at_once before after (movers before.plan (state_in before) (actor ∷ [])) (Some (stops.LogChanged c at)) h.run, change, h.stays.faults);
  beyond = λ d le. h.stays.told d;
}
  where
    change : IsFirstChange after.plan (state_in after) c at new
    change = subst (λ (r : Running _). IsFirstChange r.plan (state_in r) c at new) (sym h.run) (change_still before.plan (state_in before) c at old new h.stays.told h.change)

pub taken_no_memory : {R : Type 0} (before after : Running R) (old new : Rack) (actor : Actor) → before.stop ≡ None → HasNoMemory before after old new actor → IsTaken before after old new (actor ∷ []) (Err halts.NoMemory)
taken_no_memory before after old new actor goes n = record { takes = (halts_at_once before after (movers before.plan (state_in before) (actor ∷ [])) None at_stop, n.stays.faults); beyond = λ d le. n.stays.told d }
  where
    at_stop : after ≡ stopped before None after.rack
    at_stop = n.run ∙ ap₂ (λ (l : List Actor) (o : Option Stop). record { plan = before.plan; trace = l; stop = o; rack = after.rack }) (append-nil before.trace) goes

-- by what its turn answered
pub taken_turn : {R : Type 0} (before after : Running R) (old new : Rack) (actor : Actor) (turn : Turn) (b : Bool) → IsTrue b ↔ IsFinished (state_in before) → b ≡ false → IsTurn before after old new actor turn → (turn ≡ turns.Moved) ⊎ (turn ≡ turns.Idle)
    → (after ≡ before → new ≡ old) → IsTaken before after old new (actor ∷ []) (Ok tt)
taken_turn before after old new actor turn b same is t (inl e) racks = taken_moved before after old new actor b same is (subst (IsTurn before after old new actor) e t)
taken_turn before after old new actor turn b same is t (inr e) racks =
    let rests = subst (IsTurn before after old new actor) e t in
    taken_idle before after old new actor b same is rests.0 rests.1 (ap (λ (r : Rack). r.faults) (racks rests.1)) (λ d le. ap (λ (r : Rack). r.told d) (racks rests.1))

pub turn_failed : {R : Type 0} (before after : Running R) (old new : Rack) (actor : Actor) (turn : Turn) → IsTurn before after old new actor turn → (c : ℕ) → turn ≡ turns.LogFault c → IsTaken before after old new (actor ∷ []) (Err (halts.LogFault c))
turn_failed before after old new actor turn t c e = taken_failed before after old new actor c (subst (IsTurn before after old new actor) e t)

pub turn_changed : {R : Type 0} (before after : Running R) (old new : Rack) (actor : Actor) (turn : Turn) → IsTurn before after old new actor turn → (c at : ℕ) → turn ≡ turns.LogChanged c at → IsTaken before after old new (actor ∷ []) (Err (halts.LogChanged c at))
turn_changed before after old new actor turn t c at e = taken_changed before after old new actor c at (subst (IsTurn before after old new actor) e t)

pub turn_lacks : {R : Type 0} (before after : Running R) (old new : Rack) (actor : Actor) (turn : Turn) → IsTurn before after old new actor turn → before.stop ≡ None → turn ≡ turns.NoMemory → IsTaken before after old new (actor ∷ []) (Err halts.NoMemory)
turn_lacks before after old new actor turn t goes e = taken_no_memory before after old new actor goes (subst (IsTurn before after old new actor) e t)

-- ---- part of what is to be made

-- some of the moves were made, and these are left
pub record IsBehind {R : Type 0} (left whole : List Actor) (old now : Running R) (before after : Rack) : Type 0 where
  pub run : IsRun now
  pub goes : now.stop ≡ None
  pub made : List Actor
  pub is : now ≡ with_moves old made now.rack
  pub parts : made ++ left ≡ whole
  pub faults : after.faults ≡ before.faults
  pub beyond : StaysFrom (length old.plan.clients) before after

same_plan : {R : Type 0} (old now : Running R) (made : List Actor) → now ≡ with_moves old made now.rack → now.plan ≡ old.plan
same_plan old now made is = ap (λ (r : Running _). r.plan) is

behind_first : {R : Type 0} (left whole : List Actor) (old : Running R) (rack : Rack) → IsRun old → old.stop ≡ None → left ≡ whole → IsBehind left whole old old rack rack
behind_first left whole old rack run goes same = record { run = run; goes = goes; made = []; is = sym (no_moves old); parts = same; faults = refl; beyond = λ d le. refl }

-- some more were made
behind_next : {R : Type 0} (part more left whole : List Actor) (old now next : Running R) (first before after : Rack) → IsBehind left whole old now first before → left ≡ part ++ more → IsRun next → next ≡ with_moves now part next.rack
    → after.faults ≡ before.faults → StaysFrom (length now.plan.clients) before after → IsBehind more whole old next first after
behind_next part more left whole old now next first before after b split run is faults beyond = record {
  run = run;
  goes = ap (λ (r : Running _). r.stop) is ∙ b.goes;
  made = b.made ++ part;
  is = is ∙ ap (λ (r : Running _). with_moves r part next.rack) b.is ∙ more_moves old b.made part next.rack now.rack;
  parts = append_assoc b.made part more ∙ ap (λ (l : List Actor). b.made ++ l) (sym split) ∙ b.parts;
  faults = faults ∙ b.faults;
  beyond = λ d le. beyond d (subst (λ (p : Plan). length p.clients ≤ d) (sym (same_plan old now b.made b.is)) le) ∙ b.beyond d le;
}

-- some more were made, and then the turns ended
behind_halts : {R : Type 0} (part more left whole : List Actor) (old now next : Running R) (stop : Option Stop) (first before : Rack) → IsBehind left whole old now first before → left ≡ part ++ more → Halts now next part stop → Halts old next whole stop
behind_halts part more left whole old now next stop first before b split h = record {
  made = b.made ++ h.made;
  left = h.left ++ more;
  parts = parts;
  run = h.run ∙ ap (λ (r : Running _). record { plan = r.plan; trace = r.trace ++ h.made; stop = stop; rack = next.rack }) b.is
      ∙ ap (λ (l : List Actor). record { plan = old.plan; trace = l; stop = stop; rack = next.rack }) (append_assoc old.trace b.made h.made);
}
  where
    parts : (b.made ++ h.made) ++ (h.left ++ more) ≡ whole
    parts =
        append_assoc b.made h.made (h.left ++ more)
        ∙ ap (λ (l : List Actor). b.made ++ l) (sym (append_assoc h.made h.left more) ∙ ap (λ (l : List Actor). l ++ more) h.parts ∙ sym split)
        ∙ b.parts

behind_ends : {R : Type 0} (part more left whole : List Actor) (old now next : Running R) (halt : Halt) (first before after : Rack) → IsBehind left whole old now first before → left ≡ part ++ more → EndsWith now next before after part halt → EndsWith old next first after whole halt
behind_ends part more left whole old now next (halts.LogFault c) first before after b split e =
    (behind_halts part more left whole old now next (Some (stops.LogFault c)) first before b split e.0, subst (λ (n : ℕ). Rose n after.faults) b.faults e.1)
behind_ends part more left whole old now next (halts.LogChanged c at) first before after b split e = (behind_halts part more left whole old now next (Some (stops.LogChanged c at)) first before b split e.0, e.1, e.2 ∙ b.faults)
behind_ends part more left whole old now next halts.NoMemory first before after b split e = (behind_halts part more left whole old now next None first before b split e.0, e.1 ∙ b.faults)

behind_done : {R : Type 0} (whole : List Actor) (old now : Running R) (first before : Rack) → IsBehind [] whole old now first before → now ≡ with_moves old whole now.rack
behind_done whole old now first before b = b.is ∙ ap (λ (l : List Actor). with_moves old l now.rack) (sym (append-nil b.made) ∙ b.parts)

-- ---- actors that are taken in order

-- the movers of those that are still to come are left
abbrev pub IsTaking : {R : Type 0} (rest all : List Actor) (old now : Running R) (before after : Rack) → Type 0
IsTaking rest all old now before after = IsBehind (movers now.plan (state_in now) rest) (movers old.plan (state_in old) all) old now before after

pub taking_begins : {R : Type 0} (rest all : List Actor) (old : Running R) (rack : Rack) → rest ≡ all → IsRun old → old.stop ≡ None → IsTaking rest all old old rack rack
taking_begins rest all old rack same is goes = behind_first _ _ old rack is goes (ap (movers old.plan (state_in old)) same)

module _ {R : Type 0} (part rest more all : List Actor) (old now next : Running R) (first before after : Rack) (split : more ≡ part ++ rest) (is : IsTaking more all old now first before) where
  left_is : movers now.plan (state_in now) more ≡ movers now.plan (state_in now) part ++ movers now.plan (after_turns now.plan (state_in now) part) rest
  left_is = ap (movers now.plan (state_in now)) split ∙ movers-append now.plan (state_in now) part rest

  -- a part of them is taken
  pub taking_next : IsTaken now next before after part (Ok tt) → IsTaking rest all old next first after
  taking_next t = subst (λ (l : List Actor). IsBehind l (movers old.plan (state_in old) all) old next first after) (sym left_next)
      (behind_next _ _ _ _ old now next first before after is left_is run t.takes.0 t.takes.1 t.beyond)
    where
      run : IsRun next
      run = subst (λ (r : Running R). IsRun r) (sym t.takes.0) (taken_run now part next.rack is.run)

      left_next : movers next.plan (state_in next) rest ≡ movers now.plan (after_turns now.plan (state_in now) part) rest
      left_next = ap (λ (r : Running R). movers r.plan (state_in r) rest) t.takes.0 ∙ ap (λ (s : State). movers now.plan s rest) (taken_state now part next.rack is.run)

  -- or their turns ended early
  pub taking_ends : (halt : Halt) → IsTaken now next before after part (Err halt) → IsTaken old next first after all (Err halt)
  taking_ends halt t = record {
    takes = behind_ends _ _ _ _ old now next halt first before after is left_is t.takes;
    beyond = λ d le. t.beyond d (subst (λ (p : Plan). length p.clients ≤ d) (sym (same_plan old now is.made is.is)) le) ∙ is.beyond d le;
  }

pub taking_done : {R : Type 0} (rest all : List Actor) (old now : Running R) (first before : Rack) → rest ≡ [] → IsTaking rest all old now first before → IsTaken old now first before all (Ok tt)
taking_done rest all old now first before none is = record {
  takes = (behind_done _ old now first before (subst (λ (l : List Actor). IsBehind (movers now.plan (state_in now) l) (movers old.plan (state_in old) all) old now first before) none is), is.faults);
  beyond = is.beyond;
}

-- none of those that are left can move
pub taking_resting : {R : Type 0} (rest all : List Actor) (old now : Running R) (first before : Rack) → movers now.plan (state_in now) rest ≡ [] → IsTaking rest all old now first before → IsTaken old now first before all (Ok tt)
taking_resting rest all old now first before none is = record {
  takes = (behind_done _ old now first before (subst (λ (l : List Actor). IsBehind l (movers old.plan (state_in old) all) old now first before) none is), is.faults);
  beyond = is.beyond;
}

-- the next one of them
pub taking_one : {R : Type 0} (actor : Actor) (rest more all : List Actor) (old now next : Running R) (first before after : Rack) → more ≡ actor ∷ rest → IsTaking more all old now first before → IsTaken now next before after (actor ∷ []) (Ok tt) → IsTaking rest all old next first after
taking_one actor rest more all old now next first before after split is t = taking_next (actor ∷ []) rest more all old now next first before after split is t

pub taking_ends_one : {R : Type 0} (actor : Actor) (rest more all : List Actor) (old now next : Running R) (first before after : Rack) → more ≡ actor ∷ rest → IsTaking more all old now first before → (halt : Halt) → IsTaken now next before after (actor ∷ []) (Err halt) → IsTaken old next first after all (Err halt)
taking_ends_one actor rest more all old now next first before after split is halt t = taking_ends (actor ∷ []) rest more all old now next first before after split is halt t

-- further actors of the session, by the plan that the run has by then
module _ {R : Type 0} (part rest : Plan → List Actor) (all : List Actor) (old now next : Running R) (first before after : Rack) (is : IsTaking (part old.plan ++ rest old.plan) all old now first before) where
  by_plan : (result : Result (Unit {0}) Halt) → IsTaken now next before after (part now.plan) result → IsTaken now next before after (part old.plan) result
  by_plan result t = subst (λ (p : Plan). IsTaken now next before after (part p) result) (same_plan old now is.made is.is) t

  pub rota_next : IsTaken now next before after (part now.plan) (Ok tt) → IsTaking (rest old.plan) all old next first after
  rota_next t = taking_next (part old.plan) (rest old.plan) _ all old now next first before after refl is (by_plan (Ok tt) t)

  pub rota_ends : (halt : Halt) → IsTaken now next before after (part now.plan) (Err halt) → IsTaken old next first after all (Err halt)
  rota_ends halt t = taking_ends (part old.plan) (rest old.plan) _ all old now next first before after refl is halt (by_plan (Err halt) t)

  -- where no others are left
  pub rota_last : rest old.plan ≡ [] → (result : Result (Unit {0}) Halt) → IsTaken now next before after (part now.plan) result → IsTaken old next first after all result
  rota_last none (Ok done) t = taking_done (rest old.plan) all old next first after none (rota_next t)
  rota_last none (Err halt) t = rota_ends halt t

-- the actors of a rota
abbrev pub clients_in : Plan → List Actor
clients_in plan = map Client (numbers_below (length plan.clients))

abbrev pub ports_in : Plan → List Actor
ports_in plan = map Port (numbers_below (length plan.clients))

abbrev pub stages_in : Plan → List Actor
stages_in plan = map Stage (reverse (numbers_below plan.shape.stages))

-- where no tuple is in the switch, the turns of the clients are the whole
pub taking_unused : {R : Type 0} (all : List Actor) (old now : Running R) (first before : Rack) → now.plan.layout ≡ [] → IsTaking (ports_in old.plan ++ stages_in old.plan) all old now first before → IsTaken old now first before all (Ok tt)
taking_unused all old now first before none is =
    taking_resting _ all old now first before (switch_rests now.plan none (state_in now) is.run.reached (numbers_below (length old.plan.clients)) (reverse (numbers_below old.plan.shape.stages))) is

-- the stages are the last
pub rota_whole : {R : Type 0} (all : List Actor) (old now next : Running R) (first before after : Rack) → IsTaking (stages_in old.plan) all old now first before → (result : Result (Unit {0}) Halt) → IsTaken now next before after (stages_in now.plan) result
    → IsTaken old next first after all result
rota_whole all old now next first before after is = rota_last stages_in (λ plan. []) all old now next first before after
    (subst (λ (l : List Actor). IsTaking l all old now first before) (sym (append-nil (stages_in old.plan))) is) refl

pub taking_plan : {R : Type 0} (rest all : List Actor) (old now : Running R) (first before : Rack) → IsTaking rest all old now first before → now.plan ≡ old.plan
taking_plan rest all old now first before is = same_plan old now is.made is.is

-- the first of the numbered actors that are left, and of those in falling order; and the first of a list from a place on
pub numbered_next : (named : ℕ → Actor) (n i : ℕ) → i < n → map named (range_with_len i (n - i)) ≡ named i ∷ map named (range_with_len (i + 1) (n - (i + 1)))
numbered_next named n i lt = ap (λ (k : ℕ). map named (range_with_len i k)) {x = n - i} {y = suc (n - (i + 1))} (omega arith)

pub none_numbered : (named : ℕ → Actor) (n i : ℕ) → n ≤ i → map named (range_with_len i (n - i)) ≡ []
none_numbered named n i le = ap (λ (k : ℕ). map named (range_with_len i k)) {x = n - i} {y = 0} (omega (arith, le))

pub none_back : (named : ℕ → Actor) (i : ℕ) → i ≤ 0 → map named (reverse (numbers_below i)) ≡ []
none_back named i le = ap (λ (k : ℕ). map named (reverse (numbers_below k))) {x = i} {y = 0} (omega (arith, le))

pub none_listed : (actors : List Actor) (i : ℕ) → length actors ≤ i → drop i actors ≡ []
none_listed actors i le = drop_of_length-le actors le

range_more : (a k : ℕ) → range_with_len a (suc k) ≡ range_with_len a k ++ (a + k) ∷ []
range_more a zero = ap (λ (n : ℕ). n ∷ []) {x = a} {y = a + 0} (omega arith)
range_more a (suc k) = ap (λ (l : List ℕ). a ∷ l) (range_more (a + 1) k) ∙ ap (λ (n : ℕ). a ∷ (range_with_len (a + 1) k ++ n ∷ [])) {x = (a + 1) + k} {y = a + suc k} (omega arith)

numbers_back : (k : ℕ) → reverse (numbers_below (suc k)) ≡ k ∷ reverse (numbers_below k)
numbers_back k = ap reverse (range_more 0 k) ∙ reverse-append (numbers_below k) ((0 + k) ∷ []) ∙ ap (λ (n : ℕ). n ∷ reverse (numbers_below k)) {x = 0 + k} {y = k} (omega arith)

pub numbered_back : (named : ℕ → Actor) (i : ℕ) → 0 < i → map named (reverse (numbers_below i)) ≡ named (i - 1) ∷ map named (reverse (numbers_below (i - 1)))
numbered_back named i some = ap (λ (k : ℕ). map named (reverse (numbers_below k))) {x = i} {y = suc (i - 1)} (omega arith) ∙ ap (map named) (numbers_back (i - 1))

pub listed_next : (actors : List Actor) (i : ℕ) (d : Actor) → i < length actors → drop i actors ≡ get_or actors i d ∷ drop (i + 1) actors
listed_next actors i d lt = drop-cons actors i d lt ∙ ap (λ (k : ℕ). get_or actors i d ∷ drop k actors) {x = suc i} {y = i + 1} (omega arith)

-- ---- rotas

-- where the rota is taken again and again, taking it once more first changes nothing
round_on : (plan : Plan) (s : State) → IsReached plan s → all_finished s ≡ false → driven_from plan s [] ≡ movers plan s (rota plan) ++ driven_from plan (after_turns plan s (rota plan)) []
round_on plan s reached more =
    let round : IsRound plan s = round_of plan (fits_now plan (holds_now plan)) (holds_now plan) s reached more in
    round.driven ∙ ap (λ (z : State). movers plan s (rota plan) ++ driven_from plan z []) (sym (turns_are plan s round.next (rota plan) round.run))

driven_done : (plan : Plan) (s : State) → all_finished s ≡ true → driven_from plan s [] ≡ []
unfolding driven_from
driven_done plan s done = movers_done plan s (rotas plan (move_bound plan)) done

-- the moves of a run that is driven to its end, of which some were made
abbrev pub IsDriving : {R : Type 0} (old now : Running R) (before after : Rack) → Type 0
IsDriving old now before after = IsBehind (driven_from now.plan (state_in now) []) (driven_from old.plan (state_in old) []) old now before after

pub driving_begins : {R : Type 0} (old : Running R) (rack : Rack) → IsRun old → old.stop ≡ None → IsDriving old old rack rack
driving_begins old rack is goes = behind_first _ _ old rack is goes refl

module _ {R : Type 0} (old now next : Running R) (first before after : Rack) (b : Bool) (is : IsDriving old now first before) (test : IsTrue b ↔ IsFinished (state_in now)) (more : b ≡ false) where
  rest_is : driven_from now.plan (state_in now) [] ≡ movers now.plan (state_in now) (rota now.plan) ++ driven_from now.plan (after_turns now.plan (state_in now) (rota now.plan)) []
  rest_is = round_on now.plan (state_in now) is.run.reached (finished_test (state_in now) b test ∙ more)

  pub driving_round : IsTaken now next before after (rota now.plan) (Ok tt) → IsDriving old next first after
  driving_round t = subst (λ (l : List Actor). IsBehind l (driven_from old.plan (state_in old) []) old next first after) (sym left_next)
      (behind_next _ _ _ _ old now next first before after is rest_is run t.takes.0 t.takes.1 t.beyond)
    where
      run : IsRun next
      run = subst (λ (r : Running R). IsRun r) (sym t.takes.0) (taken_run now (rota now.plan) next.rack is.run)

      left_next : driven_from next.plan (state_in next) [] ≡ driven_from now.plan (after_turns now.plan (state_in now) (rota now.plan)) []
      left_next = ap (λ (r : Running R). driven_from r.plan (state_in r) []) t.takes.0 ∙ ap (λ (s : State). driven_from now.plan s []) (taken_state now (rota now.plan) next.rack is.run)

  pub driving_stops : (halt : Halt) → IsTaken now next before after (rota now.plan) (Err halt) → IsTakenOn old next first after (Err halt)
  driving_stops halt t = record {
    takes = behind_ends _ _ _ _ old now next halt first before after is rest_is t.takes;
    beyond = λ d le. t.beyond d (subst (λ (p : Plan). length p.clients ≤ d) (sym (same_plan old now is.made is.is)) le) ∙ is.beyond d le;
  }

  pub driving_lessens : IsTaken now next before after (rota now.plan) (Ok tt) → moves_left next.plan (state_in next) < moves_left now.plan (state_in now)
  driving_lessens t =
      let plan = now.plan in
      let s = state_in now in
      let round : IsRound plan s = round_of plan (fits_now plan (holds_now plan)) (holds_now plan) s is.run.reached (finished_test s b test ∙ more) in
      subst (λ (r : Running R). moves_left r.plan (state_in r) < moves_left plan s) (sym t.takes.0)
      (subst (λ (z : State). moves_left plan z < moves_left plan s) (sym (taken_state now (rota plan) next.rack is.run ∙ turns_are plan s round.next (rota plan) round.run)) round.fewer)

pub driving_ends : {R : Type 0} (old now : Running R) (first before : Rack) (b : Bool) → IsDriving old now first before → IsTrue b ↔ IsFinished (state_in now) → b ≡ true → IsTakenOn old now first before (Ok tt)
driving_ends old now first before b is test done = record {
  takes = (
    record {
      run = behind_done _ old now first before (subst (λ (l : List Actor). IsBehind l (driven_from old.plan (state_in old) []) old now first before) (driven_done now.plan (state_in now) (finished_test (state_in now) b test ∙ done)) is);
      finished = test.0 done;
    },
    is.faults,
  );
  beyond = is.beyond;
}

-- ---- how runs end

-- a run that did not stop ends as its rotas do
pub ended_on : {R : Type 0} (old now : Running R) (first last : Rack) → old.stop ≡ None → IsTakenOn old now first last (Ok tt) → IsEnd old now first last (driven_from old.plan (state_in old) []) ends.Finished
ended_on old now first last goes t = record { ends = subst (λ (o : Option Stop). EndsFrom o old now first last (driven_from old.plan (state_in old) []) ends.Finished) (sym goes) t.takes; beyond = t.beyond }

ends_early : {R : Type 0} (old now : Running R) (first last : Rack) (moves : List Actor) (halt : Halt) → EndsWith old now first last moves halt → EndsAs old now first last moves (end_with halt)
ends_early old now first last moves (halts.LogFault c) e = e
ends_early old now first last moves (halts.LogChanged c at) e = e
ends_early old now first last moves halts.NoMemory e = e

pub halted_on : {R : Type 0} (old now : Running R) (first last : Rack) (halt : Halt) (end : End) → old.stop ≡ None → end ≡ end_with halt → IsTakenOn old now first last (Err halt) → IsEnd old now first last (driven_from old.plan (state_in old) []) end
halted_on old now first last halt end goes same t = record {
  ends = subst (λ (o : Option Stop). EndsFrom o old now first last (driven_from old.plan (state_in old) []) end) (sym goes)
      (subst (EndsAs old now first last (driven_from old.plan (state_in old) [])) (sym same) (ends_early old now first last _ halt t.takes));
  beyond = t.beyond;
}

-- one that had stopped ends as it did
pub ended_before : {R : Type 0} (old : Running R) (rack : Rack) (moves : List Actor) (stop : Stop) (end : End) → old.stop ≡ Some stop → end ≡ end_of stop → IsEnd old old rack rack moves end
ended_before old rack moves stop end was same = record { ends = subst (λ (o : Option Stop). EndsFrom o old old rack rack moves end) (sym was) (same, refl); beyond = λ d le. refl }

module _ {R : Type 0} (old now : Running R) (first before : Rack) (actors : List Actor) (run : IsRun old) (goes : old.stop ≡ None) where
  whole : driven_from old.plan (state_in old) actors ≡ movers old.plan (state_in old) actors ++ driven_from old.plan (after_turns old.plan (state_in old) actors) []
  whole = driven_parts old.plan (state_in old) actors

  begun : IsBehind (driven_from old.plan (state_in old) actors) (driven_from old.plan (state_in old) actors) old old first first
  begun = behind_first _ _ old first run goes refl

  -- the actors' turns ended early
  pub halted_first : (halt : Halt) (end : End) → end ≡ end_with halt → IsTaken old now first before actors (Err halt) → IsEnd old now first before (driven_from old.plan (state_in old) actors) end
  halted_first halt end same t = record {
    ends = subst (λ (o : Option Stop). EndsFrom o old now first before (driven_from old.plan (state_in old) actors) end) (sym goes)
        (subst (EndsAs old now first before (driven_from old.plan (state_in old) actors)) (sym same)
        (ends_early old now first before _ halt (behind_ends _ _ _ _ old old now halt first first before begun whole t.takes)));
    beyond = t.beyond;
  }

  -- all of them had their turns, and then the run was finished
  pub finished_then : (last : Running R) (after : Rack) (end : End) → IsTaken old now first before actors (Ok tt) → IsEnd now last before after (driven_from now.plan (state_in now) []) end → IsEnd old last first after (driven_from old.plan (state_in old) actors) end
  finished_then last after end t e = record {
    ends = subst (λ (o : Option Stop). EndsFrom o old last first after (driven_from old.plan (state_in old) actors) end) (sym goes) (by end (subst (λ (o : Option Stop). EndsFrom o now last before after (driven_from now.plan (state_in now) []) end) (ap (λ (r : Running R). r.stop) t.takes.0 ∙ goes) e.ends));
    beyond = λ d le. e.beyond d (subst (λ (r : Running R). length r.plan.clients ≤ d) (sym t.takes.0) le) ∙ t.beyond d le;
  }
    where
      left_now : driven_from now.plan (state_in now) [] ≡ driven_from old.plan (after_turns old.plan (state_in old) actors) []
      left_now = ap (λ (r : Running R). driven_from r.plan (state_in r) []) t.takes.0 ∙ ap (λ (s : State). driven_from old.plan s []) (taken_state old actors now.rack run)

      run_now : IsRun now
      run_now = subst (λ (r : Running R). IsRun r) (sym t.takes.0) (taken_run old actors now.rack run)

      behind : IsBehind (driven_from now.plan (state_in now) []) (driven_from old.plan (state_in old) actors) old now first before
      behind = subst (λ (l : List Actor). IsBehind l (driven_from old.plan (state_in old) actors) old now first before) (sym left_now)
          (behind_next _ _ _ _ old old now first first before begun whole run_now t.takes.0 t.takes.1 t.beyond)

      none_left : driven_from now.plan (state_in now) [] ≡ driven_from now.plan (state_in now) [] ++ []
      none_left = sym (append-nil (driven_from now.plan (state_in now) []))

      by : (x : End) → EndsAs now last before after (driven_from now.plan (state_in now) []) x → EndsAs old last first after (driven_from old.plan (state_in old) actors) x
      by ends.Finished d = (record { run = d.0.run ∙ ap (λ (r : Running R). with_moves r (driven_from now.plan (state_in now) []) last.rack) behind.is ∙ more_moves old behind.made _ last.rack now.rack ∙ ap (λ (l : List Actor). with_moves old l last.rack) behind.parts; finished = d.0.finished }, d.1 ∙ behind.faults)
      by (ends.LogFault c) h = (behind_halts _ [] _ _ old now last (Some (stops.LogFault c)) first before behind none_left h.0, subst (λ (n : ℕ). Rose n after.faults) behind.faults h.1)
      by (ends.LogChanged c at) h = (behind_halts _ [] _ _ old now last (Some (stops.LogChanged c at)) first before behind none_left h.0, h.1, h.2 ∙ behind.faults)
      by ends.NoMemory h = (behind_halts _ [] _ _ old now last None first before behind none_left h.0, h.1 ∙ behind.faults)
