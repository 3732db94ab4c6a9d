-- Actors that are taken in order: how the turns of one list and of another behind it are put together.
use Rattle.std.proofs.Common.{◌≡◌, ◌≤◌, Bool, true, false, List, [], ◌∷◌, ◌++◌, append_assoc, length, unwrap_or, Option, Some, None, IsSome, is_some, refl, sym, ap, subst, ◌∙◌, arith, if◌then◌else◌, inl, inr, ◌⊎◌}
use Rattle.std.specs.Option.{option_and_then}
use Rattle.catalogue.specs.Plan.{Plan}
use Rattle.catalogue.specs.declared.actor.Actor.{Actor}
use Rattle.core_model.specs.Rota.{rotas}
use Rattle.core_model.proofs.Turns.{IsAmong}
use Rattle.fabric_model.specs.Bound.{move_bound}
use Rattle.fabric_model.specs.Driven.{TakesInTurn}
use Rattle.fabric_model.specs.Rota.{all_finished, after_turn, after_turns, moved_by, movers, driven_from}
use Rattle.fabric_model.specs.Run.{state_behind}
use Rattle.fabric_model.specs.State.{State}
use Rattle.fabric_model.specs.Step.{step}

pub movers_done : (plan : Plan) (s : State) (actors : List Actor) → all_finished s ≡ true → movers plan s actors ≡ []
movers_done plan s [] done = refl
movers_done plan s (actor ∷ actors) done = ap (λ (b : Bool). if b then [] else moved_by plan s actor ++ movers plan (after_turn plan s actor) actors) done

pub turns_done : (plan : Plan) (s : State) (actors : List Actor) → all_finished s ≡ true → after_turns plan s actors ≡ s
turns_done plan s [] done = refl
turns_done plan s (actor ∷ actors) done = ap (λ (b : Bool). if b then s else after_turns plan (after_turn plan s actor) actors) done

-- the movers make the state behind the turns
pub behind_turns : (plan : Plan) (s : State) (actors : List Actor) → state_behind plan s (movers plan s actors) ≡ Some (after_turns plan s actors)
behind_turns plan s [] = refl
behind_turns plan s (actor ∷ actors) = by (all_finished s) (λ z. behind_turns plan z actors)
  where
    turn : (o : Option State) → step plan s actor ≡ o → ((z : State) → state_behind plan z (movers plan z actors) ≡ Some (after_turns plan z actors))
        → state_behind plan s ((if is_some o then actor ∷ [] else []) ++ movers plan (unwrap_or o s) actors) ≡ Some (after_turns plan (unwrap_or o s) actors)
    turn (Some next) is rest = ap (option_and_then (λ z. state_behind plan z (movers plan next actors))) is ∙ rest next
    turn None is rest = rest s

    by : (b : Bool) → ((z : State) → state_behind plan z (movers plan z actors) ≡ Some (after_turns plan z actors))
        → state_behind plan s (if b then [] else moved_by plan s actor ++ movers plan (after_turn plan s actor) actors) ≡ Some (if b then s else after_turns plan (after_turn plan s actor) actors)
    by true rest = refl
    by false rest = turn (step plan s actor) refl rest

-- which state the movers make is no choice
pub turns_are : (plan : Plan) (s next : State) (actors : List Actor) → state_behind plan s (movers plan s actors) ≡ Some next → after_turns plan s actors ≡ next
turns_are plan s next actors is = same (sym (behind_turns plan s actors) ∙ is)
  where
    same : {a b : State} → Some a ≡ Some b → a ≡ b
    same e = cc

pub movers-append : (plan : Plan) (s : State) (actors more : List Actor) → movers plan s (actors ++ more) ≡ movers plan s actors ++ movers plan (after_turns plan s actors) more
movers-append plan s [] more = refl
movers-append plan s (actor ∷ actors) more = by (all_finished s) refl (movers-append plan (after_turn plan s actor) actors more)
  where
    by : (b : Bool) → all_finished s ≡ b → movers plan (after_turn plan s actor) (actors ++ more) ≡ movers plan (after_turn plan s actor) actors ++ movers plan (after_turns plan (after_turn plan s actor) actors) more
        → (if b then [] else moved_by plan s actor ++ movers plan (after_turn plan s actor) (actors ++ more))
        ≡ (if b then [] else moved_by plan s actor ++ movers plan (after_turn plan s actor) actors) ++ movers plan (if b then s else after_turns plan (after_turn plan s actor) actors) more
    by true is rest = sym (movers_done plan s more is)
    by false is rest = ap (λ (l : List Actor). moved_by plan s actor ++ l) rest ∙ sym (append_assoc (moved_by plan s actor) (movers plan (after_turn plan s actor) actors) (movers plan (after_turns plan (after_turn plan s actor) actors) more))

pub turns-append : (plan : Plan) (s : State) (actors more : List Actor) → after_turns plan s (actors ++ more) ≡ after_turns plan (after_turns plan s actors) more
turns-append plan s [] more = refl
turns-append plan s (actor ∷ actors) more = by (all_finished s) refl (turns-append plan (after_turn plan s actor) actors more)
  where
    by : (b : Bool) → all_finished s ≡ b → after_turns plan (after_turn plan s actor) (actors ++ more) ≡ after_turns plan (after_turns plan (after_turn plan s actor) actors) more
        → (if b then s else after_turns plan (after_turn plan s actor) (actors ++ more)) ≡ after_turns plan (if b then s else after_turns plan (after_turn plan s actor) actors) more
    by true is rest = sym (turns_done plan s more is)
    by false is rest = rest

-- a list of actors, and then what is driven from the state behind them
pub driven_parts : (plan : Plan) (s : State) (actors : List Actor) → driven_from plan s actors ≡ movers plan s actors ++ driven_from plan (after_turns plan s actors) []
unfolding driven_from
driven_parts plan s actors = movers-append plan s actors (rotas plan (move_bound plan))

pub takes_in_turn : (plan : Plan) (s : State) (actors : List Actor) → TakesInTurn plan s actors
takes_in_turn plan s actors = record {
  next = after_turns plan s actors;
  run = behind_turns plan s actors;
  parts = movers-append plan s actors;
  driven = driven_parts plan s actors;
  none = movers_done plan s actors;
}

-- where one of the actors can move, one of them moves
pub some_mover : (plan : Plan) (s : State) (actor : Actor) (actors : List Actor) → IsAmong actor actors → all_finished s ≡ false → IsSome (step plan s actor) → 1 ≤ length (movers plan s actors)
some_mover plan s actor [] among more moves = absurd among
some_mover plan s actor (other ∷ actors) among more moves =
    subst (λ (b : Bool). 1 ≤ length (if b then [] else moved_by plan s other ++ movers plan (after_turn plan s other) actors)) (sym more) (turn (step plan s other) refl (λ later. some_mover plan s actor actors later more moves))
  where
    turn : (o : Option State) → step plan s other ≡ o → (IsAmong actor actors → 1 ≤ length (movers plan s actors)) → 1 ≤ length ((if is_some o then other ∷ [] else []) ++ movers plan (unwrap_or o s) actors)
    turn (Some next) is rest = omega arith
    turn None is rest = by among
      where
        by : (other ≡ actor) ⊎ IsAmong actor actors → 1 ≤ length (movers plan s actors)
        by (inl same) = absurd (none (subst (λ (a : Actor). step plan s a ≡ None) same is) moves)
          where
            none : {o : Option State} → o ≡ None → IsSome o → ⊥
            none e h = let clash = subst IsSome e h in cc
        by (inr later) = rest later
