-- Runs that are driven to their end: each rota from an unfinished state makes a move, and no more moves than the bound are left.
use Rattle.std.proofs.Common.{◌≡◌, ◌↔◌, ℕ, zero, suc, ◌+◌, ◌<◌, ◌≤◌, ◌&&◌, Bool, true, false, List, [], ◌∷◌, ◌++◌, append-nil, map, reverse, length, is_some, Option, Some, None, IsSome, refl, sym, ap, subst, ◌∙◌, arith, inl, inr, ◌⊎◌}
use Rattle.std.specs.List.{list_all, range_with_len}
use Rattle.std.specs.Option.{option_and_then}
use Rattle.std.proofs.lemmas.List.{reverse-append}
use Rattle.catalogue.specs.Plan.{Plan}
use Rattle.catalogue.specs.Sound.{IsSound, IsActor}
use Rattle.catalogue.specs.declared.actor.Actor.{Actor}
use Rattle.catalogue.specs.declared.actor.Actor.TheVariants.{Client, Port, Stage, Recover}
use Rattle.switch_model.specs.Switch.{Switch}
use Rattle.core_model.specs.Rota.{numbers_below, rota, rotas, has_finished}
use Rattle.core_model.proofs.Turns.{IsAmong, among_left}
use Rattle.fabric_model.specs.Bound.{move_bound, moves_left}
use Rattle.fabric_model.specs.Driven.{IsFinished, Finishes, IsRound}
use Rattle.fabric_model.specs.ColdFacts.{FitsPhase}
use Rattle.fabric_model.specs.Holds.{Holds, HoldsNow, WhileUp, WhileLost}
use Rattle.fabric_model.specs.Laws.{IsReached, SomeoneCanMove}
use Rattle.fabric_model.specs.Rota.{all_finished, movers, after_turns, driven_from}
use Rattle.fabric_model.specs.Run.{opening, state_behind, state_of}
use Rattle.fabric_model.specs.State.{State, client_at}
use Rattle.fabric_model.specs.Step.{step}
use Rattle.fabric_model.proofs.FromCore.{all_from_test, test_from_all, rotas-add}
use Rattle.fabric_model.proofs.MovesLeft.{fewer_moves, moves_bounded}
use Rattle.fabric_model.proofs.Runs.{by_moves, first_move, reached_step, opening_is_reached}
use Rattle.fabric_model.proofs.Stuck.{someone_can_move}
use Rattle.fabric_model.proofs.Turns.{behind_turns, movers_done, turns_done, movers-append, turns-append, some_mover, driven_parts}

-- ---- finished states

pub finished_by_test : (s : State) → (all_finished s ≡ true) ↔ IsFinished s
finished_by_test s = (to, from)
  where
    both : (a b : Bool) → (a && b) ≡ true → (a ≡ true) × (b ≡ true)
    both true b e = (refl, e)
    both false b e = cc

    some : {X : Type 0} (o : Option X) → is_some o ≡ true → IsSome o
    some (Some x) e = refl
    some None e = cc

    tested : {X : Type 0} (o : Option X) → IsSome o → is_some o ≡ true
    tested (Some x) e = refl
    tested None e = cc

    to : all_finished s ≡ true → IsFinished s
    to e = let parts = both (list_all has_finished s.clients) (is_some s.switch) e in record { clients = all_from_test s.clients parts.0; up = some s.switch parts.1 }

    from : IsFinished s → all_finished s ≡ true
    from f = ap (λ (b : Bool). b && is_some s.switch) (test_from_all s.clients f.clients) ∙ tested s.switch f.up

-- ---- the rota has each actor

among_right : (actor : Actor) (actors more : List Actor) → IsAmong actor more → IsAmong actor (actors ++ more)
among_right actor [] more is = is
among_right actor (other ∷ actors) more is = inr (among_right actor actors more is)

in_numbers : (f : ℕ → Actor) (a n c : ℕ) → a ≤ c → c < a + n → IsAmong (f c) (map f (range_with_len a n))
in_numbers f a zero c low high = absurd (omega (arith, low, high))
in_numbers f a (suc n) c low high = elim (same_or_above a c low) [
  | inl same ↦ inl (ap f same)
  | inr above ↦ inr (in_numbers f (a + 1) n c above (omega (arith, high)))
]
  where
    same_or_above : (a c : ℕ) → a ≤ c → (a ≡ c) ⊎ (a + 1 ≤ c)
    same_or_above a c le = grind arith

pub number_below : (f : ℕ → Actor) (n c : ℕ) → c < n → IsAmong (f c) (map f (numbers_below n))
number_below f n c lt = in_numbers f 0 n c (omega arith) (omega (arith, lt))

mapped_left : (f : ℕ → Actor) (actor : Actor) (a b : List ℕ) → IsAmong actor (map f a) → IsAmong actor (map f (a ++ b))
mapped_left f actor [] b is = absurd is
mapped_left f actor (n ∷ a) b (inl e) = inl e
mapped_left f actor (n ∷ a) b (inr later) = inr (mapped_left f actor a b later)

mapped_last : (f : ℕ → Actor) (actor : Actor) (a : List ℕ) (n : ℕ) → f n ≡ actor → IsAmong actor (map f (a ++ n ∷ []))
mapped_last f actor [] n e = inl e
mapped_last f actor (m ∷ a) n e = inr (mapped_last f actor a n e)

among_reversed : (f : ℕ → Actor) (actor : Actor) (l : List ℕ) → IsAmong actor (map f l) → IsAmong actor (map f (reverse l))
among_reversed f actor [] is = absurd is
among_reversed f actor (n ∷ l) is = subst (λ (q : List ℕ). IsAmong actor (map f q)) (sym (reverse-append (n ∷ []) l)) (by is (λ later. among_reversed f actor l later))
  where
    by : (f n ≡ actor) ⊎ IsAmong actor (map f l) → (IsAmong actor (map f l) → IsAmong actor (map f (reverse l))) → IsAmong actor (map f (reverse l ++ n ∷ []))
    by (inl e) rest = mapped_last f actor (reverse l) n e
    by (inr later) rest = mapped_left f actor (reverse l) (n ∷ []) (rest later)

pub in_rota : (plan : Plan) (actor : Actor) → IsActor plan actor → IsAmong actor (rota plan)
in_rota plan (Client c) lt =
    let clients = numbers_below (length plan.clients) in
    inr (among_left (Client c) (map Client clients) (map Port clients ++ map Stage (reverse (numbers_below plan.shape.stages))) (number_below Client (length plan.clients) c lt))
in_rota plan (Port c) lt =
    let clients = numbers_below (length plan.clients) in
    let stages = map Stage (reverse (numbers_below plan.shape.stages)) in
    inr (among_right (Port c) (map Client clients) (map Port clients ++ stages) (among_left (Port c) (map Port clients) stages (number_below Port (length plan.clients) c lt)))
in_rota plan (Stage x) lt =
    let clients = numbers_below (length plan.clients) in
    let stages = map Stage (reverse (numbers_below plan.shape.stages)) in
    inr (among_right (Stage x) (map Client clients) (map Port clients ++ stages) (among_right (Stage x) (map Port clients) stages (among_reversed Stage (Stage x) (numbers_below plan.shape.stages) (number_below Stage plan.shape.stages x lt))))
in_rota plan Recover is = inl refl

pub reached_behind : (plan : Plan) (s after : State) (trace : List Actor) → IsReached plan s → state_behind plan s trace ≡ Some after → IsReached plan after
reached_behind plan s after trace reached run = by_moves plan (IsReached plan) (λ z next actor r is. reached_step plan z next actor r is) trace s after reached run

-- the state behind more moves is that behind them from where the trace led
behind_parts : (plan : Plan) (done more : List Actor) (s next : State) → state_behind plan s done ≡ Some next → state_behind plan s (done ++ more) ≡ state_behind plan next more
behind_parts plan [] more s next run = let same : s ≡ next = cc in ap (λ (z : State). state_behind plan z more) same
behind_parts plan (actor ∷ done) more s next run = by (step plan s actor) refl run (λ z rest. behind_parts plan done more z next rest)
  where
    by : (o : Option State) → step plan s actor ≡ o → option_and_then (λ z. state_behind plan z done) o ≡ Some next
        → ((z : State) → state_behind plan z done ≡ Some next → state_behind plan z (done ++ more) ≡ state_behind plan next more) → option_and_then (λ z. state_behind plan z (done ++ more)) o ≡ state_behind plan next more
    by (Some z) is e go = go z e
    by None is e go = cc

pub state_of_parts : (plan : Plan) (trace more : List Actor) (s : State) → state_of plan trace ≡ Some s → state_of plan (trace ++ more) ≡ state_behind plan s more
unfolding state_of
state_of_parts plan trace more s run = behind_parts plan trace more (opening plan) s run

pub reached_turns : (plan : Plan) (s : State) (actors : List Actor) → IsReached plan s → IsReached plan (after_turns plan s actors)
reached_turns plan s actors reached = reached_behind plan s (after_turns plan s actors) (movers plan s actors) reached (behind_turns plan s actors)

-- the state that is driven to
abbrev pub driven_to : Plan → State → List Actor → State
driven_to plan s actors = after_turns plan s (actors ++ rotas plan (move_bound plan))

pub behind_driven : (plan : Plan) (s : State) (actors : List Actor) → state_behind plan s (driven_from plan s actors) ≡ Some (driven_to plan s actors)
unfolding driven_from
behind_driven plan s actors = behind_turns plan s (actors ++ rotas plan (move_bound plan))

module _ (plan : Plan) (fits : (z : State) → IsReached plan z → (c : ℕ) → FitsPhase plan c (client_at z c) (client_at z c).phase) (holds : (z : State) → IsReached plan z → (now : Switch) → z.switch ≡ Some now → Holds plan z) where
  -- moves leave as many fewer
  left_behind : (s after : State) (trace : List Actor) → IsReached plan s → state_behind plan s trace ≡ Some after → moves_left plan after + length trace ≤ moves_left plan s
  left_behind s after [] reached run = let same : s ≡ after = cc in at_most (ap (moves_left plan) same)
    where
      at_most : {a b : ℕ} → a ≡ b → b + 0 ≤ a
      at_most e = omega (arith, e)
  left_behind s after (actor ∷ trace) reached run =
      first_move plan s after actor trace (moves_left plan after + suc (length trace) ≤ moves_left plan s) run (λ next is rest. omega (arith, fewer_moves plan fits holds s next actor reached is, left_behind next after trace (reached_step plan s next actor reached is) rest))

  left_within : (s : State) → IsReached plan s → moves_left plan s ≤ move_bound plan
  left_within s reached = omega (arith, moves_bounded plan fits holds s reached)

module _ (plan : Plan) (fits : (z : State) → IsReached plan z → (c : ℕ) → FitsPhase plan c (client_at z c) (client_at z c).phase) (holds : (z : State) → IsReached plan z → HoldsNow plan z) where
  while_up : (z : State) → IsReached plan z → (now : Switch) → z.switch ≡ Some now → Holds plan z
  while_up z reached now up = by (holds z reached)
    where
      by : HoldsNow plan z → Holds plan z
      by (WhileUp h) = h
      by (WhileLost h) = absurd (clash (sym h.lost ∙ up))
        where
          clash : {b : Switch} → None ≡ Some b → ⊥
          clash e = cc

  -- a rota from an unfinished state leaves fewer moves
  pub rota_lessens : (s : State) → IsReached plan s → all_finished s ≡ false → moves_left plan (after_turns plan s (rota plan)) < moves_left plan s
  rota_lessens s reached more =
      let can : SomeoneCanMove plan s = someone_can_move plan s reached (holds s reached) more in
      sum (left_behind plan fits while_up s (after_turns plan s (rota plan)) (movers plan s (rota plan)) reached (behind_turns plan s (rota plan))) (some_mover plan s can.actor (rota plan) (in_rota plan can.actor can.is) more can.moves)
    where
      sum : {a b n : ℕ} → a + n ≤ b → 1 ≤ n → a < b
      sum le one = omega (arith, le, one)

  -- so many rotas as moves are left finish
  rotas_finish : (n : ℕ) (s : State) → IsReached plan s → moves_left plan s ≤ n → all_finished (after_turns plan s (rotas plan n)) ≡ true
  rotas_finish zero s reached few = by (all_finished s) refl
    where
      over : {a b : ℕ} → b < a → a ≤ 0 → ⊥
      over lt le = omega (arith, lt, le)

      by : (b : Bool) → all_finished s ≡ b → all_finished s ≡ true
      by true is = is
      by false is = absurd (over (rota_lessens s reached is) few)
  rotas_finish (suc n) s reached few =
      ap all_finished (turns-append plan s (rota plan) (rotas plan n)) ∙ by (all_finished s) refl
      (λ fewer. rotas_finish n (after_turns plan s (rota plan)) (reached_turns plan s (rota plan) reached) fewer)
    where
      less : {a b : ℕ} → b < a → a ≤ suc n → b ≤ n
      less lt le = omega (arith, lt, le)

      by : (b : Bool) → all_finished s ≡ b → (moves_left plan (after_turns plan s (rota plan)) ≤ n → all_finished (after_turns plan (after_turns plan s (rota plan)) (rotas plan n)) ≡ true) → all_finished (after_turns plan (after_turns plan s (rota plan)) (rotas plan n)) ≡ true
      by true is rest = ap (λ (z : State). all_finished (after_turns plan z (rotas plan n))) (turns_done plan s (rota plan) is) ∙ ap all_finished (turns_done plan s (rotas plan n) is) ∙ is
      by false is rest = rest (less (rota_lessens s reached is) few)

  -- and further ones add nothing
  more_rotas : (n more : ℕ) (s : State) → IsReached plan s → moves_left plan s ≤ n → movers plan s (rotas plan (n + more)) ≡ movers plan s (rotas plan n)
  more_rotas n more s reached few =
      ap (movers plan s) (rotas-add plan n more) ∙ movers-append plan s (rotas plan n) (rotas plan more)
      ∙ ap (λ (l : List Actor). movers plan s (rotas plan n) ++ l) (movers_done plan (after_turns plan s (rotas plan n)) (rotas plan more) (rotas_finish n s reached few)) ∙ append-nil (movers plan s (rotas plan n))

  -- where the rota is taken again and again, taking it once more first changes nothing
  driven_again : (s : State) → IsReached plan s → driven_from plan s [] ≡ driven_from plan s (rota plan)
  unfolding driven_from
  driven_again s reached = sym (more_rotas (move_bound plan) 1 s reached (left_within plan fits while_up s reached)) ∙ ap (λ (n : ℕ). movers plan s (rotas plan n)) {x = move_bound plan + 1} {y = suc (move_bound plan)} (one_more (move_bound plan))
    where
      one_more : (n : ℕ) → n + 1 ≡ suc n
      one_more n = omega arith

  driven_finishes : (s : State) (actors : List Actor) → IsReached plan s → all_finished (driven_to plan s actors) ≡ true
  driven_finishes s actors reached =
      ap all_finished (turns-append plan s actors (rotas plan (move_bound plan)))
      ∙ let reached_next = reached_turns plan s actors reached in rotas_finish (move_bound plan) (after_turns plan s actors) reached_next (left_within plan fits while_up (after_turns plan s actors) reached_next)

  pub runs_finish : (s : State) (actors : List Actor) → IsReached plan s → Finishes plan s actors
  runs_finish s actors reached = record { after = driven_to plan s actors; run = behind_driven plan s actors; finished = (finished_by_test (driven_to plan s actors)).0 (driven_finishes s actors reached) }

  pub sessions_finish : (actors : List Actor) → IsSound plan → Finishes plan (opening plan) actors
  sessions_finish actors sound = runs_finish (opening plan) actors (opening_is_reached plan sound)

  pub round_of : (s : State) → IsReached plan s → all_finished s ≡ false → IsRound plan s
  round_of s reached more = record {
    next = after_turns plan s (rota plan);
    run = behind_turns plan s (rota plan);
    driven = driven_again s reached ∙ driven_parts plan s (rota plan);
    fewer = rota_lessens s reached more;
  }
