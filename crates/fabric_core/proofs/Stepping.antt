-- What a client whose turn it is does.
use Rattle.std.proofs.Common.{◌≡◌, ◌⊎◌, ℕ, zero, suc, ◌<◌, nat_lt, Bool, true, false, if◌then◌else◌, List, [], ◌∷◌, length, get_or, Option, Some, None, inl, inr, refl, sym, ap, subst, ◌∙◌, arith}
use Rattle.txn_model.specs.declared.op.Op.{Op}
use Rattle.catalogue.specs.Plan as catalogue
use Rattle.catalogue.specs.Plan.{Plan, PlainItem, item_of}
use Rattle.catalogue.specs.declared.actor.Actor.TheVariants.{Client}
use Rattle.warm_split.specs.declared.parts.Parts.{Parts}
use Rattle.core_model.specs.declared.phase.Phase.{Phase}
use Rattle.core_model.specs.declared.phase.Phase.TheVariants.{Ready, Locking, Aborting, Logged, Waiting, Installing, Finished}
use Rattle.core_model.specs.State.{ClientState}
use Rattle.client_phase.specs.ColdNumbers.{cold_count, cold_number, is_cold}
use Rattle.client_phase.specs.Fits.{Fits, FitsAny, HasNoFault}
use Rattle.client_phase.specs.Laws.{IsAt}
use Rattle.client_phase.specs.NextAction.{next_action, script_action}
use Rattle.client_phase.specs.Shown.{PlainClient, plain_client, shown_now}
use Rattle.client_phase.specs.declared.action.Action.{Action}
use Rattle.client_phase.specs.declared.action.Action.TheVariants.{Lock, Decide, LogIntent, Lose, Rest}
use Rattle.fabric_model.specs.State.{State, client_at}
use Rattle.fabric_model.specs.Step.{client_step, step}
use Rattle.fabric_core.specs.Standing.{IsActionIn, IsTurnIn}
use Rattle.fabric_core.specs.declared.core_state.CoreState.{CoreState}
use Rattle.fabric_core.specs.declared.runner.Runner.{Runner}
use Rattle.fabric_core.proofs.Present as present

-- within a list the default is never read
any_default : (xs : List Runner) (i : ℕ) (d e : Runner) → i < length xs → get_or xs i d ≡ get_or xs i e
any_default [] i d e lt = absurd (omega arith)
any_default (x ∷ xs) zero d e lt = refl
any_default (x ∷ xs) (suc i) d e lt = any_default xs i d e (omega arith)

-- only at a loss is a client's next action to lose the switch
pub loses : (parts : Parts) (p : PlainClient) (item : PlainItem) → next_action parts p (Some item) ≡ Lose → item ≡ catalogue.Lose
loses parts p catalogue.Lose e = refl
loses parts p (catalogue.Run ops) e = absurd (never p.phase e)
  where
    lock : (b d : Bool) (k : ℕ) → (if b then Lock k else (if d then Decide else LogIntent)) ≡ Lose → ⊥
    lock true d k i = cc
    lock false true k i = cc
    lock false false k i = cc

    never : (q : Phase) → script_action parts ops p q ≡ Lose → ⊥
    never Ready i = lock (nat_lt p.locked (cold_count parts ops)) (is_cold parts ops) (cold_number parts ops p.locked) i
    never Locking i = lock (nat_lt p.locked (cold_count parts ops)) (is_cold parts ops) (cold_number parts ops p.locked) i
    never Aborting i = cc
    never Logged i = cc
    never Waiting i = cc
    never Installing i = cc
    never Finished i = cc

module _ {plan : Plan} {core : CoreState} {c at : ℕ} {s : State} (turn : IsTurnIn plan core (Client c) at s) {r : Runner} (here : r ≡ get_or core.runners.items c r) where
  abbrev x : ClientState
  x = client_at s c

  kept : plain_client r.state ≡ shown_now plan c x
  kept = (present.is_runner turn here).kept

  item_now : {o : Option PlainItem} → o ≡ item_of plan c r.state.seq → item_of plan c x.seq ≡ o
  item_now is = ap (item_of plan c) (sym (present.seq_kept turn here)) ∙ sym is

  -- one that has finished, or is at a loss of the switch, doesn't move
  pub rests_behind : None ≡ item_of plan c r.state.seq → step plan s (Client c) ≡ None
  rests_behind is =
      let finished = subst (IsAt plan c x r.parts) (item_now is) (present.clients_fit turn here).at in
      present.step_here turn ∙ ap (client_step plan s c x) finished

  module _ {item : PlainItem} (is : Some item ≡ item_of plan c r.state.seq) where
    fits_any : FitsAny r.parts (shown_now plan c x) (Some item)
    fits_any = subst (FitsAny r.parts (shown_now plan c x)) (item_now is) (present.clients_fit turn here).fits

    pub has_no_fault : HasNoFault item
    has_no_fault = fits_any.0

    pub fits : Fits r.parts item (plain_client r.state)
    fits = subst (Fits r.parts item) (sym kept) fits_any.1

    -- its next action
    pub acts : {action result : Action} → result ≡ next_action r.parts (plain_client r.state) (Some item) → result ≡ action → IsActionIn plan core c at item action s
    acts {action} chosen named = record {
      turn = turn;
      item = item_now is;
      next = λ other. ap (λ (k : Runner). next_action k.parts (plain_client k.state) (Some item)) (at_place other) ∙ sym chosen ∙ named;
    }
      where
        at_place : (other : Runner) → get_or core.runners.items c other ≡ r
        at_place other = any_default core.runners.items c other r (present.within_kept turn) ∙ sym here

    -- at a loss it loses the switch
    pub loses_here : item ≡ catalogue.Lose → IsActionIn plan core c at item Lose s
    loses_here loss = record {
      turn = turn;
      item = item_now is;
      next = λ other. ap (λ (i : PlainItem). let runner = get_or core.runners.items c other in next_action runner.parts (plain_client runner.state) (Some i)) loss;
    }

    -- a script doesn't lose the switch, and one that has nothing to do doesn't move
    pub rests : {result : Action} {ops : List Op} → item ≡ catalogue.Run ops → result ≡ next_action r.parts (plain_client r.state) (Some item) → (result ≡ Lose) ⊎ (result ≡ Rest) → step plan s (Client c) ≡ None
    rests {ops = ops} run chosen (inl is_lost) = absurd (is_script (sym run ∙ loses r.parts (plain_client r.state) item (sym chosen ∙ is_lost)))
      where
        is_script : catalogue.Run ops ≡ catalogue.Lose → ⊥
        is_script e = cc
    rests run chosen (inr is_rest) = present.step_is (acts chosen is_rest) here
