-- What the release of a client's last lock makes of the code is what it makes of the model.
use Rattle.std.proofs.Common.{◌≡◌, ℕ, ◌-◌, ◌<◌, List, length, slice_get, get_or, Some, None, is_some, refl, sym, ap, subst, ◌∙◌, arith}
use Rattle.std.specs.Prelude.{IsSome}
use Rattle.std.specs.Vec.{with_item}
use Rattle.txn_model.specs.declared.op.Op.{Op}
use Rattle.catalogue.specs.Plan.{Plan, PlainItem, Run}
use Rattle.catalogue.specs.declared.actor.Actor.TheVariants.{Client}
use Rattle.host_locks.specs.Locks.{Locks, IsWithLock, mode_held}
use Rattle.core_model.specs.declared.phase.Phase.TheVariants.{Aborting}
use Rattle.core_model.specs.Locks.{cold_ops}
use Rattle.core_model.specs.State.{ClientState, script_now}
use Rattle.client_phase.specs.ColdNumbers.{cold_count, cold_number}
use Rattle.client_phase.specs.Laws.{IsAtScript}
use Rattle.client_phase.specs.Shown.{shown_now}
use Rattle.client_phase.specs.declared.action.Action.TheVariants.{Release}
use Rattle.client_phase.specs.declared.action.Met.TheVariants.{Done}
use Rattle.client_phase.proofs.ModelRows.{rows_are_stepped}
use Rattle.client_phase.proofs.Models.{number_is}
use Rattle.client_phase.proofs.Numbers.{within-numbers}
use Rattle.client_phase.proofs.Rows.{count_is}
use Rattle.fabric_model.specs.ColdFacts.{FitsPhase}
use Rattle.fabric_model.specs.State.{State, client_at}
use Rattle.fabric_model.specs.Step.{released}
use Rattle.fabric_core.specs.Standing.{IsActionIn, Follows}
use Rattle.fabric_core.specs.Steps.{HasStepped}
use Rattle.fabric_core.specs.declared.core_state.CoreState.{CoreState}
use Rattle.fabric_core.specs.declared.runner.Runner.{Runner}
use Rattle.fabric_core.proofs.Held.{held_last, locks_released}
use Rattle.fabric_core.proofs.NextActions.{release_is}
use Rattle.fabric_core.proofs.Present as present

module _ {plan : Plan} {core : CoreState} {c at k : ℕ} {item : PlainItem} {s : State} (a : IsActionIn plan core c at item (Release k) s) {ops : List Op} (is : item ≡ Run ops) {r : Runner} (here : r ≡ get_or core.runners.items c r) where
  abbrev x : ClientState
  x = client_at s c

  at_script : IsAtScript plan c x r.parts
  at_script = present.at_script a here is

  aborts : (x.phase ≡ Aborting) × (k ≡ cold_number r.parts (script_now plan c x) (length x.noted - 1))
  aborts = release_is r.parts (script_now plan c x) (shown_now plan c x) x.phase k (present.action_is a here is)

  fit : FitsPhase plan c x Aborting
  fit = subst (FitsPhase plan c x) aborts.0 at_script.fits

  low : length x.noted - 1 < cold_count r.parts (script_now plan c x)
  low = omega (arith, fit.1, fit.2, count_is plan.layout (script_now plan c x) r.parts at_script.sets)

  -- the operation is one of the script
  pub within : k < length ops
  within = omega (arith, aborts.1, within-numbers r.parts.hot 0 (script_now plan c x) (length x.noted - 1) low, ap length (present.ops_now a here is))

  module _ {op : Op} (found : slice_get ops k ≡ Some op) where
    there : slice_get (cold_ops plan.layout (script_now plan c x)) (length x.noted - 1) ≡ Some op
    there =
        sym (number_is plan.layout (script_now plan c x) r.parts (length x.noted - 1) at_script.sets low)
        ∙ ap (slice_get (script_now plan c x)) (sym aborts.1)
        ∙ ap (λ (l : List Op). slice_get l k) (present.ops_now a here is)
        ∙ found

    pub is_held : IsSome (mode_held core.locks op.tuple c)
    is_held = ap is_some (a.turn.stands.locks op.tuple c ∙ held_last plan c x op there fit.1 fit.0 (present.distinct_now a.turn c))

    pub follows : {new : Runner} {locks : Locks} → IsWithLock core.locks locks op.tuple c None → HasStepped plan c item r new (Release k) Done
        → Follows plan s (Client c) (record { runners = with_item core.runners c new; logs = core.logs; is_up = core.is_up; pipeline = core.pipeline; locks = locks; store = core.store; history = core.history; refusals = core.refusals; draft = core.draft })
    unfolding released
    follows {new} {locks} with_lock has = record {
      next = released plan s c x;
      step = present.step_is a here;
      stands = record {
        runners = present.runners_behind a here is (released plan s c x) _ refl has ((rows_are_stepped plan s c x r.parts (present.within_clients a.turn) at_script).released k);
        logs = a.turn.stands.logs;
        switch = a.turn.stands.switch;
        locks = locks_released plan s core.locks locks c op a.turn.stands.locks with_lock (present.within_clients a.turn) there fit.1 fit.0 (present.distinct_now a.turn c);
        tuples = λ t. with_lock.tuples t ∙ a.turn.stands.tuples t;
        store = a.turn.stands.store;
        history = a.turn.stands.history;
        runs = a.turn.stands.runs;
        refusals = a.turn.stands.refusals;
        refused = a.turn.stands.refused;
        draft = a.turn.stands.draft;
      };
    }
