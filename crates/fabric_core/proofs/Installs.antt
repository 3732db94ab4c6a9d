-- What the installation of a client's next value makes of the code is what it makes of the model.
use Rattle.std.proofs.Common.{◌≡◌, ℕ, zero, suc, ◌<◌, ◌&&◌, Bool, true, not, List, [], ◌∷◌, length, slice_get, get_or, Some, None, is_some, option_map, refl, sym, ap, subst, ◌∙◌, arith}
use Rattle.std.specs.Prelude.{IsSome}
use Rattle.std.specs.FinMap as fin
use Rattle.std.specs.Vec.{with_item}
use Rattle.txn_model.specs.declared.op.Op.{Op}
use Rattle.txn_model.specs.declared.pairs.Pair.{Pair}
use Rattle.txn_model.specs.declared.stamp.Stamp.{Stamp}
use Rattle.stage_layout.specs.Late.{is_hot}
use Rattle.history_model.specs.Chain.{steps_of}
use Rattle.host_store.specs.Store as hosts
use Rattle.catalogue.specs.Plan.{Plan, PlainItem, Run}
use Rattle.catalogue.specs.declared.actor.Actor.TheVariants.{Client}
use Rattle.host_locks.specs.Locks.{Locks, IsWithLock, mode_held}
use Rattle.core_model.specs.declared.phase.Phase.TheVariants.{Installing}
use Rattle.core_model.specs.Facts.{steps_now}
use Rattle.core_model.specs.State.{ClientState, script_now}
use Rattle.client_phase.specs.ColdNumbers.{cold_count, cold_number}
use Rattle.client_phase.specs.Laws.{IsAtScript}
use Rattle.client_phase.specs.Shown.{PlainClient, shown_now, shown_pairs}
use Rattle.client_phase.specs.declared.action.Action.TheVariants.{Install}
use Rattle.client_phase.specs.declared.action.Met.TheVariants.{Done}
use Rattle.client_phase.proofs.ModelRows.{rows_are_stepped}
use Rattle.client_phase.proofs.Models.{step_is}
use Rattle.client_phase.proofs.Numbers.{within-numbers}
use Rattle.client_phase.proofs.Rows.{count_is}
use Rattle.fabric_model.specs.ColdFacts.{FitsPhase}
use Rattle.fabric_model.specs.State.{State, client_at}
use Rattle.fabric_model.specs.Step.{installed}
use Rattle.fabric_core.specs.Standing.{IsActionIn, Follows}
use Rattle.fabric_core.specs.Steps.{HasStepped}
use Rattle.fabric_core.specs.declared.core_state.CoreState.{CoreState}
use Rattle.fabric_core.specs.declared.runner.Runner.{Runner}
use Rattle.fabric_core.proofs.ColdOps.{IsCold, cold_op_at, cold_there, in_session}
use Rattle.fabric_core.proofs.Held.{held_first, locks_installed}
use Rattle.fabric_core.proofs.NextActions.{install_is}
use Rattle.fabric_core.proofs.Present as present
use Rattle.fabric_core.proofs.Stored.{is_on_host, stored_same}

-- the step of an operation and its pair
step_at : (ops : List Op) (reply : List Pair) (k : ℕ) (op : Op) (p : Pair) → slice_get ops k ≡ Some op → slice_get reply k ≡ Some p → slice_get (steps_of ops reply) k ≡ Some (op, p)
step_at [] reply k op p at with_pair = cc
step_at (o ∷ ops) [] k op p at with_pair = cc
step_at (o ∷ ops) (q ∷ reply) zero op p at with_pair =
    let same : o ≡ op = cc in
    let pair : q ≡ p = cc in
    ap (λ (x : Op). Some (x, q)) same ∙ ap (λ (x : Pair). Some (op, x)) pair
step_at (o ∷ ops) (q ∷ reply) (suc k) op p at with_pair = step_at ops reply k op p at with_pair

module _ {plan : Plan} {core : CoreState} {c at k : ℕ} {item : PlainItem} {s : State} (a : IsActionIn plan core c at item (Install k) s) {ops : List Op} (is : item ≡ Run ops) {r : Runner} (here : r ≡ get_or core.runners.items c r) where
  abbrev x : ClientState
  x = client_at s c

  at_script : IsAtScript plan c x r.parts
  at_script = present.at_script a here is

  installs : (x.phase ≡ Installing) × (k ≡ cold_number r.parts (script_now plan c x) x.installed)
  installs = install_is r.parts (script_now plan c x) (shown_now plan c x) x.phase k (present.action_is a here is)

  fit : FitsPhase plan c x Installing
  fit = subst (FitsPhase plan c x) installs.0 at_script.fits

  left : x.installed < length x.noted
  left = at_script.installs installs.0

  low : x.installed < cold_count r.parts (script_now plan c x)
  low = omega (arith, left, fit.0, count_is plan.layout (script_now plan c x) r.parts at_script.sets)

  -- the operation is one of the script
  pub within : k < length ops
  within = omega (arith, installs.1, within-numbers r.parts.hot 0 (script_now plan c x) x.installed low, ap length (present.ops_now a here is))

  reply_kept : r.state.pairs.items ≡ x.reply
  reply_kept = ap (λ (p : PlainClient). p.pairs) (present.is_runner a.turn here).kept ∙ ap (shown_pairs plan.layout (script_now plan c x) x) installs.0

  pub within_pairs : k < length r.state.pairs.items
  within_pairs = omega (arith, within, ap length reply_kept, at_script.reply installs.0, ap length (present.ops_now a here is))

  module _ {op : Op} (found : slice_get ops k ≡ Some op) {pair : Pair} (with_pair : slice_get r.state.pairs.items k ≡ Some pair) where
    at_number : slice_get (steps_of (script_now plan c x) x.reply) k ≡ Some (op, pair)
    at_number = step_at (script_now plan c x) x.reply k op pair (ap (λ (l : List Op). slice_get l k) (present.ops_now a here is) ∙ found) (ap (λ (l : List Pair). slice_get l k) (sym reply_kept) ∙ with_pair)

    at_step : slice_get (steps_now plan c x) x.installed ≡ Some (op, pair)
    at_step =
        sym (step_is plan.layout (script_now plan c x) r.parts x.reply x.installed at_script.sets (at_script.reply installs.0) low)
        ∙ ap (slice_get (steps_of (script_now plan c x) x.reply)) (sym installs.1)
        ∙ at_number

    cold : IsCold plan.layout (script_now plan c x) op
    cold = cold_there plan.layout (script_now plan c x) x.installed op (cold_op_at plan.layout (script_now plan c x) x.reply x.installed (op, pair) at_step)

    on_host : is_on_host plan op.tuple ≡ true
    on_host = ap (λ (b : Bool). b && not (is_hot plan.layout op.tuple)) (in_session plan c x.seq op a.turn.reached.sound cold) ∙ ap not cold.host

    pub is_stored : IsSome (fin.get core.store op.tuple)
    is_stored = ap (λ (store : hosts.Store). is_some (fin.get store op.tuple)) a.turn.stands.store ∙ stored_same plan s a.turn.reached op.tuple ∙ on_host

    pub is_held : IsSome (mode_held core.locks op.tuple c)
    is_held = ap is_some (a.turn.stands.locks op.tuple c ∙ held_first plan c x (op, pair) at_step left)

    pub follows : {new : Runner} {locks : Locks} {store : hosts.Store} → IsWithLock core.locks locks op.tuple c None → store ≡ hosts.installed core.store op.tuple pair.now r.state.last
        → HasStepped plan c item r new (Install k) Done
        → Follows plan s (Client c) (record { runners = with_item core.runners c new; logs = core.logs; is_up = core.is_up; pipeline = core.pipeline; locks = locks; store = store; history = core.history; refusals = core.refusals; draft = core.draft })
    unfolding installed
    follows {new} {locks} {store} with_lock put has = record {
      next = installed plan s c x (op, pair);
      step = present.step_is a here ∙ ap (option_map (installed plan s c x)) at_number;
      stands = record {
        runners = present.runners_behind a here is (installed plan s c x (op, pair)) _ refl has ((rows_are_stepped plan s c x r.parts (present.within_clients a.turn) at_script).installed (op, pair) k installs.0);
        logs = a.turn.stands.logs;
        switch = a.turn.stands.switch;
        locks = locks_installed plan s core.locks locks c (op, pair) a.turn.stands.locks with_lock (present.within_clients a.turn) at_step fit left (present.distinct_now a.turn c);
        tuples = λ t. with_lock.tuples t ∙ a.turn.stands.tuples t;
        store =
            put
            ∙ ap (λ (old : hosts.Store). hosts.installed old op.tuple pair.now r.state.last) a.turn.stands.store
            ∙ ap (λ (l : Stamp). hosts.installed s.store op.tuple pair.now l) (present.last_kept a.turn here);
        history = a.turn.stands.history;
        runs = a.turn.stands.runs;
        refusals = a.turn.stands.refusals;
        refused = a.turn.stands.refused;
        draft = a.turn.stands.draft;
      };
    }
