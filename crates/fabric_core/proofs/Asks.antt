-- A client's asking for a lock in the code is the model's.
use Rattle.std.proofs.Common.{◌≡◌, ℕ, ◌+◌, ◌<◌, ◌≤◌, ◌&&◌, Bool, true, not, List, [], ◌∷◌, ◌++◌, length, length-append, get_or, slice_get, unwrap_or, Option, Some, None, is_some, option_map, inl, inr, refl, sym, ap, subst, ◌∙◌, arith}
use Rattle.std.specs.Prelude.{IsSome, IsTrue, pos}
use Rattle.std.specs.FinMap as fin
use Rattle.std.specs.Vec.{with_item}
use Rattle.txn_model.specs.Listed.{Listed}
use Rattle.txn_model.specs.declared.op.Op.{Op}
use Rattle.txn_model.specs.declared.stamp.Seen.{Seen}
use Rattle.stage_layout.specs.Late.{is_hot}
use Rattle.catalogue.specs.Plan.{Plan, PlainItem, Run}
use Rattle.catalogue.specs.declared.actor.Actor.TheVariants.{Client}
use Rattle.host_locks.specs.Locks.{Locks, IsTried, has_tuple, mode_held}
use Rattle.host_locks.specs.declared.mode.Grant.{Grant}
use Rattle.host_locks.specs.declared.mode.Grant.TheVariants.{Granted, HeldBy}
use Rattle.host_locks.specs.declared.mode.Mode.{Mode}
use Rattle.host_store.specs.Store.{Store, first_seen, seen_at}
use Rattle.core_model.specs.declared.refusal.Refusal.{Refusal}
use Rattle.core_model.specs.Asking.{IsAsking}
use Rattle.core_model.specs.State.{ClientState, script_now}
use Rattle.client_phase.specs.ColdNumbers.{cold_count, cold_number}
use Rattle.client_phase.specs.Laws.{IsAtScript, Makes}
use Rattle.client_phase.specs.Shown.{shown_now}
use Rattle.client_phase.specs.declared.action.Action.TheVariants.{Lock}
use Rattle.client_phase.specs.declared.action.Met.TheVariants as met
use Rattle.client_phase.proofs.ModelRows.{rows_are_stepped}
use Rattle.client_phase.proofs.Models.{number_is}
use Rattle.client_phase.proofs.Numbers.{within-numbers}
use Rattle.fabric_model.specs.ColdFacts.{FitsPhase}
use Rattle.fabric_model.specs.State.{State, client_at}
use Rattle.fabric_model.specs.Step.{asked, granted, refused, holder, next_op, step}
use Rattle.fabric_model.proofs.Runs.{reached_step}
use Rattle.fabric_model.proofs.SmallStamps.{fits_room}
use Rattle.fabric_core.specs.Held.{HasLocks, mode_of}
use Rattle.fabric_core.specs.Standing.{IsActionIn, StandsFor}
use Rattle.fabric_core.specs.Steps.{HasStepped}
use Rattle.fabric_core.specs.declared.core_state.CoreState.{CoreState}
use Rattle.fabric_core.specs.declared.runner.Runner.{Runner}
use Rattle.fabric_core.proofs.ColdOps.{IsCold, cold_there, in_session}
use Rattle.fabric_core.proofs.Held.{free_same, holder_same, locks_granted, locks_refused, table_free_when_next}
use Rattle.fabric_core.proofs.NextActions.{lock_is, MayAsk}
use Rattle.fabric_core.proofs.Present as present
use Rattle.fabric_core.proofs.Stored.{is_on_host, stored_same}

-- what the table answered, by the operation's mode
pub tried_as : (locks now : Locks) (op : Op) (c : ℕ) (mode : Mode) (result grant : Grant) → mode ≡ mode_of op → result ≡ grant → IsTried locks now op.tuple mode c result → IsTried locks now op.tuple (mode_of op) c grant
tried_as locks now op c mode result grant same is tried = subst (λ (g : Grant). IsTried locks now op.tuple (mode_of op) c g) is (subst (λ (m : Mode). IsTried locks now op.tuple m c result) same tried)

module _ {plan : Plan} {core : CoreState} {c at k : ℕ} {item : PlainItem} {s : State} (a : IsActionIn plan core c at item (Lock k) s) {ops : List Op} (is : item ≡ Run ops) {r : Runner} (here : r ≡ get_or core.runners.items c r) where
  abbrev x : ClientState
  x = client_at s c

  at_script : IsAtScript plan c x r.parts
  at_script = present.at_script a here is

  lock : MayAsk x.phase × (k ≡ cold_number r.parts (script_now plan c x) (length x.noted)) × (length x.noted < cold_count r.parts (script_now plan c x))
  lock = lock_is r.parts (script_now plan c x) (shown_now plan c x) x.phase k (present.action_is a here is)

  asking : IsAsking x
  asking = lock.0

  -- the operation is one of the script
  pub within : k < length ops
  within = omega (arith, lock.1, within-numbers r.parts.hot 0 (script_now plan c x) (length x.noted) lock.2, ap length (present.ops_now a here is))

  none_installed : x.installed ≡ 0
  none_installed = by asking
    where
      by : IsAsking x → x.installed ≡ 0
      by (inl e) = (subst (FitsPhase plan c x) e at_script.fits).1
      by (inr e) = (subst (FitsPhase plan c x) e at_script.fits).1

  module _ {op : Op} (found : slice_get ops k ≡ Some op) where
    there : slice_get (script_now plan c x) k ≡ Some op
    there = ap (λ (l : List Op). slice_get l k) (present.ops_now a here is) ∙ found

    next : next_op plan c x ≡ Some op
    next = sym (number_is plan.layout (script_now plan c x) r.parts (length x.noted) at_script.sets lock.2) ∙ ap (slice_get (script_now plan c x)) (sym lock.1) ∙ there

    pub moves_to : step plan s (Client c) ≡ Some (asked plan s c x op (holder plan s c op))
    moves_to = present.step_is a here ∙ ap (option_map (λ (o : Op). asked plan s c x o (holder plan s c o))) there

    cold : IsCold plan.layout (script_now plan c x) op
    cold = cold_there plan.layout (script_now plan c x) (length x.noted) op next

    on_host : is_on_host plan op.tuple ≡ true
    on_host = ap (λ (b : Bool). b && not (is_hot plan.layout op.tuple)) (in_session plan c x.seq op a.turn.reached.sound cold) ∙ ap not cold.host

    pub in_table : IsTrue (has_tuple core.locks op.tuple)
    in_table = a.turn.stands.tuples op.tuple ∙ on_host

    pub in_store : IsSome (fin.get core.store op.tuple)
    in_store = ap (λ (store : Store). is_some (fin.get store op.tuple)) a.turn.stands.store ∙ stored_same plan s a.turn.reached op.tuple ∙ on_host

    pub free : mode_held core.locks op.tuple c ≡ None
    free = table_free_when_next plan s core.locks c op a.turn.stands.locks next none_installed (present.distinct_now a.turn c)

    module _ {now : Locks} where
      -- the lock is granted
      module _ {seen : Seen} (tried : IsTried core.locks now op.tuple (mode_of op) c Granted) (read : fin.get core.store op.tuple ≡ Some seen) where
        as_granted : asked plan s c x op (holder plan s c op) ≡ granted s c x op
        as_granted = ap (asked plan s c x op) (free_same plan s core.locks c op a.turn.stands.locks (present.distinct_now a.turn) tried.0)

        read_is : seen ≡ seen_at s.store op.tuple
        read_is = ap (λ (o : Option Seen). unwrap_or o (first_seen (pos 0))) (sym read) ∙ ap (λ (store : Store). seen_at store op.tuple) a.turn.stands.store

        pub granted_step : step plan s (Client c) ≡ Some (granted s c x op)
        granted_step = moves_to ∙ ap (λ (z : State). Some z) as_granted

        pub granted_stands : {new : Runner} → HasStepped plan c item r new (Lock k) (met.Granted seen)
            → StandsFor plan (granted s c x op) (record { runners = with_item core.runners c new; logs = core.logs; is_up = core.is_up; pipeline = core.pipeline; locks = now; store = core.store; history = core.history; refusals = core.refusals; draft = core.draft })
        unfolding granted
        granted_stands {new} has = record {
          runners = present.runners_behind a here is (granted s c x op) _ refl has makes;
          logs = a.turn.stands.logs;
          switch = a.turn.stands.switch;
          locks = locks_granted plan s core.locks now c op a.turn.stands.locks tried.1 (present.within_clients a.turn) next none_installed (present.distinct_now a.turn c);
          tuples = λ t. tried.1.tuples t ∙ a.turn.stands.tuples t;
          store = a.turn.stands.store;
          history = a.turn.stands.history;
          runs = a.turn.stands.runs;
          refusals = a.turn.stands.refusals;
          refused = a.turn.stands.refused;
          draft = a.turn.stands.draft;
        }
          where
            rows : Makes plan c x r.parts (granted s c x op) (Lock (cold_number r.parts (script_now plan c x) (length x.noted))) (met.Granted (seen_at s.store op.tuple)) (shown_now plan c x)
            rows = (rows_are_stepped plan s c x r.parts (present.within_clients a.turn) at_script).granted op asking next

            makes : Makes plan c x r.parts (granted s c x op) (Lock k) (met.Granted seen) (shown_now plan c x)
            makes = subst (λ (n : ℕ). Makes plan c x r.parts (granted s c x op) (Lock n) (met.Granted seen) (shown_now plan c x)) (sym lock.1) (subst (λ (z : Seen). Makes plan c x r.parts (granted s c x op) (Lock (cold_number r.parts (script_now plan c x) (length x.noted))) (met.Granted z) (shown_now plan c x)) (sym read_is) rows)

      -- the lock is refused
      module _ {by : ℕ} (tried : IsTried core.locks now op.tuple (mode_of op) c (HeldBy by)) where
        as_refused : asked plan s c x op (holder plan s c op) ≡ refused plan s c x op by
        as_refused = ap (asked plan s c x op) (holder_same plan s core.locks c op by a.turn.stands.locks (present.distinct_now a.turn) tried.0)

        pub refused_step : step plan s (Client c) ≡ Some (refused plan s c x op by)
        refused_step = moves_to ∙ ap (λ (z : State). Some z) as_refused

        pub refusal_room : 1 ≤ core.refusals.spare
        unfolding refused
        refusal_room =
            let fits = fits_room plan (refused plan s c x op by) (reached_step plan s (refused plan s c x op by) (Client c) a.turn.reached refused_step) in
            omega (arith, fits.refusals, a.turn.stands.refused, ap length a.turn.stands.refusals, length-append s.refusals (record { client = c; seq = x.seq; tuple = op.tuple; holder = by; at = s.moves } ∷ []))

        pub refused_stands : {new : Runner} {seq : ℕ} {refusals : Listed Refusal} → seq ≡ x.seq → refusals.items ≡ core.refusals.items ++ record { client = c; seq = seq; tuple = op.tuple; holder = by; at = at } ∷ [] → refusals.spare + 1 ≡ core.refusals.spare
            → HasStepped plan c item r new (Lock k) (met.HeldBy by)
            → StandsFor plan (refused plan s c x op by) (record { runners = with_item core.runners c new; logs = core.logs; is_up = core.is_up; pipeline = core.pipeline; locks = now; store = core.store; history = core.history; refusals = refusals; draft = core.draft })
        unfolding refused
        refused_stands {new} {seq} {refusals} same_seq told spare has = record {
          runners = present.runners_behind a here is (refused plan s c x op by) _ refl has ((rows_are_stepped plan s c x r.parts (present.within_clients a.turn) at_script).refused op k by);
          logs = a.turn.stands.logs;
          switch = a.turn.stands.switch;
          locks = subst (HasLocks plan (refused plan s c x op by)) (sym tried.1) (locks_refused plan s core.locks c op by a.turn.stands.locks (present.within_clients a.turn) none_installed);
          tuples = λ t. ap (λ (l : Locks). has_tuple l t) tried.1 ∙ a.turn.stands.tuples t;
          store = a.turn.stands.store;
          history = a.turn.stands.history;
          runs = a.turn.stands.runs;
          refusals = told
              ∙ ap (λ (l : List Refusal). l ++ record { client = c; seq = seq; tuple = op.tuple; holder = by; at = at } ∷ []) a.turn.stands.refusals
              ∙ ap (λ (n : ℕ). s.refusals ++ record { client = c; seq = n; tuple = op.tuple; holder = by; at = at } ∷ []) same_seq
              ∙ ap (λ (n : ℕ). s.refusals ++ record { client = c; seq = x.seq; tuple = op.tuple; holder = by; at = n } ∷ []) (sym a.turn.moves);
          refused = omega (arith, a.turn.stands.refused, spare, ap length told, length-append core.refusals.items (record { client = c; seq = seq; tuple = op.tuple; holder = by; at = at } ∷ []));
          draft = a.turn.stands.draft;
        }
