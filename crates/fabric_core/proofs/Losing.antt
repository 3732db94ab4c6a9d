-- A client that loses the switch does as the model's.
use Rattle.std.proofs.Common.{◌≡◌, ℕ, ◌<◌, ◌≤◌, ◌==◌, Bool, true, false, List, [], ◌∷◌, map, length, get_or, unwrap_or, Option, Some, None, option_map, IsSome, inl, inr, refl, sym, ap, subst, ◌∙◌, arith, if◌then◌else◌}
use Rattle.std.specs.Prelude.{option_and_then}
use Rattle.std.specs.List.{AllByRecursion}
use Rattle.std.specs.Vec.{with_item}
use Rattle.std.proofs.lemmas.Bool.Decides.{nat_tests}
use Rattle.std.proofs.lemmas.List.{length-replicate}
use Rattle.txn_model.specs.declared.op.Op.{Op}
use Rattle.txn_model.specs.declared.pairs.Pair.{Pair}
use Rattle.history_model.specs.History.{HistoryEntry, History}
use Rattle.history_model.specs.InOrder.{seqs_of}
use Rattle.history_core.specs.Answers as kept
use Rattle.history_core.specs.Answers.{OnlyLastOpen, entries_of}
use Rattle.history_core.specs.Recorded.{Recorded}
use Rattle.switch_model.specs.Switch.{Switch, desk_at}
use Rattle.pipeline.specs.Plain.{PlainFlight, PlainPipeline}
use Rattle.pipeline.specs.Rows.{erased}
use Rattle.pipeline.proofs.Erases.{idle_erased}
use Rattle.pipeline.proofs.Shown.{clients_are, shape_is}
use Rattle.catalogue.specs.Plan.{Plan, PlainItem, Lose, items_of, script_in}
use Rattle.catalogue.specs.declared.actor.Actor.TheVariants.{Client}
use Rattle.core_model.specs.Laws.{IsAscending}
use Rattle.core_model.specs.State.{ClientState, script_now}
use Rattle.core_model.specs.Step.{next_item}
use Rattle.core_model.proofs.Moves.{moved_client}
use Rattle.client_phase.specs.Fits.{ops_of}
use Rattle.client_phase.specs.Laws.{IsAt}
use Rattle.client_phase.specs.Shown.{shown_now}
use Rattle.client_phase.specs.Stepped.{stepped}
use Rattle.client_phase.specs.declared.action.Action.TheVariants as actions
use Rattle.client_phase.specs.declared.action.Met.TheVariants.{Done}
use Rattle.client_phase.proofs.ModelRows.{losses_are_stepped}
use Rattle.fabric_model.specs.Holds.{Holds}
use Rattle.fabric_model.specs.Laws.{IsReached}
use Rattle.fabric_model.specs.State.{State, client_at}
use Rattle.fabric_model.specs.Step.{lost, step}
use Rattle.fabric_model.proofs.InOrder.{IsPastAt, desk_in, ordered}
use Rattle.fabric_model.proofs.Legal.{holds_now, holds_up}
use Rattle.fabric_model.proofs.MovesLeft.{same_switch}
use Rattle.fabric_model.proofs.OwnEntries.{OwnEntry, own_entries}
use Rattle.fabric_model.proofs.Present.{clients_stay}
use Rattle.fabric_core.specs.Standing.{IsActionIn, IsLost, IsRunner, IsUp, Follows}
use Rattle.fabric_core.specs.Steps.{HasStepped}
use Rattle.fabric_core.specs.declared.core_state.CoreState.{CoreState}
use Rattle.fabric_core.specs.declared.runner.Runner.{Runner}
use Rattle.fabric_core.proofs.Held.{locks_lost}
use Rattle.fabric_core.proofs.Present as present
use Rattle.fabric_core.proofs.Runners.{runner_stepped, runners_set}
use Rattle.fabric_core.proofs.Stepping.{loses}
use Rattle.fabric_core.proofs.Switches.{is_lost}

some_pairs : (o : Option (List Pair)) → (o ≡ None → ⊥) → IsSome o
some_pairs (Some p) not = refl
some_pairs None not = absurd (not refl)

no_pairs : {o : Option (List Pair)} → o ≡ None → IsSome o → ⊥
no_pairs none some = let wrong = subst IsSome none some in cc

equal : (a b : ℕ) → (a == b) ≡ true → a ≡ b
equal a b is = grind (arith, nat_tests)

-- what holds of a client's entries holds of those alone
own_only : (P : HistoryEntry → Type 0) (c : ℕ) (h : History) → AllByRecursion (λ e. e.entry.client ≡ c → P e) h → AllByRecursion P (entries_of c h)
own_only P c [] all = tt
own_only P c (e ∷ h) all = by (e.entry.client == c) refl (own_only P c h all.1)
  where
    by : (b : Bool) → (e.entry.client == c) ≡ b → AllByRecursion P (entries_of c h) → AllByRecursion P (if b then e ∷ entries_of c h else entries_of c h)
    by true is rest = (all.0 (equal e.entry.client c is), rest)
    by false is rest = rest

-- entries whose numbers rise to this one at most, of which those of this one alone are unanswered
only_last : (most : ℕ) (h : History) → IsAscending (map (λ e. e.entry.seq) h) → AllByRecursion (λ q. q ≤ most) (map (λ e. e.entry.seq) h) → AllByRecursion (λ e. e.pairs ≡ None → e.entry.seq ≡ most) h → OnlyLastOpen h
only_last most [] rise within open_ones = tt
only_last most (e ∷ []) rise within open_ones = tt
only_last most (e ∷ f ∷ h) rise within open_ones =
    (some_pairs e.pairs (λ none. absurd (omega (arith, open_ones.0 none, rise.0.0, within.1.0))), only_last most (f ∷ h) rise.1 within.1 open_ones.1)

each_past : (P Q : ℕ → Type 0) (l : List ℕ) → ((q : ℕ) → P q → Q q) → AllByRecursion P l → AllByRecursion Q l
each_past P Q [] f all = tt
each_past P Q (q ∷ l) f all = (f q all.0, each_past P Q l f all.1)

each_entry : (P Q : HistoryEntry → Type 0) (h : History) → ((e : HistoryEntry) → P e → Q e) → AllByRecursion P h → AllByRecursion Q h
each_entry P Q [] f all = tt
each_entry P Q (e ∷ h) f all = (f e all.0, each_entry P Q h f all.1)

-- of each client at most the last entry is unanswered
pub last_open : (plan : Plan) (s : State) → IsReached plan s → (now : Switch) → s.switch ≡ Some now → (c : ℕ) → OnlyLastOpen (entries_of c s.history)
last_open plan s reached now up c =
    only_last x.seq (entries_of c s.history) ((ordered plan (holds_now plan) s reached).ascending c)
    (each_past (IsPastAt x (desk_in s.switch c)) (λ q. q ≤ x.seq) (seqs_of c s.history) at_most ((ordered plan (holds_now plan) s reached).past c))
    (own_only (λ e. e.pairs ≡ None → e.entry.seq ≡ x.seq) c s.history
    (each_entry (λ e. e.entry.client ≡ c → OwnEntry x (desk_at h.now c) e) (λ e. e.entry.client ≡ c → e.pairs ≡ None → e.entry.seq ≡ x.seq) s.history (λ e own is none. is_its e none (own is)) (own_entries plan s h c)))
  where
    x : ClientState
    x = client_at s c

    h : Holds plan s
    h = holds_up plan s reached now up

    at_most : (q : ℕ) → IsPastAt x (desk_in s.switch c) q → q ≤ x.seq
    at_most q (inl lt) = omega (arith, lt)
    at_most q (inr p) = omega (arith, p.0)

    is_its : (e : HistoryEntry) → e.pairs ≡ None → OwnEntry x (desk_at h.now c) e → e.entry.seq ≡ x.seq
    is_its e none (inl a) = absurd (no_pairs none a.0)
    is_its e none (inr o) = o.seq

module _ {plan : Plan} {core : CoreState} {c at : ℕ} {item : PlainItem} {s : State} (a : IsActionIn plan core c at item actions.Lose s) where
  abbrev x : ClientState
  x = client_at s c

  within : c < length s.clients
  within = present.within_clients a.turn

  -- the item is a loss
  item_is : {r : Runner} → r ≡ get_or core.runners.items c r → item ≡ Lose
  item_is {r} here = loses r.parts (shown_now plan c x) item (present.next_now a here)

  at_loss : {r : Runner} → r ≡ get_or core.runners.items c r → IsAt plan c x r.parts (Some Lose)
  at_loss {r} here = subst (λ (i : PlainItem). IsAt plan c x r.parts (Some i)) (item_is here) (present.item_fits a here)

  some_runner : (r : Runner) × (r ≡ get_or core.runners.items c r)
  some_runner = present.some_runner core.runners.items c (present.within_kept a.turn)

  -- where the switch is lost it doesn't move
  pub stays : core.is_up ≡ false → step plan s (Client c) ≡ None
  stays down = present.step_is a some_runner.1 ∙ ap (option_map (λ now. lost plan s c x)) (a.turn.stands.switch.lost down).lost

  module _ (is_up : core.is_up ≡ true) where
    up_now : IsUp plan s.switch core.pipeline
    up_now = a.turn.stands.switch.up is_up

    pub only_last_open : (client : ℕ) → OnlyLastOpen (entries_of client core.history.items)
    only_last_open client = subst (λ (h : History). OnlyLastOpen (entries_of client h)) (sym a.turn.stands.history) (last_open plan s a.turn.reached up_now.now up_now.up client)

    module _ {r : Runner} (here : r ≡ get_or core.runners.items c r) where
      moves_to : step plan s (Client c) ≡ Some (lost plan s c x)
      moves_to = present.step_is a here ∙ ap (option_map (λ now. lost plan s c x)) up_now.up

      no_ops : script_now plan c x ≡ []
      no_ops = ap (λ (o : Option PlainItem). unwrap_or (option_and_then script_in o) []) (a.item ∙ ap (λ (i : PlainItem). Some i) (item_is here))

      is_runner : {new : Runner} → HasStepped plan c item r new actions.Lose Done → IsRunner plan c (next_item plan c x) new
      unfolding lost
      is_runner {new} has = runner_stepped plan c item r new actions.Lose Done (next_item plan c x) x.seq has (present.seq_kept a.turn here) (present.is_runner a.turn here).parts (present.is_runner a.turn here).space
          (ap (shown_now plan c) (sym (moved_client s.clients c (next_item plan c x) within))
          ∙ losses_are_stepped plan s c x r.parts within
          ∙ ap (λ (l : List Op). stepped r.parts l (length (items_of plan c)) plan.tries actions.Lose Done (shown_now plan c x)) (no_ops ∙ ap ops_of (sym (item_is here)))
          ∙ ap (stepped r.parts (ops_of item) (length (items_of plan c)) plan.tries actions.Lose Done) (sym (present.is_runner a.turn here).kept))

      is_erased : (pipeline : PlainPipeline) → pipeline ≡ erased core.pipeline → IsLost plan None pipeline
      is_erased pipeline made = record {
        lost = refl;
        erased = idle_erased pipeline core.pipeline.shape (length core.pipeline.waiting) made;
        shape = ap (λ (p : PlainPipeline). p.shape) made ∙ shape_is plan.shape core.pipeline up_now.now up_now.shows;
        clients =
            ap (λ (p : PlainPipeline). length p.waiting) made
            ∙ length-replicate (length core.pipeline.waiting) nothing
            ∙ clients_are plan.shape core.pipeline up_now.now up_now.shows
            ∙ desks_now
            ∙ clients_stay plan s a.turn.reached;
      }
        where
          nothing : Option PlainFlight
          nothing = None

          h : Holds plan s
          h = holds_up plan s a.turn.reached up_now.now up_now.up

          desks_now : length up_now.now.desks ≡ length s.clients
          desks_now = ap (λ (w : Switch). length w.desks) (sym (same_switch h.up up_now.up)) ∙ h.desks

      pub follows : {new : Runner} → HasStepped plan c item r new actions.Lose Done → (pipeline : PlainPipeline) → pipeline ≡ erased core.pipeline → (history : Recorded) → history ≡ record core.history { items = kept.answered_ones core.history.items }
          → Follows plan s (Client c) (record core { runners = with_item core.runners c new; is_up = false; pipeline = pipeline; history = history })
      unfolding lost
      follows {new} has pipeline made history dropped = record {
        next = lost plan s c x;
        step = moves_to;
        stands = record {
          runners = runners_set plan s.clients core.runners.items c (next_item plan c x) new within a.turn.stands.runners (is_runner has);
          logs = a.turn.stands.logs;
          switch = is_lost refl (is_erased pipeline made);
          locks = locks_lost plan s core.locks c a.turn.stands.locks within (at_loss here).1;
          tuples = a.turn.stands.tuples;
          store = a.turn.stands.store;
          history = ap (λ (h : Recorded). h.items) dropped ∙ ap kept.answered_ones a.turn.stands.history;
          runs = ap (λ (h : Recorded). h.runs) dropped ∙ a.turn.stands.runs;
          refusals = a.turn.stands.refusals;
          refused = a.turn.stands.refused;
          draft = a.turn.stands.draft;
        };
      }
