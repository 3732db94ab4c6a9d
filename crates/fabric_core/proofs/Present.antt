-- What the code knows of a client whose turn it is, and of its next action.
use Rattle.std.proofs.Common.{◌≡◌, ◌≢◌, ℕ, zero, suc, ◌<◌, ◌≤◌, nat_lt, Bool, true, List, [], ◌∷◌, length, get_or, set, unwrap_or, Option, Some, None, inl, inr, refl, sym, ap, subst, ◌∙◌, arith, if◌then◌else◌}
use Rattle.std.specs.Prelude.{sum_by, option_and_then}
use Rattle.std.specs.List.{AllByRecursion}
use Rattle.std.proofs.lemmas.Bool.{cases_lt}
use Rattle.std.proofs.lemmas.Bool.Decides.{nat_tests}
use Rattle.std.proofs.lemmas.List.{get_or_past}
use Rattle.std.proofs.lemmas.List.Sums.{get_or-le-sum_by}
use Rattle.txn_model.specs.declared.op.Op.{Op}
use Rattle.txn_model.specs.declared.stamp.Seen.{Seen}
use Rattle.warm_split.specs.Parts.{IsParts}
use Rattle.catalogue.specs.Plan.{Plan, PlainItem, Run, Lose, items_of, item_of, script_in, script_of}
use Rattle.catalogue.specs.Sound.{IsSound}
use Rattle.catalogue.specs.declared.actor.Actor.TheVariants.{Client}
use Rattle.core_model.specs.State.{ClientState, at_item, script_now, zero_stamp}
use Rattle.core_model.specs.declared.phase.Phase.TheVariants.{Ready, Finished}
use Rattle.core_model.proofs.Decided.{IsDistinct}
use Rattle.core_model.proofs.Legal.{all_distinct}
use Rattle.core_model.proofs.Moves.{moved_client}
use Rattle.client_phase.specs.Fits.{Fits, FitsAny, FitsMet, ops_of}
use Rattle.client_phase.specs.Laws.{HasParts, IsAt, IsAtScript, ClientsFit, Makes}
use Rattle.client_phase.specs.Moves.{move_of}
use Rattle.client_phase.specs.NextAction.{next_action, script_action}
use Rattle.client_phase.specs.Shown.{PlainClient, plain_client, shown_now, shown_met}
use Rattle.client_phase.specs.Stepped.{stepped}
use Rattle.client_phase.specs.declared.action.Action.{Action}
use Rattle.client_phase.specs.declared.action.Met.{Met}
use Rattle.client_phase.proofs.Callers.{clients_fit_their_scripts, met-within}
use Rattle.client_phase.proofs.NextMoves.{actions_are_moves}
use Rattle.fabric_model.specs.Laws.{IsReached}
use Rattle.fabric_model.specs.Room.{IsSmall}
use Rattle.fabric_model.specs.State.{State, client_at}
use Rattle.fabric_model.specs.Step.{client_step, step}
use Rattle.fabric_model.proofs.Present.{clients_stay, present_of}
use Rattle.fabric_model.proofs.SmallBounds.{small_bound}
use Rattle.fabric_model.proofs.SmallStamps.{fits_room}
use Rattle.fabric_core.specs.Drafts.{HasDraftRoom}
use Rattle.fabric_core.specs.Standing.{AreRunners, IsActionIn, IsRunner, IsTurnIn, StandsFor}
use Rattle.fabric_core.specs.Steps.{CanStep, HasStepped}
use Rattle.fabric_core.specs.declared.core_state.CoreState.{CoreState}
use Rattle.fabric_core.specs.declared.draft.Draft.{Draft}
use Rattle.fabric_core.specs.declared.runner.Runner.{Runner}
use Rattle.fabric_core.proofs.Runners.{runner_stepped, runners_set}

-- a client has no more items than all of them
pub few_items : (plan : Plan) (c : ℕ) → IsSound plan → length (items_of plan c) ≤ 4096
few_items plan c sound = by plan.clients c sound.limits.items
  where
    by : (lists : List (List PlainItem)) (d : ℕ) → sum_by length lists ≤ 4096 → length (get_or lists d []) ≤ 4096
    by lists d few = elim (cases_lt d (length lists)) [
      | inl lt ↦ omega (arith, few, get_or-le-sum_by length lists d [] lt)
      | inr past ↦ omega (arith, ap length (get_or_past lists d [] past))
    ]

-- a reached state has made few moves
pub few_moves : (plan : Plan) (s : State) → IsReached plan s → s.moves ≤ 2039808
few_moves plan s reached = omega (arith, (fits_room plan s reached).moves, small_bound plan reached.sound)

module _ {plan : Plan} {core : CoreState} {c at : ℕ} {s : State} (turn : IsTurnIn plan core (Client c) at s) where
  abbrev x : ClientState
  x = client_at s c

  pub within_clients : c < length s.clients
  within_clients = omega (arith, clients_stay plan s turn.reached, turn.within)

  pub within_kept : c < length core.runners.items
  within_kept = omega (arith, within_clients, turn.stands.runners.count)

  pub distinct_now : (d : ℕ) → IsDistinct (script_now plan d (client_at s d))
  distinct_now d = all_distinct plan turn.reached.sound d (client_at s d).seq

  pub last_small : x.last.sub ≤ 2039808
  last_small = omega (arith, ((fits_room plan s turn.reached).last c).sub, few_moves plan s turn.reached)

  pub met_small : (shown_met x x.phase).sub ≤ 2039808
  met_small = met-within x 2039808 (subs x.noted ((fits_room plan s turn.reached).noted c))
    where
      subs : (noted : List Seen) → AllByRecursion (λ seen. IsSmall plan s seen.stamp) noted → AllByRecursion (λ seen. seen.stamp.sub ≤ 2039808) noted
      subs [] all = tt
      subs (seen ∷ noted) all = (omega (arith, all.0.sub, few_moves plan s turn.reached), subs noted all.1)

  pub seq_small : x.phase ≢ Finished → (x.seq ≤ 4096) × (x.refused < plan.tries)
  seq_small active =
      let here = present_of plan s turn.reached c active in
      (omega (arith, here.1, few_items plan c turn.reached.sound), here.2)

  pub step_here : step plan s (Client c) ≡ client_step plan s c x x.phase
  unfolding step
  step_here = ap (λ (b : Bool). if b then client_step plan s c x x.phase else None) (below c (length s.clients) within_clients)
    where
      below : (a b : ℕ) → a < b → nat_lt a b ≡ true
      below a b lt = grind (arith, nat_tests)

  -- the runner at its place
  module _ {r : Runner} (here : r ≡ get_or core.runners.items c r) where
    pub is_runner : IsRunner plan c x r
    is_runner = subst (IsRunner plan c x) (sym here) (turn.stands.runners.each c r within_clients)

    pub has_parts : HasParts plan c x r.parts
    has_parts ops is = subst (λ (l : List Op). IsParts plan.layout l r.parts) (ap (λ (o : Option (List Op)). unwrap_or o []) is) is_runner.parts

    pub clients_fit : ClientsFit plan s c r.parts
    clients_fit = clients_fit_their_scripts plan s c r.parts turn.reached has_parts

    pub seq_kept : r.state.seq ≡ x.seq
    seq_kept = ap (λ (p : PlainClient). p.seq) is_runner.kept

    pub last_kept : r.state.last ≡ x.last
    last_kept = ap (λ (p : PlainClient). p.last) is_runner.kept

module _ {plan : Plan} {core : CoreState} {c at : ℕ} {present : PlainItem} {action : Action} {s : State} (a : IsActionIn plan core c at present action s) where
  abbrev y : ClientState
  y = client_at s c

  module _ {r : Runner} (here : r ≡ get_or core.runners.items c r) where
    kept : plain_client r.state ≡ shown_now plan c y
    kept = (is_runner a.turn here).kept

    next_kept : next_action r.parts (plain_client r.state) (Some present) ≡ action
    next_kept = ap (λ (k : Runner). next_action k.parts (plain_client k.state) (Some present)) here ∙ a.next r

    pub next_now : next_action r.parts (shown_now plan c y) (Some present) ≡ action
    next_now = ap (λ (p : PlainClient). next_action r.parts p (Some present)) (sym kept) ∙ next_kept

    pub item_fits : IsAt plan c y r.parts (Some present)
    item_fits = subst (IsAt plan c y r.parts) a.item (clients_fit a.turn here).at

    pub step_is : step plan s (Client c) ≡ move_of plan s c y action
    step_is =
        step_here a.turn
        ∙ actions_are_moves plan s c y r.parts (clients_fit a.turn here).at
        ∙ ap (λ (o : Option PlainItem). move_of plan s c y (next_action r.parts (shown_now plan c y) o)) a.item
        ∙ ap (move_of plan s c y) next_now

    fits : Fits r.parts present (plain_client r.state)
    fits = subst (Fits r.parts present) (sym kept) (subst (FitsAny r.parts (shown_now plan c y)) a.item (clients_fit a.turn here).fits).1

    pub unfinished : y.phase ≢ Finished
    unfinished = not_finished present item_fits
      where
        not_finished : (item : PlainItem) → IsAt plan c y r.parts (Some item) → y.phase ≢ Finished
        not_finished (Run ops) is = is.unfinished
        not_finished Lose is = λ e. let clash : Ready ≡ Finished = sym is.0 ∙ e in cc

    pub can_step : (met : Met) → FitsMet action met → CanStep plan present r action met
    can_step met meets =
        let small = seq_small a.turn unfinished in
        record {
          fits = fits;
          space = (is_runner a.turn here).space;
          next = sym next_kept;
          meets = meets;
          tries = omega (arith, ap (λ (p : PlainClient). p.refused) kept, small.1);
          seq = omega (arith, ap (λ (p : PlainClient). p.seq) kept, small.0);
          last = omega (arith, ap (λ (p : PlainClient). p.last.sub) kept, last_small a.turn);
          met_sub = omega (arith, ap (λ (p : PlainClient). p.met.sub) kept, met_small a.turn);
        }

    pub item_kept : item_of plan c r.state.seq ≡ Some present
    item_kept = ap (item_of plan c) (seq_kept a.turn here) ∙ a.item

    -- where its item is a script
    module _ {ops : List Op} (is : present ≡ Run ops) where
      pub script_is : script_of plan c y.seq ≡ Some ops
      script_is = ap (option_and_then script_in) (a.item ∙ ap (λ (i : PlainItem). Some i) is)

      pub ops_now : script_now plan c y ≡ ops
      ops_now = ap (λ (o : Option (List Op)). unwrap_or o []) script_is

      pub at_script : IsAtScript plan c y r.parts
      at_script = subst (λ (i : PlainItem). IsAt plan c y r.parts (Some i)) is item_fits

      pub action_is : script_action r.parts (script_now plan c y) (shown_now plan c y) y.phase ≡ action
      action_is =
          ap (λ (l : List Op). script_action r.parts l (shown_now plan c y) y.phase) ops_now
          ∙ ap (λ (i : PlainItem). next_action r.parts (shown_now plan c y) (Some i)) (sym is)
          ∙ next_now

      -- behind its part of the move
      module _ {met : Met} {new : Runner} (next : State) (z : ClientState) (clients : next.clients ≡ set s.clients c z) (has : HasStepped plan c present r new action met) (makes : Makes plan c y r.parts next action met (shown_now plan c y)) where
        pub runner_behind : IsRunner plan c z new
        runner_behind =
            let same : client_at next c ≡ z = ap (λ (l : List ClientState). get_or l c (at_item 0 1 zero_stamp)) clients ∙ moved_client s.clients c z (within_clients a.turn) in
            let as_made : shown_now plan c z ≡ stepped r.parts (ops_of present) (length (items_of plan c)) plan.tries action met (plain_client r.state) =
            ap (shown_now plan c) (sym same)
            ∙ makes
            ∙ ap (λ (l : List Op). stepped r.parts l (length (items_of plan c)) plan.tries action met (shown_now plan c y)) (ops_now ∙ ap ops_of (sym is))
            ∙ ap (stepped r.parts (ops_of present) (length (items_of plan c)) plan.tries action met) (sym kept) in
            runner_stepped plan c present r new action met z y.seq has (seq_kept a.turn here) (is_runner a.turn here).parts (is_runner a.turn here).space as_made

        pub runners_behind : AreRunners plan next.clients (set core.runners.items c new)
        runners_behind =
            subst (λ (l : List ClientState). AreRunners plan l (set core.runners.items c new)) (sym clients)
            (runners_set plan s.clients core.runners.items c z new (within_clients a.turn) a.turn.stands.runners runner_behind)

-- there is a runner at each place
pub some_runner : (runners : List Runner) (c : ℕ) → c < length runners → (r : Runner) × (r ≡ get_or runners c r)
some_runner [] c lt = absurd (omega arith)
some_runner (r ∷ runners) zero lt = (r, refl)
some_runner (r ∷ runners) (suc c) lt = some_runner runners c (omega (arith, lt))

-- ---- with other records in the making

pub stands_redrafted : {plan : Plan} {core : CoreState} {s : State} → StandsFor plan s core → (draft : Draft) → HasDraftRoom draft → StandsFor plan s (record core { draft = draft })
stands_redrafted stands draft room = record {
  runners = stands.runners;
  logs = stands.logs;
  switch = stands.switch;
  locks = stands.locks;
  tuples = stands.tuples;
  store = stands.store;
  history = stands.history;
  runs = stands.runs;
  refusals = stands.refusals;
  refused = stands.refused;
  draft = room;
}

pub redrafted : {plan : Plan} {core : CoreState} {c at : ℕ} {present : PlainItem} {action : Action} {s : State} → IsActionIn plan core c at present action s → (draft : Draft) → HasDraftRoom draft
    → IsActionIn plan (record core { draft = draft }) c at present action s
redrafted a draft room = record {
  turn = record { reached = a.turn.reached; stands = stands_redrafted a.turn.stands draft room; within = a.turn.within; moves = a.turn.moves };
  item = a.item;
  next = a.next;
}

-- a session has at most 8 clients
pub few_clients : {plan : Plan} {core : CoreState} {c at : ℕ} {s : State} → IsTurnIn plan core (Client c) at s → c < 8
few_clients turn = omega (arith, turn.within, turn.reached.sound.limits.clients)
