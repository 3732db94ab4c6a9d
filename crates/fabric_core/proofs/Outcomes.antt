-- A client that takes the answer to its packet does as the model's.
use Rattle.std.proofs.Common.{◌≡◌, ◌≢◌, ℕ, suc, ◌<◌, ◌≤◌, Bool, true, false, List, [], ◌∷◌, ◌++◌, length, get_or, set, Option, Some, None, IsSome, option_map, inr, refl, sym, ap, subst, ◌∙◌, Result, Ok, Err, arith, if◌then◌else◌}
use Rattle.std.specs.Vec.{with_item}
use Rattle.std.proofs.lemmas.List.{length_push, get_or-set_same, get_or-set_other}
use Rattle.port_io.specs.declared.log_rack.RackFault.{RackFault}
use Rattle.port_io.specs.declared.log_rack.RackFault.TheVariants as racks
use Rattle.txn_model.specs.Listed.{Listed}
use Rattle.txn_model.specs.ScriptCheck.{script_fault}
use Rattle.txn_model.specs.declared.op.Op.{Op}
use Rattle.txn_model.specs.declared.pairs.Pair.{Pair}
use Rattle.txn_model.proofs.SerialLaws.{sound_length}
use Rattle.stage_layout.specs.Late.{is_hot}
use Rattle.stage_layout.specs.declared.layout.LayoutRow.{LayoutRow}
use Rattle.history_core.specs.Answers as kept
use Rattle.history_core.specs.Answers.{IsOpenLast}
use Rattle.history_core.specs.Recorded.{Recorded}
use Rattle.history_core.specs.Runs.{Runs, ops_at, runs_of}
use Rattle.switch_packet.specs.Packets.{PlainOutcome}
use Rattle.switch_model.specs.Event.{take_answer}
use Rattle.switch_model.specs.Switch.{Switch, Answer, answer_of}
use Rattle.switch_model.proofs.Effects.{can_take_answer}
use Rattle.pipeline.specs.ModelLaws.{GoesAlong, IsDropped}
use Rattle.pipeline.specs.Plain.{PlainBox, PlainPipeline}
use Rattle.pipeline.specs.Rows.{box_of, dropped}
use Rattle.pipeline.specs.Seen.{boxed}
use Rattle.pipeline.specs.Shows.{Shows}
use Rattle.pipeline.proofs.Events.{answer_shown}
use Rattle.warm_split.specs.Filled.{AreExecuted}
use Rattle.warm_split.specs.Joined.{joined}
use Rattle.warm_split.specs.OpSet.{members}
use Rattle.warm_split.specs.Parts.{IsParts}
use Rattle.warm_split.specs.Sides.{IsOneVisit, found_values, hot_ops}
use Rattle.warm_split.specs.declared.parts.Parts.{Parts}
use Rattle.intent_log.specs.LogText.{outcome_text}
use Rattle.intent_log.specs.Records.{HasPairs}
use Rattle.log_records.specs.Records.{PlainRecords}
use Rattle.catalogue.specs.Plan.{Plan, PlainItem, Run, items_of}
use Rattle.catalogue.specs.declared.actor.Actor.TheVariants.{Client}
use Rattle.core_model.specs.declared.phase.Phase.{Phase}
use Rattle.core_model.specs.declared.phase.Phase.TheVariants.{Ready, Locking, Aborting, Logged, Waiting, Installing, Finished}
use Rattle.core_model.specs.Locks.{cold_ops}
use Rattle.core_model.specs.State.{ClientState, at_item, script_now, zero_stamp}
use Rattle.core_model.proofs.Moves.{moved_client}
use Rattle.client_phase.specs.Fits.{Fits, FitsPhase, FitsScript, ops_of}
use Rattle.client_phase.specs.Laws.{IsAtScript}
use Rattle.client_phase.specs.NextAction.{next_action, script_action}
use Rattle.client_phase.specs.Shown.{PlainClient, plain_client, room_of, shown_now, shown_pairs, taking_pairs}
use Rattle.client_phase.specs.Stepped.{stepped}
use Rattle.client_phase.specs.declared.action.Action.TheVariants.{LogOutcome}
use Rattle.client_phase.specs.declared.action.Met.TheVariants.{Answered}
use Rattle.client_phase.proofs.ModelRows.{rows_are_stepped}
use Rattle.client_phase.proofs.Models.{pairs_are_found}
use Rattle.fabric_model.specs.ColdFacts as cold
use Rattle.fabric_model.specs.Intents.{values_of, with_outcome}
use Rattle.fabric_model.specs.Laws.{IsReached}
use Rattle.fabric_model.specs.State.{Records, State, client_at, log_at, no_records}
use Rattle.fabric_model.specs.Recorded.{has_open}
use Rattle.fabric_model.specs.Step.{replied, step, taken}
use Rattle.fabric_model.proofs.PerClient.{logs_stay}
use Rattle.fabric_model.proofs.Runs.{reached_step}
use Rattle.fabric_model.proofs.SmallStamps.{fits_room}
use Rattle.fabric_core.specs.CoreTurns.{IsTurnOf, Moves, turn_after}
use Rattle.fabric_core.specs.Drafts.{HasDraftRoom}
use Rattle.fabric_core.specs.Racks.{Rack}
use Rattle.fabric_core.specs.RecordTexts.{AddsRecord, text_of}
use Rattle.fabric_core.specs.Standing.{IsActionIn, IsLog, IsRunner, StandsFor}
use Rattle.fabric_core.specs.Steps.{CanStep, HasStepped}
use Rattle.fabric_core.specs.declared.core_state.CoreState.{CoreState}
use Rattle.fabric_core.specs.declared.draft.Draft.{Draft}
use Rattle.fabric_core.specs.declared.runner.Runner.{Runner}
use Rattle.fabric_core.specs.declared.turn.Turn.{Turn}
use Rattle.fabric_core.specs.declared.turn.Turn.TheVariants as turns
use Rattle.fabric_core.proofs.Held.{locks_taken}
use Rattle.fabric_core.proofs.HotPlaces.{some_hot_op}
use Rattle.fabric_core.proofs.LogTexts.{IsAppend, appended_turn, failed_turn, text_with_outcome}
use Rattle.fabric_core.proofs.Logs.{logs_set, room_for_all}
use Rattle.fabric_core.proofs.NextActions.{outcome_is}
use Rattle.fabric_core.proofs.PacketMoves.{takes_from_none, takes_move, takes_nothing}
use Rattle.fabric_core.proofs.PartsOfScripts.{members_are}
use Rattle.fabric_core.proofs.Posts as posts
use Rattle.fabric_core.proofs.Present as present
use Rattle.fabric_core.proofs.Replies as facts
use Rattle.fabric_core.proofs.Runners.{runner_stepped, runners_set}
use Rattle.fabric_core.proofs.Switches.{is_switch}

same_some : {T : Type 0} {a b : T} → Some a ≡ Some b → a ≡ b
same_some e = cc

some_of : {T : Type 0} (o : Option T) → IsSome o → (x : T) × (o ≡ Some x)
some_of None is = cc
some_of (Some x) is = (x, refl)

few_hot : (rows : List LayoutRow) (ops : List Op) → length (hot_ops rows ops) ≤ length ops
few_hot rows [] = omega arith
few_hot rows (op ∷ ops) = by (is_hot rows op.tuple) (few_hot rows ops)
  where
    by : (b : Bool) → length (hot_ops rows ops) ≤ length ops → length (if b then op ∷ hot_ops rows ops else hot_ops rows ops) ≤ suc (length ops)
    by true lt = omega (arith, lt)
    by false lt = omega (arith, lt)

-- ---- an answer in a box

pub record Got (now : Switch) (c number : ℕ) : Type 0 where
  pub answer : Answer
  pub said : answer_of now c ≡ Some answer
  pub is : number ≡ answer.number

got_from : (now : Switch) (c number : ℕ) (o : Option Answer) → answer_of now c ≡ o → option_map (λ box. box.number) (option_map boxed o) ≡ Some number → Got now c number
got_from now c number None said e = cc
got_from now c number (Some answer) said e = record { answer = answer; said = said; is = sym (same_some e) }

none_from : (o : Option Answer) → option_map (λ box. box.number) (option_map boxed o) ≡ None → o ≡ None
none_from None e = refl
none_from (Some answer) e = cc

-- ---- a client with other pairs

other_pairs : (parts : Parts) (ops : List Op) (p : PlainClient) (pairs : List Pair) (q : Phase) → script_action parts ops (record p { pairs = pairs }) q ≡ script_action parts ops p q
other_pairs parts ops p pairs Ready = refl
other_pairs parts ops p pairs Locking = refl
other_pairs parts ops p pairs Aborting = refl
other_pairs parts ops p pairs Logged = refl
other_pairs parts ops p pairs Waiting = refl
other_pairs parts ops p pairs Installing = refl
other_pairs parts ops p pairs Finished = refl

same_next : (parts : Parts) (item : PlainItem) (ops : List Op) (p : PlainClient) (pairs : List Pair) → item ≡ Run ops → next_action parts (record p { pairs = pairs }) (Some item) ≡ next_action parts p (Some item)
same_next parts item ops p pairs is =
    ap (λ (i : PlainItem). next_action parts (record p { pairs = pairs }) (Some i)) is ∙ other_pairs parts ops p pairs p.phase ∙ ap (λ (i : PlainItem). next_action parts p (Some i)) (sym is)

fits_joined : (parts : Parts) (item : PlainItem) (ops : List Op) (p : PlainClient) (pairs : List Pair) → item ≡ Run ops → p.phase ≡ Waiting → length pairs ≡ length ops → Fits parts item p → Fits parts item (record p { pairs = pairs })
fits_joined parts item ops p pairs is waits size fits =
    let new : PlainClient = record p { pairs = pairs } in
    let at : FitsScript parts ops p Waiting = subst (FitsScript parts ops p) waits (subst (λ (i : PlainItem). FitsPhase parts i p) is fits.phase) in
    record {
      phase = subst (λ (i : PlainItem). FitsPhase parts i new) (sym is) (subst (FitsScript parts ops new) (sym waits) (at.0, size));
      locked = fits.locked;
      installed = fits.installed;
    }

-- where the switch is lost it takes no answer
pub stays_lost : {plan : Plan} {core : CoreState} {c at : ℕ} {item : PlainItem} {s : State} → IsActionIn plan core c at item LogOutcome s → core.is_up ≡ false → {ops : List Op} → item ≡ Run ops → step plan s (Client c) ≡ None
stays_lost {plan} {core} {c} {at} {item} {s} a down is =
    let x = client_at s c in
    let r = present.some_runner core.runners.items c (present.within_kept a.turn) in
    takes_from_none plan s c (a.turn.stands.switch.lost down).lost (present.within_clients a.turn) (outcome_is r.0.parts (script_now plan c x) (shown_now plan c x) x.phase (present.action_is a r.1 is))

module _ {plan : Plan} {core : CoreState} {c at : ℕ} {item : PlainItem} {s : State} (a : IsActionIn plan core c at item LogOutcome s) (is_up : core.is_up ≡ true) {ops : List Op} (is : item ≡ Run ops)
    {r : Runner} (here : r ≡ get_or core.runners.items c r) where
  abbrev x : ClientState
  x = client_at s c

  abbrev script : List Op
  script = script_now plan c x

  reached : IsReached plan s
  reached = a.turn.reached

  at_script : IsAtScript plan c x r.parts
  at_script = present.at_script a here is

  waiting : x.phase ≡ Waiting
  waiting = outcome_is r.parts script (shown_now plan c x) x.phase (present.action_is a here is)

  abbrev now : Switch
  now = (a.turn.stands.switch.up is_up).now

  within : c < length s.clients
  within = present.within_clients a.turn

  within_logs : c < length s.logs
  within_logs = omega (arith, within, logs_stay plan s reached)

  pub within_kept_logs : c < length core.logs.items
  within_kept_logs = omega (arith, within_logs, a.turn.stands.logs.count)

  same_ops : script ≡ ops
  same_ops = present.ops_now a here is

  all_locks : length x.noted ≡ length (cold_ops plan.layout script)
  all_locks = let fit : cold.FitsPhase plan c x Waiting = subst (cold.FitsPhase plan c x) waiting at_script.fits in fit.0

  kept_now : plain_client r.state ≡ shown_now plan c x
  kept_now = (present.is_runner a.turn here).kept

  pairs_now : r.state.pairs.items ≡ taking_pairs plan.layout script x.noted
  pairs_now = ap (λ (p : PlainClient). p.pairs) kept_now ∙ by x.phase waiting
    where
      by : (q : Phase) → q ≡ Waiting → shown_pairs plan.layout script x q ≡ taking_pairs plan.layout script x.noted
      by q e = ap (shown_pairs plan.layout script x) e

  seq_now : r.state.seq ≡ x.seq
  seq_now = present.seq_kept a.turn here

  box_now : box_of core.pipeline c ≡ option_map boxed (answer_of now c)
  box_now = (answer_shown plan.shape now core.pipeline c (a.turn.stands.switch.up is_up).shows).box

  -- ---- without an answer

  pub stays : (result : Option ℕ) → result ≡ option_map (λ box. box.number) (box_of core.pipeline c) → result ≡ None → step plan s (Client c) ≡ None
  stays result told none =
      takes_nothing plan s c now (a.turn.stands.switch.up is_up).up within waiting (none_from (answer_of now c) (ap (option_map (λ (box : PlainBox). box.number)) (sym box_now) ∙ sym told ∙ none))

  pub fit : script_fault ops ≡ None
  fit = ap script_fault (sym same_ops) ∙ at_script.visit.script

  found_now : AreExecuted r.parts.before script (taking_pairs plan.layout script x.noted)
  found_now = (pairs_are_found plan.layout script r.parts x.noted at_script.visit at_script.sets all_locks).filled

  pub filled_now : AreExecuted r.parts.before ops r.state.pairs.items
  filled_now = subst (λ (l : List Op). AreExecuted r.parts.before l r.state.pairs.items) same_ops (subst (AreExecuted r.parts.before script) (sym pairs_now) found_now)

  -- ---- with one

  module _ {number : ℕ} {result : Option ℕ} (told : result ≡ option_map (λ box. box.number) (box_of core.pipeline c)) (some : result ≡ Some number) where
    pub got : Got now c number
    got = got_from now c number (answer_of now c) refl (ap (option_map (λ (box : PlainBox). box.number)) (sym box_now) ∙ sym told ∙ some)

    abbrev answer : Answer
    answer = got.answer

    abbrev reply : List Pair
    reply = joined plan.layout script (values_of x.noted) answer.pairs

    pub can : (next : Switch) × (take_answer now c ≡ Some next)
    can = some_of (take_answer now c) (can_take_answer now c answer got.said)

    abbrev pub next : State
    next = taken plan s c x answer can.0

    pub moves_to : step plan s (Client c) ≡ Some next
    moves_to = takes_move plan s c now (a.turn.stands.switch.up is_up).up answer can.0 within waiting got.said can.1

    reached_next : IsReached plan next
    reached_next = reached_step plan s next (Client c) reached moves_to

    abbrev z : ClientState
    z = replied plan c x (record { number = answer.number; sub = 0 }) reply

    clients_next : next.clients ≡ set s.clients c z
    unfolding taken
    clients_next = refl

    -- the answer's pairs
    module _ {hot : List Pair} (given : option_map (λ box. box.pairs) (box_of core.pipeline c) ≡ Some hot) where
      hot_is : hot ≡ answer.pairs
      hot_is = sym (same_some (ap (λ (o : Option Answer). option_map (λ (box : PlainBox). box.pairs) (option_map boxed o)) (sym got.said) ∙ ap (option_map (λ (box : PlainBox). box.pairs)) (sym box_now) ∙ given))

      as_many : length hot ≡ length (hot_ops plan.layout script)
      as_many = ap length hot_is ∙ facts.as_many_hot plan s reached c now (a.turn.stands.switch.up is_up).up answer got.said

      pub hot_count : length hot ≡ members r.parts.hot (length ops)
      hot_count = as_many ∙ sym (members_are plan.layout script r.parts at_script.visit at_script.sets) ∙ ap (λ (l : List Op). members r.parts.hot (length l)) same_ops

      -- the packet has an operation
      some_many : 1 ≤ length hot
      some_many = omega (arith, as_many, not_none (hot_ops plan.layout script) (some_hot_op plan.layout script (posts.has_hot_waiting plan s reached c waiting)))
        where
          not_none : (l : List Op) → l ≢ [] → 1 ≤ length l
          not_none [] n = absurd (n refl)
          not_none (op ∷ l) n = omega arith

      pub few : length hot ≤ 16
      few = omega (arith, as_many, few_hot plan.layout script, sound_length script at_script.visit.script)

      -- the record, as it is made
      module _ (outcome_made : PlainOutcome) (seq : ℕ) (same : seq ≡ r.state.seq) (made : outcome_made ≡ record { seq = seq; number = number; pairs = hot }) where
        abbrev told_one : PlainOutcome
        told_one = record { seq = x.seq; number = answer.number; pairs = answer.pairs }

        told_is : outcome_made ≡ told_one
        told_is =
            made ∙ ap (λ (n : ℕ). record { seq = n; number = number; pairs = hot }) (same ∙ seq_now) ∙ ap (λ (n : ℕ). record { seq = x.seq; number = n; pairs = hot }) got.is
            ∙ ap (λ (l : List Pair). record { seq = x.seq; number = answer.number; pairs = l }) hot_is

        pub some_pairs : HasPairs outcome_made
        some_pairs = subst HasPairs (sym made) (some_many, few)

        pub adds : AddsRecord plan s c (outcome_text outcome_made)
        unfolding taken
        adds = record { next = next; step = moves_to; more = inr (told_one, get_or-set_same s.logs c (with_outcome told_one (log_at s c)) no_records within_logs, ap outcome_text told_is) }

        pub longer : text_of (log_at next c) ≡ text_of (log_at s c) ++ outcome_text outcome_made
        unfolding taken
        longer =
            ap text_of (get_or-set_same s.logs c (with_outcome told_one (log_at s c)) no_records within_logs)
            ∙ text_with_outcome plan s reached c told_one (ap has_open waiting)
            ∙ ap (λ (o : PlainOutcome). text_of (log_at s c) ++ outcome_text o) (sym told_is)

      pub others : (d : ℕ) → d ≢ c → log_at next d ≡ log_at s d
      unfolding taken
      others d n = get_or-set_other s.logs c d (with_outcome (record { seq = x.seq; number = answer.number; pairs = answer.pairs }) (log_at s c)) no_records n

      -- the log of the client
      module _ {log : PlainRecords} (there : log ≡ get_or core.logs.items c log) where
        is_log : IsLog plan c (log_at s c) log
        is_log = subst (IsLog plan c (log_at s c)) (sym there) (a.turn.stands.logs.each c log within_logs)

        abbrev outcome : PlainOutcome
        outcome = record { seq = x.seq; number = answer.number; pairs = answer.pairs }

        pub has_room : length log.outcomes < log.room
        unfolding taken
        has_room = omega (
          arith,
          (fits_room plan next reached_next).outcomes c,
          ap (λ (l : Records). length l.outcomes) (get_or-set_same s.logs c (with_outcome outcome (log_at s c)) no_records within_logs),
          length_push (log_at s c).outcomes outcome,
          ap length is_log.outcomes,
          is_log.space,
          room_for_all plan.layout script (length (items_of plan c)) (posts.has_hot_waiting plan s reached c waiting),
        )

        logs_next : (seq : ℕ) (new : PlainRecords) → seq ≡ r.state.seq → new ≡ record log { outcomes = log.outcomes ++ record { seq = seq; number = number; pairs = hot } ∷ [] } → IsLog plan c (with_outcome outcome (log_at s c)) new
        logs_next seq new same pushed = record {
          intents = ap (λ (l : PlainRecords). l.intents) pushed ∙ is_log.intents;
          outcomes =
              ap (λ (l : PlainRecords). l.outcomes) pushed ∙ ap (λ (l : List PlainOutcome). l ++ record { seq = seq; number = number; pairs = hot } ∷ []) is_log.outcomes
              ∙ ap (λ (n : ℕ). (log_at s c).outcomes ++ record { seq = n; number = number; pairs = hot } ∷ []) (same ∙ seq_now)
              ∙ ap (λ (n : ℕ). (log_at s c).outcomes ++ record { seq = x.seq; number = n; pairs = hot } ∷ []) got.is
              ∙ ap (λ (l : List Pair). (log_at s c).outcomes ++ record { seq = x.seq; number = answer.number; pairs = l } ∷ []) hot_is;
          space = ap (λ (l : PlainRecords). l.room) pushed ∙ is_log.space;
        }

      -- the pairs that were joined
      module _ (pairs : Listed Pair) (items : (rows : List LayoutRow) → IsOneVisit rows ops → IsParts rows ops r.parts → pairs.items ≡ joined rows ops (found_values rows ops r.state.pairs.items) hot) where
        reply_is : pairs.items ≡ reply
        reply_is =
            items plan.layout (subst (IsOneVisit plan.layout) same_ops at_script.visit) (subst (λ (l : List Op). IsParts plan.layout l r.parts) same_ops at_script.sets)
            ∙ ap (λ (l : List Op). joined plan.layout l (found_values plan.layout l r.state.pairs.items) hot) (sym same_ops)
            ∙ ap (λ (l : List Pair). joined plan.layout script (found_values plan.layout script l) hot) pairs_now
            ∙ ap (λ values. joined plan.layout script values hot) (pairs_are_found plan.layout script r.parts x.noted at_script.visit at_script.sets all_locks).found
            ∙ ap (joined plan.layout script (values_of x.noted)) hot_is

        as_many_joined : length pairs.items ≡ length script
        as_many_joined = ap length reply_is ∙ facts.as_many_pairs plan s reached c now (a.turn.stands.switch.up is_up).up answer got.said

        pub is_open : (seq : ℕ) → seq ≡ r.state.seq → IsOpenLast c seq core.history.items
        is_open seq same =
            subst (λ (n : ℕ). IsOpenLast c n core.history.items) (sym (same ∙ seq_now))
            (subst (IsOpenLast c x.seq) (sym a.turn.stands.history) (facts.is_open plan s reached c now (a.turn.stands.switch.up is_up).up answer got.said))

        pub has_pairs : (seq : ℕ) → seq ≡ r.state.seq → ops_at core.history.runs c seq ≡ Some (length pairs.items)
        has_pairs seq same =
            ap (λ (runs : Runs). ops_at runs c seq) a.turn.stands.runs ∙ ap (ops_at (runs_of plan) c) (same ∙ seq_now) ∙ facts.operations plan s reached c now (a.turn.stands.switch.up is_up).up answer got.said
            ∙ ap (λ (n : ℕ). Some n) (sym as_many_joined)

        -- the client with the joined pairs
        abbrev joined_one : Runner
        joined_one = record r { state = record r.state { pairs = pairs } }

        waits_kept : (plain_client r.state).phase ≡ Waiting
        waits_kept = ap (λ (p : PlainClient). p.phase) kept_now ∙ waiting

        room_joined : pairs.spare ≡ r.state.pairs.spare → 16 ≤ room_of joined_one.state
        room_joined spare = omega (arith, (present.is_runner a.turn here).space, spare, as_many_joined, filled_now.size, ap length same_ops)

        pub can_step : pairs.spare ≡ r.state.pairs.spare → CanStep plan item joined_one LogOutcome (Answered number)
        can_step spare =
            let before = present.can_step a here (Answered number) tt in
            record {
              fits = fits_joined r.parts item ops (plain_client r.state) pairs.items is waits_kept (as_many_joined ∙ ap length same_ops) before.fits;
              space = room_joined spare;
              next = before.next ∙ sym (same_next r.parts item ops (plain_client r.state) pairs.items is);
              meets = tt;
              tries = before.tries;
              seq = before.seq;
              last = before.last;
              met_sub = before.met_sub;
            }

        module _ {new : Runner} (has : HasStepped plan c item joined_one new LogOutcome (Answered number)) (spare : pairs.spare ≡ r.state.pairs.spare) where
          shown_joined : plain_client joined_one.state ≡ record (shown_now plan c x) { pairs = reply }
          shown_joined = ap (λ (p : PlainClient). record p { pairs = pairs.items }) kept_now ∙ ap (λ (l : List Pair). record (shown_now plan c x) { pairs = l }) reply_is

          makes : shown_now plan c z ≡ stepped r.parts (ops_of item) (length (items_of plan c)) plan.tries LogOutcome (Answered number) (plain_client joined_one.state)
          makes =
              ap (shown_now plan c) (sym (ap (λ (l : List ClientState). get_or l c (at_item 0 1 zero_stamp)) clients_next ∙ moved_client s.clients c z within))
              ∙ (rows_are_stepped plan s c x r.parts within at_script).taken answer can.0 waiting
              ∙ ap (λ (l : List Op). stepped r.parts l (length (items_of plan c)) plan.tries LogOutcome (Answered answer.number) (record (shown_now plan c x) { pairs = reply })) (same_ops ∙ ap ops_of (sym is))
              ∙ ap (λ (n : ℕ). stepped r.parts (ops_of item) (length (items_of plan c)) plan.tries LogOutcome (Answered n) (record (shown_now plan c x) { pairs = reply })) (sym got.is)
              ∙ ap (stepped r.parts (ops_of item) (length (items_of plan c)) plan.tries LogOutcome (Answered number)) (sym shown_joined)

          new_is : IsRunner plan c z new
          new_is = runner_stepped plan c item joined_one new LogOutcome (Answered number) z x.seq has seq_now at_script.sets (room_joined spare) makes

          goes : GoesAlong plan.shape (Some (dropped core.pipeline c)) (Some can.0)
          goes = subst (GoesAlong plan.shape (Some (dropped core.pipeline c))) can.1
              (subst (IsDropped plan.shape core.pipeline now c) got.said (answer_shown plan.shape now core.pipeline c (a.turn.stands.switch.up is_up).shows).dropped)

          pub stands_next : {log : PlainRecords} (there : log ≡ get_or core.logs.items c log) (seq : ℕ) → seq ≡ r.state.seq → (log_new : PlainRecords) → log_new ≡ record log { outcomes = log.outcomes ++ record { seq = seq; number = number; pairs = hot } ∷ [] }
              → (history : Recorded) → history ≡ record core.history { items = kept.with_reply c seq pairs.items core.history.items } → (pipeline : PlainPipeline) → pipeline ≡ dropped core.pipeline c
              → StandsFor plan next (record core { runners = with_item core.runners c new; logs = with_item core.logs c log_new; pipeline = pipeline; history = history })
          unfolding taken
          stands_next there seq same log_new pushed history replied_to pipeline is_dropped = record {
            runners = runners_set plan s.clients core.runners.items c z new within a.turn.stands.runners new_is;
            logs = logs_set plan s.logs core.logs.items c (with_outcome (record { seq = x.seq; number = answer.number; pairs = answer.pairs }) (log_at s c)) log_new within_logs a.turn.stands.logs (logs_next there seq log_new same pushed);
            switch = is_switch is_up (record { now = can.0; up = refl; shows = subst (λ (p : PlainPipeline). Shows plan.shape p can.0) (sym (same_some goes.1) ∙ sym is_dropped) goes.2 });
            locks = locks_taken plan s core.locks c answer can.0 a.turn.stands.locks within;
            tuples = a.turn.stands.tuples;
            store = a.turn.stands.store;
            history =
                ap (λ (h : Recorded). h.items) replied_to
                ∙ ap (λ (n : ℕ). kept.with_reply c n pairs.items core.history.items) (same ∙ seq_now)
                ∙ ap (λ (l : List Pair). kept.with_reply c x.seq l core.history.items) reply_is
                ∙ ap (kept.with_reply c x.seq reply) a.turn.stands.history
                ∙ sym (facts.replies_agree plan s reached c now (a.turn.stands.switch.up is_up).up answer got.said reply);
            runs = ap (λ (h : Recorded). h.runs) replied_to ∙ a.turn.stands.runs;
            refusals = a.turn.stands.refusals;
            refused = a.turn.stands.refused;
            draft = a.turn.stands.draft;
          }

-- a fault of an append is no idle turn
pub fault_moves : (c : ℕ) (fault : RackFault) → turn_after c fault ≡ turns.Idle → ⊥
fault_moves c racks.Failed e = cc
fault_moves c racks.NoMemory e = cc

module _ {plan : Plan} {core : CoreState} {c at : ℕ} {item : PlainItem} {s : State} (a : IsActionIn plan core c at item LogOutcome s) (is_up : core.is_up ≡ true) {ops : List Op} (is : item ≡ Run ops)
    {r : Runner} (here : r ≡ get_or core.runners.items c r) {number : ℕ} {result : Option ℕ} (told : result ≡ option_map (λ box. box.number) (box_of core.pipeline c)) (some : result ≡ Some number)
    {hot : List Pair} (given : option_map (λ box. box.pairs) (box_of core.pipeline c) ≡ Some hot) (draft : Draft) (room : HasDraftRoom draft) (outcome : PlainOutcome) (seq : ℕ) (same : seq ≡ r.state.seq)
    (made : outcome ≡ record { seq = seq; number = number; pairs = hot }) {old new : Rack} {answered : Result (Unit {0}) RackFault} (app : IsAppend c (outcome_text outcome) old new answered) where
  -- its outcome could not be appended
  pub failed : (fault : RackFault) → answered ≡ Err fault → (turn : Turn) → turn ≡ turn_after c fault → IsTurnOf plan s (Client c) core (record core { draft = draft }) old new turn
  failed fault err turn same_turn = subst (IsTurnOf plan s (Client c) core (record core { draft = draft }) old new) (sym same_turn)
      (failed_turn plan s c (outcome_text outcome) old new answered app a.turn.within (adds a is_up is here told some given outcome seq same made) core (record core { draft = draft }) fault err (present.stands_redrafted a.turn.stands draft room))

  -- it was, and the client moved
  pub moved : (done : Unit {0}) → answered ≡ Ok done → (pairs : Listed Pair) (items : (rows : List LayoutRow) → IsOneVisit rows ops → IsParts rows ops r.parts → pairs.items ≡ joined rows ops (found_values rows ops r.state.pairs.items) hot)
      → {new_runner : Runner} → HasStepped plan c item (record r { state = record r.state { pairs = pairs } }) new_runner LogOutcome (Answered number) → pairs.spare ≡ r.state.pairs.spare
      → {log : PlainRecords} (there : log ≡ get_or core.logs.items c log) (log_new : PlainRecords) → log_new ≡ record log { outcomes = log.outcomes ++ record { seq = seq; number = number; pairs = hot } ∷ [] }
      → (history : Recorded) → history ≡ record core.history { items = kept.with_reply c seq pairs.items core.history.items } → (pipeline : PlainPipeline) → pipeline ≡ dropped core.pipeline c
      → Moves plan s (Client c) (record core { runners = with_item core.runners c new_runner; logs = with_item core.logs c log_new; pipeline = pipeline; history = history; draft = draft }) old new
  moved done ok pairs items has spare there log_new pushed history replied_to pipeline is_dropped =
      let b = present.redrafted a draft room in
      appended_turn plan s c (outcome_text outcome) old new answered app a.turn.within (adds b is_up is here told some given outcome seq same made) (next b is_up is here told some) _ done ok (moves_to b is_up is here told some)
      (stands_next b is_up is here told some given pairs items has spare there seq same log_new pushed history replied_to pipeline is_dropped) (others b is_up is here told some given) (longer b is_up is here told some given outcome seq same made)
