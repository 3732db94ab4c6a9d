-- A client that logs its intent does as the model's.
use Rattle.std.proofs.Common.{◌≡◌, ◌≢◌, ℕ, ◌<◌, ◌≤◌, not, Bool, true, false, List, [], ◌∷◌, ◌++◌, length, get_or, set, Some, None, inl, inr, refl, sym, ap, ap₂, subst, ◌∙◌, Result, Ok, Err, arith}
use Rattle.std.specs.Vec.{with_item}
use Rattle.std.proofs.lemmas.List.{length_push, get_or-set_same, get_or-set_other}
use Rattle.std.proofs.lemmas.Option.{slice_get_past}
use Rattle.port_io.specs.declared.log_rack.RackFault.{RackFault}
use Rattle.txn_model.specs.declared.op.Op.{Op}
use Rattle.txn_model.specs.declared.pairs.Pair.{Pair}
use Rattle.txn_model.specs.declared.stamp.Stamp.{Stamp}
use Rattle.txn_model.proofs.SerialLaws.{sound_length}
use Rattle.history_model.specs.History.{greater}
use Rattle.switch_packet.specs.Packets.{PlainIntent, PlainPacket}
use Rattle.switch_packet.specs.Ranges.{Fits}
use Rattle.switch_packet.specs.declared.packet.Packet.{Packet}
use Rattle.intent_log.specs.LogText.{intent_text}
use Rattle.warm_split.specs.Filled.{AreExecuted}
use Rattle.warm_split.specs.Parts.{IsParts}
use Rattle.warm_split.specs.Resolved.{packet_of}
use Rattle.warm_split.specs.Sides.{HasPlaces, IsOneVisit, found_values, hot_ops}
use Rattle.log_records.specs.Records.{PlainRecords}
use Rattle.catalogue.specs.Plan.{Plan, PlainItem, Run, items_of}
use Rattle.catalogue.specs.declared.actor.Actor.TheVariants.{Client}
use Rattle.core_model.specs.declared.phase.Phase.TheVariants.{Ready, Locking, Logged}
use Rattle.core_model.specs.Decision.{greatest}
use Rattle.core_model.specs.Locks.{cold_ops}
use Rattle.core_model.specs.State.{ClientState, at_item, script_now, zero_stamp}
use Rattle.core_model.proofs.Moves.{moved_client}
use Rattle.client_phase.specs.ColdNumbers.{cold_count, is_cold}
use Rattle.client_phase.specs.Laws.{IsAtScript, Makes}
use Rattle.client_phase.specs.Shown.{PlainClient, plain_client, shown_now, shown_met, taking_pairs}
use Rattle.client_phase.specs.Stepped.{pairs_to_fill}
use Rattle.client_phase.specs.declared.action.Action.TheVariants.{LogIntent}
use Rattle.client_phase.specs.declared.action.Met.TheVariants.{Done}
use Rattle.client_phase.proofs.ModelRows.{rows_are_stepped}
use Rattle.client_phase.proofs.Models.{commits_are_the_models, pairs_are_found}
use Rattle.client_phase.proofs.Rows.{count_is}
use Rattle.client_phase.proofs.Stamps.{greatest-from_zero}
use Rattle.fabric_model.specs.ColdFacts.{FitsPhase}
use Rattle.fabric_model.specs.Intents.{intent_now, packet_now, values_of, with_intent}
use Rattle.fabric_model.specs.Laws.{IsReached}
use Rattle.fabric_model.specs.State.{Records, State, client_at, log_at, no_records}
use Rattle.fabric_model.specs.Step.{has_hot, logged, next_op, step}
use Rattle.fabric_model.specs.Recorded.{has_open}
use Rattle.fabric_model.proofs.Fitting.{packets_have_ranges}
use Rattle.fabric_model.proofs.PerClient.{logs_stay}
use Rattle.fabric_model.proofs.Runs.{reached_step}
use Rattle.fabric_model.proofs.SmallStamps.{fits_room}
use Rattle.fabric_core.specs.CoreTurns.{IsTurnOf, Moves, turn_after}
use Rattle.fabric_core.specs.Drafts.{HasDraftRoom}
use Rattle.fabric_core.specs.Racks.{Rack}
use Rattle.fabric_core.specs.RecordTexts.{AddsRecord, text_of}
use Rattle.fabric_core.specs.Standing.{AreRunners, IsActionIn, IsLog, StandsFor}
use Rattle.fabric_core.specs.Steps.{HasStepped}
use Rattle.fabric_core.specs.declared.core_state.CoreState.{CoreState}
use Rattle.fabric_core.specs.declared.draft.Draft.{Draft}
use Rattle.fabric_core.specs.declared.runner.Runner.{Runner}
use Rattle.fabric_core.specs.declared.turn.Turn.{Turn}
use Rattle.fabric_core.proofs.Held.{locks_logged}
use Rattle.fabric_core.proofs.HotPlaces.{has_places, some_hot_op}
use Rattle.fabric_core.proofs.LogTexts.{IsAppend, appended_turn, failed_turn, text_with_intent}
use Rattle.fabric_core.proofs.Logs.{logs_set, room_for_all}
use Rattle.fabric_core.proofs.NextActions.{MayAsk, log_is}
use Rattle.fabric_core.proofs.Present as present

not_false : (b : Bool) → false ≡ not b → b ≡ true
not_false true e = refl
not_false false e = cc

module _ {plan : Plan} {core : CoreState} {c at : ℕ} {item : PlainItem} {s : State} (a : IsActionIn plan core c at item LogIntent s) {ops : List Op} (is : item ≡ Run ops)
    {r : Runner} (here : r ≡ get_or core.runners.items c r) where
  abbrev x : ClientState
  x = client_at s c

  abbrev script : List Op
  script = script_now plan c x

  reached : IsReached plan s
  reached = a.turn.reached

  at_script : IsAtScript plan c x r.parts
  at_script = present.at_script a here is

  says : MayAsk x.phase × (cold_count r.parts script ≤ length x.noted) × (is_cold r.parts script ≡ false)
  says = log_is r.parts script (shown_now plan c x) x.phase (present.action_is a here is)

  all_locks : length x.noted ≡ length (cold_ops plan.layout script)
  all_locks = by says.0
    where
      count : cold_count r.parts script ≡ length (cold_ops plan.layout script)
      count = count_is plan.layout script r.parts at_script.sets

      by : MayAsk x.phase → length x.noted ≡ length (cold_ops plan.layout script)
      by (inl e) = let fit : FitsPhase plan c x Ready = subst (FitsPhase plan c x) e at_script.fits in omega (arith, says.1, count, ap length fit.0)
      by (inr e) = let fit : FitsPhase plan c x Locking = subst (FitsPhase plan c x) e at_script.fits in omega (arith, says.1, count, fit.0)

  next_none : next_op plan c x ≡ None
  next_none = slice_get_past (cold_ops plan.layout script) (length x.noted) (omega (arith, all_locks))

  hot : has_hot plan script ≡ true
  hot = not_false (has_hot plan script) (sym says.2 ∙ commits_are_the_models plan script r.parts at_script.sets)

  pub moves_to : step plan s (Client c) ≡ Some (logged plan s c x)
  moves_to = present.step_is a here

  reached_next : IsReached plan (logged plan s c x)
  reached_next = reached_step plan s (logged plan s c x) (Client c) reached moves_to

  -- the client behind the move
  abbrev y : ClientState
  y = record x { phase = Logged }

  clients_next : (logged plan s c x).clients ≡ set s.clients c y
  unfolding logged
  clients_next = refl

  -- ---- what the packet is made of

  pub visit : IsOneVisit plan.layout ops
  visit = subst (IsOneVisit plan.layout) (present.ops_now a here is) at_script.visit

  pub some_hot : hot_ops plan.layout ops ≢ []
  some_hot = subst (λ (l : List Op). hot_ops plan.layout l ≢ []) (present.ops_now a here is) (some_hot_op plan.layout script hot)

  pub places : HasPlaces plan.shape plan.layout ops
  places = has_places plan.shape plan.tuples plan.layout ops reached.sound.layout

  within_logs : c < length s.logs
  within_logs = omega (arith, present.within_clients a.turn, logs_stay plan s reached)

  pub within_kept_logs : c < length core.logs.items
  within_kept_logs = omega (arith, within_logs, a.turn.stands.logs.count)

  -- its floor
  pub floor_is : (greater r.state.last r.state.met).number ≡ (greatest x.last x.noted).number
  floor_is = ap (λ (t : Stamp). t.number) (
      ap (λ (p : PlainClient). greater p.last p.met) (present.is_runner a.turn here).kept
      ∙ ap (greater x.last) (by says.0)
      ∙ sym (greatest-from_zero x.noted x.last))
    where
      by : MayAsk x.phase → shown_met x x.phase ≡ greatest zero_stamp x.noted
      by (inl e) = let fit : FitsPhase plan c x Ready = subst (FitsPhase plan c x) e at_script.fits in ap (shown_met x) e ∙ ap (greatest zero_stamp) (sym fit.0)
      by (inr e) = ap (shown_met x) e

  -- ---- the packet, which is made before the client moves

  asks : MayAsk x.phase
  asks = says.0

  makes : Makes plan c x r.parts (logged plan s c x) LogIntent Done (shown_now plan c x)
  makes = (rows_are_stepped plan s c x r.parts (present.within_clients a.turn) at_script).logged asks next_none

  same_next : client_at (logged plan s c x) c ≡ y
  same_next = ap (λ (l : List ClientState). get_or l c (at_item 0 1 zero_stamp)) clients_next ∙ moved_client s.clients c y (present.within_clients a.turn)

  filled_is : pairs_to_fill (length ops) (plain_client r.state) ≡ taking_pairs plan.layout script x.noted
  filled_is =
      ap (pairs_to_fill (length ops)) (present.is_runner a.turn here).kept
      ∙ ap (λ (l : List Op). pairs_to_fill (length l) (shown_now plan c x)) (sym (present.ops_now a here is))
      ∙ sym (ap (λ (p : PlainClient). p.pairs) makes)
      ∙ ap (λ (z : ClientState). (shown_now plan c z).pairs) same_next

  pub sets : IsParts plan.layout ops r.parts
  sets = subst (λ (l : List Op). IsParts plan.layout l r.parts) (present.ops_now a here is) at_script.sets

  pub filled : AreExecuted r.parts.before ops (pairs_to_fill (length ops) (plain_client r.state))
  filled = subst (AreExecuted r.parts.before ops) (sym filled_is)
      (subst (λ (l : List Op). AreExecuted r.parts.before l (taking_pairs plan.layout script x.noted)) (present.ops_now a here is) (pairs_are_found plan.layout script r.parts x.noted at_script.visit at_script.sets all_locks).filled)

  -- it is the model's
  packet_is : (p : PlainPacket) → p ≡ packet_of plan.shape plan.layout c r.state.seq ops (found_values plan.layout ops (pairs_to_fill (length ops) (plain_client r.state))) → p ≡ packet_now plan c x
  packet_is p made =
      made
      ∙ ap (λ (l : List Op). packet_of plan.shape plan.layout c r.state.seq l (found_values plan.layout l (pairs_to_fill (length ops) (plain_client r.state)))) (sym (present.ops_now a here is))
      ∙ ap (λ (q : ℕ). packet_of plan.shape plan.layout c q script (found_values plan.layout script (pairs_to_fill (length ops) (plain_client r.state)))) (present.seq_kept a.turn here)
      ∙ ap (λ (l : List Pair). packet_of plan.shape plan.layout c x.seq script (found_values plan.layout script l)) filled_is
      ∙ ap (packet_of plan.shape plan.layout c x.seq script) (pairs_are_found plan.layout script r.parts x.noted at_script.visit at_script.sets all_locks).found

  pub intent_made : (intent : PlainIntent) → intent.floor ≡ (greater r.state.last r.state.met).number → intent.packet ≡ packet_of plan.shape plan.layout c r.state.seq ops (found_values plan.layout ops (pairs_to_fill (length ops) (plain_client r.state))) → intent ≡ intent_now plan c x
  intent_made intent floor made = ap₂ (λ (n : ℕ) (p : PlainPacket). record { floor = n; packet = p }) (floor ∙ floor_is) (packet_is intent.packet made)

  pub few_ops : length ops ≤ 16
  few_ops = sound_length ops visit.script

  pub within_plan : c < length plan.clients
  within_plan = a.turn.within

  -- the record, as it is made
  module _ (intent : PlainIntent) (intent_is : intent ≡ intent_now plan c x) where
    pub fits : Fits intent.packet
    fits = subst Fits (sym (ap (λ (i : PlainIntent). i.packet) intent_is)) (packets_have_ranges plan reached.sound c x.seq (values_of x.noted) hot)

    pub adds : AddsRecord plan s c (intent_text intent)
    unfolding logged
    adds = record { next = logged plan s c x; step = moves_to; more = inl (intent_now plan c x, get_or-set_same s.logs c (with_intent (intent_now plan c x) (log_at s c)) no_records within_logs, ap intent_text intent_is) }

    none_open : has_open x.phase ≡ false
    none_open = by asks
      where
        by : MayAsk x.phase → has_open x.phase ≡ false
        by (inl e) = ap has_open e
        by (inr e) = ap has_open e

    pub longer : text_of (log_at (logged plan s c x) c) ≡ text_of (log_at s c) ++ intent_text intent
    unfolding logged
    longer =
        ap text_of (get_or-set_same s.logs c (with_intent (intent_now plan c x) (log_at s c)) no_records within_logs)
        ∙ text_with_intent plan s reached c (intent_now plan c x) none_open
        ∙ ap (λ (i : PlainIntent). text_of (log_at s c) ++ intent_text i) (sym intent_is)

  pub others : (d : ℕ) → d ≢ c → log_at (logged plan s c x) d ≡ log_at s d
  unfolding logged
  others d n = get_or-set_other s.logs c d (with_intent (intent_now plan c x) (log_at s c)) no_records n

  -- the log of the client
  module _ {log : PlainRecords} (there : log ≡ get_or core.logs.items c log) where
    is_log : IsLog plan c (log_at s c) log
    is_log = subst (IsLog plan c (log_at s c)) (sym there) (a.turn.stands.logs.each c log within_logs)

    -- one more intent has room
    pub has_room : length log.intents < log.room
    unfolding logged
    has_room = omega (
      arith,
      (fits_room plan (logged plan s c x) reached_next).intents c,
      ap (λ (l : Records). length l.intents) (get_or-set_same s.logs c (with_intent (intent_now plan c x) (log_at s c)) no_records within_logs),
      length_push (log_at s c).intents (intent_now plan c x),
      ap length is_log.intents,
      is_log.space,
      room_for_all plan.layout script (length (items_of plan c)) hot,
    )

    pub logs_next : (new : PlainRecords) (intent : PlainIntent) → intent ≡ intent_now plan c x → new ≡ record log { intents = log.intents ++ intent ∷ [] } → IsLog plan c (with_intent (intent_now plan c x) (log_at s c)) new
    logs_next new intent same pushed = record {
      intents = ap (λ (l : PlainRecords). l.intents) pushed ∙ ap (λ (l : List PlainIntent). l ++ intent ∷ []) is_log.intents ∙ ap (λ (i : PlainIntent). (log_at s c).intents ++ i ∷ []) same;
      outcomes = ap (λ (l : PlainRecords). l.outcomes) pushed ∙ is_log.outcomes;
      space = ap (λ (l : PlainRecords). l.room) pushed ∙ is_log.space;
    }

  -- what became of the code's client
  module _ {new : Runner} (has : HasStepped plan c item r new LogIntent Done) where
    pub runners_next : AreRunners plan (logged plan s c x).clients (set core.runners.items c new)
    runners_next = present.runners_behind a here is (logged plan s c x) y clients_next has makes

    pub stands_next : {log : PlainRecords} (there : log ≡ get_or core.logs.items c log) (log_new : PlainRecords) (packet : Packet) (intent : PlainIntent) → intent ≡ intent_now plan c x
        → log_new ≡ record log { intents = log.intents ++ intent ∷ [] } → 16 ≤ packet.ops.spare
        → StandsFor plan (logged plan s c x) (record core { runners = with_item core.runners c new; logs = with_item core.logs c log_new; draft = record core.draft { intent = record core.draft.intent { packet = packet } } })
    unfolding logged
    stands_next there log_new packet intent made pushed room = record {
      runners = runners_next;
      logs = logs_set plan s.logs core.logs.items c (with_intent (intent_now plan c x) (log_at s c)) log_new within_logs a.turn.stands.logs (logs_next there log_new intent made pushed);
      switch = a.turn.stands.switch;
      locks = locks_logged plan s core.locks c a.turn.stands.locks (present.within_clients a.turn);
      tuples = a.turn.stands.tuples;
      store = a.turn.stands.store;
      history = a.turn.stands.history;
      runs = a.turn.stands.runs;
      refusals = a.turn.stands.refusals;
      refused = a.turn.stands.refused;
      draft = record { packet = omega (arith, room); outcome = a.turn.stands.draft.outcome; zeros = a.turn.stands.draft.zeros; text = a.turn.stands.draft.text };
    }

module _ {plan : Plan} {core : CoreState} {c at : ℕ} {item : PlainItem} {s : State} (a : IsActionIn plan core c at item LogIntent s) {ops : List Op} (is : item ≡ Run ops)
    {r : Runner} (here : r ≡ get_or core.runners.items c r) (draft : Draft) (room : HasDraftRoom draft) (intent : PlainIntent) (intent_is : intent ≡ intent_now plan c (client_at s c)) {old new : Rack} {answer : Result (Unit {0}) RackFault}
    (app : IsAppend c (intent_text intent) old new answer) where
  -- its intent could not be appended
  pub failed : (fault : RackFault) → answer ≡ Err fault → (turn : Turn) → turn ≡ turn_after c fault → IsTurnOf plan s (Client c) core (record core { draft = draft }) old new turn
  failed fault err turn same = subst (IsTurnOf plan s (Client c) core (record core { draft = draft }) old new) (sym same)
      (failed_turn plan s c (intent_text intent) old new answer app a.turn.within (adds a is here intent intent_is) core (record core { draft = draft }) fault err (present.stands_redrafted a.turn.stands draft room))

  -- it was, and the client moved
  pub moved : (done : Unit {0}) → answer ≡ Ok done → {new_runner : Runner} → HasStepped plan c item r new_runner LogIntent Done → {log : PlainRecords} (there : log ≡ get_or core.logs.items c log) (log_new : PlainRecords) (packet : Packet)
      → log_new ≡ record log { intents = log.intents ++ intent ∷ [] } → 16 ≤ packet.ops.spare
      → Moves plan s (Client c) (record core { runners = with_item core.runners c new_runner; logs = with_item core.logs c log_new; draft = record draft { intent = record draft.intent { packet = packet } } }) old new
  moved done ok has there log_new packet pushed spare =
      appended_turn plan s c (intent_text intent) old new answer app a.turn.within (adds a is here intent intent_is) (logged plan s c (client_at s c)) _ done ok (moves_to a is here)
      (stands_next (present.redrafted a draft room) is here has there log_new packet intent intent_is pushed spare) (others a is here) (longer a is here intent intent_is)
