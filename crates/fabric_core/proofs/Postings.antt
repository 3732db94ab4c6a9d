-- A client that posts its packet does as the model's.
use Rattle.std.proofs.Common.{◌≡◌, ℕ, ◌+◌, ◌-◌, ◌<◌, ◌≤◌, true, false, List, [], ◌∷◌, ◌++◌, length, get_or, slice_get, Option, Some, None, IsSome, refl, sym, ap, subst, ◌∙◌, arith, if◌then◌else◌}
use Rattle.std.specs.Vec.{with_item}
use Rattle.std.specs.Prelude.{vec_len, vec_capacity}
use Rattle.std.specs.Global.{Vec}
use Rattle.std.proofs.lemmas.List.{length_push}
use Rattle.txn_model.specs.declared.op.Op.{Op}
use Rattle.stage_layout.specs.declared.shape.Shape.{Shape}
use Rattle.switch_packet.specs.PacketText.{packet_text}
use Rattle.switch_packet.specs.Packets.{PlainIntent, PlainPacket, plain, plain_intent}
use Rattle.switch_packet.specs.Ranges.{Fits, IsPacket}
use Rattle.switch_packet.specs.declared.record.Intent.{Intent}
use Rattle.switch_packet.proofs.LengthLaws.{length-packet_text-le}
use Rattle.switch_model.specs.Event.{post}
use Rattle.switch_model.specs.Switch.{Switch}
use Rattle.pipeline.specs.ModelLaws.{GoesAlong, IsPost}
use Rattle.pipeline.specs.Plain.{PlainPipeline}
use Rattle.pipeline.specs.Planned.{HasPlan, IsPosting}
use Rattle.pipeline.specs.Rows as rows
use Rattle.pipeline.specs.Shows.{Shows}
use Rattle.pipeline.proofs.Events.{post_shown}
use Rattle.pipeline.proofs.Shown.{clients_are, shape_is}
use Rattle.log_records.specs.Records.{PlainRecords}
use Rattle.catalogue.specs.Plan.{Plan, PlainItem, Run, Lose, hot_cells}
use Rattle.catalogue.specs.declared.actor.Actor.TheVariants.{Client}
use Rattle.core_model.specs.declared.phase.Phase.{Phase}
use Rattle.core_model.specs.declared.phase.Phase.TheVariants.{Logged, Waiting}
use Rattle.core_model.specs.State.{ClientState, script_now}
use Rattle.client_phase.specs.Laws.{IsAtScript}
use Rattle.client_phase.specs.Shown.{shown_now}
use Rattle.client_phase.specs.declared.action.Action.TheVariants.{Post}
use Rattle.client_phase.specs.declared.action.Met.TheVariants.{Done}
use Rattle.client_phase.proofs.ModelRows.{rows_are_stepped}
use Rattle.fabric_model.specs.Intents.{intent_now, packet_now, values_of}
use Rattle.fabric_model.specs.Laws.{IsReached}
use Rattle.fabric_model.specs.Recorded.{HasRecords, has_open}
use Rattle.fabric_model.specs.State.{State, client_at, log_at}
use Rattle.fabric_model.specs.Step.{has_hot, posted, step}
use Rattle.fabric_model.proofs.Legal.{records_answer}
use Rattle.fabric_model.proofs.Fitting.{packets_are_planned, packets_have_ranges}
use Rattle.fabric_model.proofs.PerClient.{logs_stay}
use Rattle.fabric_core.specs.Standing.{IsActionIn, IsLog, Follows}
use Rattle.fabric_core.specs.Steps.{HasStepped}
use Rattle.fabric_core.specs.declared.core_state.CoreState.{CoreState}
use Rattle.fabric_core.specs.declared.runner.Runner.{Runner}
use Rattle.fabric_core.proofs.Held.{locks_posted}
use Rattle.fabric_core.proofs.Logs.{last_is}
use Rattle.fabric_core.proofs.NextActions.{post_is}
use Rattle.fabric_core.proofs.PacketMoves.{posts_move, posts_nowhere}
use Rattle.fabric_core.proofs.PlannedPosts.{has_plan}
use Rattle.fabric_core.proofs.Posts as facts
use Rattle.fabric_core.proofs.Present as present
use Rattle.fabric_core.proofs.Switches.{is_switch}
use Rattle.fabric_core.proofs.SwitchShown.{switch_reached}

-- such an item is a script
item_is_script : (plan : Plan) (core : CoreState) (c at : ℕ) (item : PlainItem) (s : State) → IsActionIn plan core c at item Post s → (r : Runner) → (ops : List Op) × (item ≡ Run ops)
item_is_script plan core c at (Run ops) s a r = (ops, refl)
item_is_script plan core c at Lose s a r = let no = a.next r in cc

-- where the switch is lost it doesn't move
pub stays : {plan : Plan} {core : CoreState} {c at : ℕ} {item : PlainItem} {s : State} → IsActionIn plan core c at item Post s → core.is_up ≡ false → step plan s (Client c) ≡ None
stays {plan} {core} {c} {at} {item} {s} a down =
    let x = client_at s c in
    let r = present.some_runner core.runners.items c (present.within_kept a.turn) in
    let run = item_is_script plan core c at item s a r.0 in
    posts_nowhere plan s c (a.turn.stands.switch.lost down).lost (present.within_clients a.turn) (post_is r.0.parts (script_now plan c x) (shown_now plan c x) x.phase (present.action_is a r.1 run.1))

some_of : {T : Type 0} (o : Option T) → IsSome o → (x : T) × (o ≡ Some x)
some_of None is = cc
some_of (Some x) is = (x, refl)

same_some : {T : Type 0} {a b : T} → Some a ≡ Some b → a ≡ b
same_some e = cc

module _ {plan : Plan} {core : CoreState} {c at : ℕ} {item : PlainItem} {s : State} (a : IsActionIn plan core c at item Post s) (is_up : core.is_up ≡ true) {r : Runner} (here : r ≡ get_or core.runners.items c r) where
  abbrev x : ClientState
  x = client_at s c

  abbrev script : List Op
  script = script_now plan c x

  reached : IsReached plan s
  reached = a.turn.reached

  run : (ops : List Op) × (item ≡ Run ops)
  run = item_is_script plan core c at item s a r

  at_script : IsAtScript plan c x r.parts
  at_script = present.at_script a here run.1

  is_logged : x.phase ≡ Logged
  is_logged = post_is r.parts script (shown_now plan c x) x.phase (present.action_is a here run.1)

  abbrev now : Switch
  now = (a.turn.stands.switch.up is_up).now

  within : c < length s.clients
  within = present.within_clients a.turn

  hot : has_hot plan script ≡ true
  hot = facts.has_hot_now plan s reached c now (a.turn.stands.switch.up is_up).up is_logged

  within_logs : c < length s.logs
  within_logs = omega (arith, within, logs_stay plan s reached)

  pub within_kept_logs : c < length core.logs.items
  within_kept_logs = omega (arith, within_logs, a.turn.stands.logs.count)

  -- ---- the packet in the log

  records : HasRecords plan s c
  records = records_answer plan s reached c

  intents_are : (log_at s c).intents ≡ records.answered ++ intent_now plan c x ∷ []
  intents_are = records.intents ∙ ap (λ (p : Phase). records.answered ++ (if has_open p then intent_now plan c x ∷ [] else [])) is_logged

  module _ {log : PlainRecords} (there : log ≡ get_or core.logs.items c log) where
    is_log : IsLog plan c (log_at s c) log
    is_log = subst (IsLog plan c (log_at s c)) (sym there) (a.turn.stands.logs.each c log within_logs)

    kept_are : log.intents ≡ records.answered ++ intent_now plan c x ∷ []
    kept_are = is_log.intents ∙ intents_are

    pub some_intent : 1 ≤ length log.intents
    some_intent = omega (arith, ap length kept_are, length_push records.answered (intent_now plan c x))

    module _ (intent : Intent) (last : slice_get log.intents (length log.intents - 1) ≡ Some (plain_intent intent)) where
      pub packet_is : plain intent.packet ≡ packet_now plan c x
      packet_is = ap (λ (i : PlainIntent). i.packet) (last_is records.answered (intent_now plan c x) (plain_intent intent) (subst (λ (l : List PlainIntent). slice_get l (length l - 1) ≡ Some (plain_intent intent)) kept_are last))

      pub packet_fits : Fits (plain intent.packet)
      packet_fits = subst Fits (sym packet_is) (packets_have_ranges plan reached.sound c x.seq (values_of x.noted) hot)

      pub text_has_room : (text : Vec ℕ) → vec_len text ≡ 0 → vec_capacity text ≡ vec_capacity core.draft.text → vec_len text + length (packet_text (plain intent.packet)) ≤ vec_capacity text
      text_has_room text none same =
          omega (arith, length-packet_text-le (plain intent.packet) packet_fits, a.turn.stands.draft.text, none, same)

      -- ---- the switch

      is_post : IsPost plan.shape core.pipeline now c (packet_now plan c x)
      is_post = post_shown plan.shape (hot_cells plan) now core.pipeline c (packet_now plan c x) (switch_reached plan s reached now (a.turn.stands.switch.up is_up).up) (a.turn.stands.switch.up is_up).shows
          (omega (arith, within, facts.desks_now plan s reached c now (a.turn.stands.switch.up is_up).up is_logged))
          (facts.vacant plan s reached c now (a.turn.stands.switch.up is_up).up is_logged)
          (packets_are_planned plan reached.sound c x.seq (values_of x.noted) hot)

      pub is_posting : (bytes : List ℕ) → bytes ≡ packet_text (plain intent.packet) → IsPacket (plain intent.packet) → IsPosting core.pipeline c bytes
      is_posting bytes text is = record {
        packet = packet_now plan c x;
        is_packet = subst IsPacket packet_is is;
        text = text ∙ ap packet_text packet_is;
        own = facts.client_of_packet plan c x;
        planned = subst (λ (shape : Shape). HasPlan shape (packet_now plan c x)) (sym (shape_is plan.shape core.pipeline now (a.turn.stands.switch.up is_up).shows)) (has_plan plan.shape plan.layout c x.seq script (values_of x.noted) (packets_are_planned plan reached.sound c x.seq (values_of x.noted) hot));
        there = omega (arith, within, facts.desks_now plan s reached c now (a.turn.stands.switch.up is_up).up is_logged, clients_are plan.shape core.pipeline now (a.turn.stands.switch.up is_up).shows);
        vacant = is_post.vacant;
      }

      can : (next : Switch) × (post now c (packet_now plan c x) ≡ Some next)
      can = some_of (post now c (packet_now plan c x)) (facts.can_post_now plan s reached c now (a.turn.stands.switch.up is_up).up is_logged within)

      pub follows : {new : Runner} (has : HasStepped plan c item r new Post Done) (pipeline : PlainPipeline) (bytes : List ℕ) (text : Vec ℕ) → bytes ≡ packet_text (plain intent.packet) → IsPacket (plain intent.packet)
          → ((p : PlainPacket) → IsPacket p → bytes ≡ packet_text p → pipeline ≡ rows.posted core.pipeline c p) → vec_capacity text ≡ vec_capacity core.draft.text
          → Follows plan s (Client c) (record core { runners = with_item core.runners c new; pipeline = pipeline; draft = record core.draft { text = text } })
      unfolding posted
      follows {new} has pipeline bytes text is_text is made same = record {
        next = next;
        step = posts_move plan s c now (a.turn.stands.switch.up is_up).up can.0 within is_logged can.1;
        stands = record {
          runners = present.runners_behind a here run.1 next (record x { phase = Waiting }) refl has ((rows_are_stepped plan s c x r.parts within at_script).posted can.0 is_logged);
          logs = a.turn.stands.logs;
          switch = is_switch is_up (record { now = can.0; up = refl; shows = shows });
          locks = locks_posted plan s core.locks c can.0 a.turn.stands.locks within;
          tuples = a.turn.stands.tuples;
          store = a.turn.stands.store;
          history = a.turn.stands.history;
          runs = a.turn.stands.runs;
          refusals = a.turn.stands.refusals;
          refused = a.turn.stands.refused;
          draft = record { packet = a.turn.stands.draft.packet; outcome = a.turn.stands.draft.outcome; zeros = a.turn.stands.draft.zeros; text = omega (arith, same, a.turn.stands.draft.text) };
        };
      }
        where
          next : State
          next = posted s c x can.0

          goes : GoesAlong plan.shape (Some (rows.posted core.pipeline c (packet_now plan c x))) (Some can.0)
          goes = subst (GoesAlong plan.shape (Some (rows.posted core.pipeline c (packet_now plan c x)))) can.1 is_post.goes

          becomes : pipeline ≡ rows.posted core.pipeline c (packet_now plan c x)
          becomes = made (packet_now plan c x) (subst IsPacket packet_is is) (is_text ∙ ap packet_text packet_is)

          shows : Shows plan.shape pipeline can.0
          shows = subst (λ (p : PlainPipeline). Shows plan.shape p can.0) (sym (same_some goes.1) ∙ sym becomes) goes.2
