-- Recovery: what the records in the code say is what the model's logs say, and what its turn makes of the run.
use Rattle.std.proofs.Common.{◌≡◌, ◌≢◌, ℕ, suc, ◌<◌, ◌≤◌, false, List, [], ◌∷◌, map, length, get_or, Option, Some, None, option_map, IsSome, IsTrue, IfSome, inr, refl, sym, ap, subst, ◌∙◌, arith}
use Rattle.std.specs.FinMap as fin
use Rattle.std.specs.Global.{Vec}
use Rattle.std.specs.Prelude.{vec_capacity}
use Rattle.std.specs.List.{AllByRecursion}
use Rattle.std.proofs.Math.ListN as list
use Rattle.std.proofs.lemmas.List.{length-map}
use Rattle.port_io.specs.Cause.{HasCause}
use Rattle.port_io.specs.LogRack.{AllStay}
use Rattle.txn_model.specs.Places.{Places}
use Rattle.txn_model.specs.declared.place.Place.{Place}
use Rattle.stage_layout.specs.Shape.{has_place}
use Rattle.stage_layout.specs.declared.shape.Shape.{Shape}
use Rattle.history_model.specs.History.{History}
use Rattle.history_core.specs.Runs.{Runs, runs_of}
use Rattle.placement_model.specs.FirstOrder.{first_order}
use Rattle.placement_model.specs.Placements.{PlainSlotted, Task, packets_of, rows_of}
use Rattle.switch_packet.specs.Packets.{PlainLog, plain_log}
use Rattle.switch_packet.specs.Replay.{replay_all}
use Rattle.switch_packet.specs.declared.record.LogView.{LogView}
use Rattle.pipeline.specs.Plain.{PlainPipeline}
use Rattle.pipeline.specs.Rows as rows
use Rattle.gap_placement.specs.Answers.{first_registers, first_rows, plain_rows}
use Rattle.gap_placement.specs.Logs.{AreReadable, HaveTheirPlaces}
use Rattle.gap_placement.specs.declared.placement.Placed.{Placed}
use Rattle.intent_log.specs.LogText.{log_text}
use Rattle.intent_log.specs.Told.{DifferAt, IsTold}
use Rattle.log_records.specs.Records.{PlainRecords}
use Rattle.catalogue.specs.Plan.{Plan, hot_cells}
use Rattle.catalogue.specs.declared.actor.Actor.TheVariants.{Recover}
use Rattle.fabric_model.specs.Recovery.{plain_log as plain_records, plain_logs}
use Rattle.fabric_model.specs.State.{Records, State, log_at, no_records}
use Rattle.fabric_model.specs.Step.{order_now, recovered, recovers, step}
use Rattle.fabric_model.proofs.PerClient.{logs_stay}
use Rattle.fabric_model.proofs.Present.{clients_stay}
use Rattle.fabric_core.specs.CoreTurns.{IsTurnOf, Moves}
use Rattle.fabric_core.specs.Racks.{Rack}
use Rattle.fabric_core.specs.RecordTexts.{AreAsRecorded, text_of}
use Rattle.fabric_core.specs.Recovering.{AreCompared, CanPlace, IsExpected, IsReadFault, IsRebuilt, SayTheirs, no_log, turn_of, view_at, view_of}
use Rattle.fabric_core.specs.Standing.{AreLogs, Follows, IsLost, IsTurnIn, StandsFor}
use Rattle.fabric_core.specs.declared.core_state.CoreState.{CoreState}
use Rattle.fabric_core.specs.declared.turn.Stop.{Stop}
use Rattle.fabric_core.specs.declared.turn.Stop.TheVariants.{LogFault, LogChanged}
use Rattle.fabric_core.specs.declared.turn.Turn.TheVariants as turns
use Rattle.fabric_core.proofs.CellPlaces.{HasPlaces, packets_have_places, registers_within}
use Rattle.fabric_core.proofs.OpenRows.{of_packets}
use Rattle.fabric_core.proofs.PlaceRows.{order_can_place}
use Rattle.fabric_core.proofs.Present.{stands_redrafted}
use Rattle.fabric_core.proofs.ReadableLogs as logs
use Rattle.fabric_core.proofs.UpAgain.{follows_recovered}

-- logs that are kept say what the model's do
same_views : (records : List Records) (kept : List PlainRecords) → length kept ≡ length records → ((c : ℕ) → c < length records → view_of (get_or kept c no_log) ≡ plain_records (get_or records c no_records)) → map view_of kept ≡ plain_logs records
same_views [] [] count each = refl
same_views [] (log ∷ kept) count each = absurd (omega (arith, count))
same_views (r ∷ records) [] count each = absurd (omega (arith, count))
same_views (r ∷ records) (log ∷ kept) count each =
    ap (λ (v : PlainLog). v ∷ map view_of kept) (each 0 (omega arith)) ∙ ap (λ (l : List PlainLog). plain_records r ∷ l) (same_views records kept (omega (arith, count)) (λ c lt. each (suc c) (omega (arith, lt))))

kept_views : (plan : Plan) (records : List Records) (kept : List PlainRecords) → AreLogs plan records kept → map view_of kept ≡ plain_logs records
kept_views plan records kept are = same_views records kept are.count (λ c lt.
    let log = are.each c no_log lt in
    ap (λ (l : List _). record { intents = l; outcomes = (get_or kept c no_log).outcomes; torn = false }) log.intents
    ∙ ap (λ (l : List _). record { intents = (get_or records c no_records).intents; outcomes = l; torn = false }) log.outcomes)

-- whatever is no stop is none
pub none_of : (stop : Option Stop) → ((w : Stop) → stop ≡ Some w → ⊥) → stop ≡ None
none_of None not = refl
none_of (Some w) not = absurd (not w refl)

same_some : {T : Type 0} {a b : T} → Some a ≡ Some b → a ≡ b
same_some e = cc

-- recovery leaves the records as they are
keeps_logs : (plan : Plan) (s next : State) → s.switch ≡ None → step plan s Recover ≡ Some next → next.logs ≡ s.logs
unfolding step recovered
keeps_logs plan s next lost is = by (order_now plan s) (sym (ap (recovers plan s) lost) ∙ is)
  where
    by : (o : Option (List Task)) → option_map (recovered plan s) o ≡ Some next → next.logs ≡ s.logs
    by (Some order) e = ap (λ (z : State). z.logs) (sym (same_some e))
    by None e = cc

module _ {plan : Plan} {core : CoreState} {at : ℕ} {s : State} (turn : IsTurnIn plan core Recover at s) (down : core.is_up ≡ false) (views : List LogView) (made : map plain_log views ≡ map view_of core.logs.items) where
  lost : IsLost plan s.switch core.pipeline
  lost = turn.stands.switch.lost down

  abbrev said : List PlainLog
  said = plain_logs s.logs

  views_are : map plain_log views ≡ said
  views_are = made ∙ kept_views plan s.logs core.logs.items turn.stands.logs

  as_many : length views ≡ length plan.clients
  as_many = sym (length-map views plain_log) ∙ ap length views_are ∙ length-map s.logs plain_records ∙ logs_stay plan s turn.reached ∙ clients_stay plan s turn.reached

  pub few : length views ≤ 8
  few = omega (arith, as_many, turn.reached.sound.limits.clients)

  pub expected : AllByRecursion IsExpected (map plain_log views)
  expected = subst (AllByRecursion IsExpected) (sym views_are) (logs.expected plan s turn.reached lost.lost)

  pub readable : AreReadable (map plain_log views)
  readable = subst AreReadable (sym views_are) (logs.readable plan s turn.reached lost.lost)

  pub have_places : HaveTheirPlaces (hot_cells plan) (map plain_log views)
  have_places = subst (HaveTheirPlaces (hot_cells plan)) (sym views_are) (logs.have_places plan s turn.reached lost.lost)

  pub some_order : first_order (map plain_log views) (hot_cells plan) ≢ None
  some_order none = logs.some_order plan s turn.reached lost.lost (ap (λ (l : List PlainLog). first_order l (hot_cells plan)) (sym views_are) ∙ none)

  -- ---- comparing

  text_is : (c : ℕ) → log_text (view_at (map plain_log views) c) ≡ text_of (log_at s c)
  text_is c = ap (λ (l : List PlainLog). log_text (view_at l c)) views_are ∙ ap log_text (list.get_or-map plain_records s.logs c no_records)

  module _ (old new : Rack) (result : Option Stop) (compared : AreCompared old.told (map plain_log views) result) (stay : AllStay old.told new.told) (keeps : IsTrue old.keeps → IsTrue new.keeps) (cause : HasCause old.faults new.faults (IsReadFault result)) where
    say : (c : ℕ) → SayTheirs old.told (map plain_log views) c → AreAsRecorded s c old
    say c all d lt = subst (IsTold (old.told d)) (text_is d) (all d lt)

    within_views : (c : ℕ) → c < length (map plain_log views) → c < length plan.clients
    within_views c lt = omega (arith, lt, length-map views plain_log, as_many)

    no_fault : (none : IsReadFault result → ⊥) → new.faults ≡ old.faults
    no_fault none = cause.still none

    -- a log could not be read, or has changed
    pub stops : (after : CoreState) → StandsFor plan s after → (stop : Stop) → result ≡ Some stop → IsTurnOf plan s Recover core after old new (turn_of stop)
    stops after stands (LogFault c) is =
        let found = subst (AreCompared old.told (map plain_log views)) is compared in
        inr (
          refl,
          record {
            stands = stands;
            within = within_views c found.0;
            compares = record { lost = lost.lost; below = say c found.1 };
            keeps = keeps;
            stays = λ d le. stay d;
            rose = cause.rose (subst IsReadFault (sym is) tt);
          },
        )
    stops after stands (LogChanged c place) is =
        let found = subst (AreCompared old.told (map plain_log views)) is compared in (
          refl,
          record {
            stands = stands;
            change = record {
              lost = lost.lost;
              within = within_views c found.0;
              below = say c found.1;
              differs = subst (λ (text : List ℕ). IfSome (old.told c) (λ log. DifferAt log text place)) (text_is c) found.2;
            };
            keeps = keeps;
            stays = record { told = stay; faults = no_fault (λ f. subst IsReadFault is f) };
          },
        )

    -- all are as the records say, and the switch is up again
    pub goes_on : (after : CoreState) (follows : Follows plan s Recover after) → result ≡ None → Moves plan s Recover after old new
    goes_on after follows is = record {
      follows = follows;
      compared = λ _. subst (λ (n : ℕ). AreAsRecorded s n old) (length-map views plain_log ∙ as_many) (say (length (map plain_log views)) (subst (AreCompared old.told (map plain_log views)) is compared));
      keeps = keeps;
      logs = λ _ all c lt. stay c ∙ all c lt ∙ ap (λ (l : List Records). Some (text_of (get_or l c no_records))) (sym (keeps_logs plan s follows.next lost.lost follows.step));
      beyond = λ d le. stay d;
      faults = no_fault (λ f. subst IsReadFault is f);
    }

    -- no memory is left
    pub lacks : (after : CoreState) → StandsFor plan s after → result ≡ None → IsTurnOf plan s Recover core after old new turns.NoMemory
    lacks after stands is = record {
      stands = stands;
      takes = inr (refl, lost.lost);
      keeps = keeps;
      stays = record { told = stay; faults = no_fault (λ f. subst IsReadFault is f) };
    }

  -- ---- placing

  record Found (placed : Placed) : Type 0 where
    order : List Task
    here : order_now plan s ≡ Some order
    rows : plain_rows placed.placement ≡ rows_of (hot_cells plan) order
    registers : placed.registers ≡ (replay_all (packets_of order) (hot_cells plan)).after

  module _ (placed : Placed) (rows_are : Some (plain_rows placed.placement) ≡ first_rows (map plain_log views) (hot_cells plan)) (registers_are : Some placed.registers ≡ first_registers (map plain_log views) (hot_cells plan)) where
    found : Found placed
    unfolding order_now
    found = by (first_order said (hot_cells plan)) refl
      where
        by : (o : Option (List Task)) → first_order said (hot_cells plan) ≡ o → Found placed
        by None none = absurd (logs.some_order plan s turn.reached lost.lost none)
        by (Some order) is = record {
          order = order;
          here = is;
          rows = same_some (rows_are ∙ ap (λ (l : List PlainLog). first_rows l (hot_cells plan)) views_are ∙ ap (option_map (rows_of (hot_cells plan))) is);
          registers = same_some (registers_are ∙ ap (λ (l : List PlainLog). first_registers l (hot_cells plan)) views_are ∙ ap (option_map (λ order. (replay_all (packets_of order) (hot_cells plan)).after)) is);
        }

    pub registers_there : (place : Place) → IsSome (fin.get placed.registers place) → IsTrue (has_place core.pipeline.shape place)
    registers_there place some = subst (λ (shape : Shape). IsTrue (has_place shape place)) (sym lost.shape)
        (registers_within plan (packets_of found.order) turn.reached.sound (of_packets plan s turn.reached lost.lost found.order found.here (HasPlaces (hot_cells plan)) (packets_have_places plan)) place
        (subst (λ (m : Places). IsSome (fin.get m place)) found.registers some))

    pub can_place : (next : ℕ) → CanPlace core.logs.items core.history.runs (rows.restored core.pipeline placed.registers next) core.history.items (plain_rows placed.placement)
    can_place next =
        let size : length core.pipeline.waiting ≡ length core.logs.items = lost.clients ∙ sym (turn.stands.logs.count ∙ logs_stay plan s turn.reached ∙ clients_stay plan s turn.reached) in
        subst (λ (l : List PlainSlotted). CanPlace core.logs.items core.history.runs (rows.restored core.pipeline placed.registers next) core.history.items l) (sym found.rows)
        (subst (λ (p : PlainPipeline). CanPlace core.logs.items core.history.runs (rows.restored p placed.registers next) core.history.items (rows_of (hot_cells plan) found.order)) (sym lost.erased)
        (subst (λ (r : Runs). CanPlace core.logs.items r (rows.restored (rows.erased core.pipeline) placed.registers next) core.history.items (rows_of (hot_cells plan) found.order)) (sym turn.stands.runs)
        (subst (λ (h : History). CanPlace core.logs.items (runs_of plan) (rows.restored (rows.erased core.pipeline) placed.registers next) h (rows_of (hot_cells plan) found.order)) (sym turn.stands.history)
        (order_can_place plan s turn.reached lost.lost found.order found.here core.logs.items turn.stands.logs core.pipeline placed.registers next size))))

    pub follows : (core_now new : CoreState) → core_now.is_up ≡ false → StandsFor plan s core_now → IsRebuilt placed core_now new → Follows plan s Recover new
    follows core_now new still_down stands rebuilt = follows_recovered plan s turn.reached core_now new still_down stands found.order found.here placed found.rows found.registers rebuilt

-- the code with other text in the making
pub retexted : {plan : Plan} {core : CoreState} {at : ℕ} {s : State} → IsTurnIn plan core Recover at s → (text : Vec ℕ) → vec_capacity text ≡ vec_capacity core.draft.text → StandsFor plan s (record core { draft = record core.draft { text = text } })
retexted {core = core} turn text same = stands_redrafted turn.stands (record core.draft { text = text }) (record {
  packet = turn.stands.draft.packet;
  outcome = turn.stands.draft.outcome;
  zeros = turn.stands.draft.zeros;
  text = omega (arith, turn.stands.draft.text, same);
})
