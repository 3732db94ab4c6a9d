-- The switch that recovery set up again is the model's.
use Rattle.std.proofs.Common.{◌≡◌, ◌≢◌, ◌⊎◌, ℕ, zero, suc, ◌+◌, ◌<◌, ◌≤◌, nat_lt, Bool, true, false, List, [], ◌∷◌, map, length, get_or, slice_get, Option, Some, None, option_map, is_none, inl, inr, refl, sym, ap, ap₂, subst, ◌∙◌, arith, if◌then◌else◌}
use Rattle.std.specs.List.{AllByRecursion, position_from}
use Rattle.std.proofs.lemmas.Bool.Decides.{nat_tests}
use Rattle.std.proofs.lemmas.List.{length-map}
use Rattle.txn_model.specs.Places.{Places}
use Rattle.txn_model.specs.declared.op.Op.{Op}
use Rattle.stage_layout.specs.declared.layout.LayoutRow.{LayoutRow}
use Rattle.history_model.specs.History.{History, with_entry}
use Rattle.placement_model.specs.Placements.{Task, PlainSlotted, packets_of, rows_from, rows_of}
use Rattle.switch_packet.specs.Packets.{PlainPacket, PlainOutcome}
use Rattle.switch_packet.specs.Replay.{replay, replay_all}
use Rattle.switch_model.specs.Fitting.{IsPlanned}
use Rattle.switch_model.specs.Flight.{Flight, flight_at, is_done}
use Rattle.switch_model.specs.Switch.{Switch, Answer, Desk, Vacant, Posted, answer_of, answer_on, answer_of_flight, done_flights, restored}
use Rattle.pipeline.specs.ModelLaws.{AreAnswers, NoneWaits, with_answers}
use Rattle.pipeline.specs.Plain.{PlainPipeline}
use Rattle.pipeline.specs.Rows as rows
use Rattle.pipeline.specs.Shows.{Shows}
use Rattle.pipeline.proofs.Events.{restored_shown}
use Rattle.log_records.specs.Records.{PlainRecords}
use Rattle.catalogue.specs.Plan.{Plan, hot_cells}
use Rattle.catalogue.specs.declared.actor.Actor.TheVariants.{Recover}
use Rattle.gap_placement.specs.Answers.{plain_rows}
use Rattle.gap_placement.specs.declared.placement.Placed.{Placed}
use Rattle.host_locks.specs.Locks.{Locks, has_tuple}
use Rattle.core_model.specs.Locks.{held}
use Rattle.core_model.specs.State.{ClientState, script_now}
use Rattle.core_model.specs.declared.phase.Phase.{Phase}
use Rattle.core_model.specs.declared.phase.Phase.TheVariants.{Ready, Locking, Aborting, Logged, Waiting, Installing, Finished}
use Rattle.client_phase.specs.Shown.{PlainClient, shown, shown_met, shown_pairs}
use Rattle.fabric_model.specs.Laws.{IsReached}
use Rattle.fabric_model.specs.Recovery.{desk_for, desk_in, desks_from, filled, filled_from, is_open_of, resumed, waits_again, with_open}
use Rattle.fabric_model.specs.State.{State}
use Rattle.fabric_model.specs.Step.{order_now, recovered, recovers, step}
use Rattle.fabric_model.proofs.Among.{In, contains_in}
use Rattle.fabric_model.proofs.Fitting.{packets_are_planned}
use Rattle.fabric_model.proofs.PerClient.{logs_stay}
use Rattle.fabric_model.proofs.Present.{clients_stay}
use Rattle.fabric_model.proofs.Resumed.{client_again}
use Rattle.fabric_model.proofs.Tasks.{open_at, open_test, opens, placed_open}
use Rattle.fabric_core.specs.Drafts.{HasDraftRoom}
use Rattle.fabric_core.specs.Held.{HasLocks, lock_of}
use Rattle.fabric_core.specs.Recovering.{IsRebuilt, answers_in, awaits, history_behind, is_open_row, no_log, resumed_runner, with_rows}
use Rattle.fabric_core.specs.Standing.{AreLogs, AreRunners, Follows, IsLost, IsRunner, StandsFor, client_in}
use Rattle.fabric_core.specs.declared.core_state.CoreState.{CoreState}
use Rattle.fabric_core.specs.declared.runner.Runner.{Runner}
use Rattle.fabric_core.proofs.OpenRows.{of_packets, once, open_rows, within}
use Rattle.fabric_core.proofs.Switches.{is_switch}

-- ---- open tasks

-- a task is open exactly where its client's log awaits what came of it
abbrev pub AreOpenAlike : List PlainRecords → List Task → Type 0
AreOpenAlike kept tasks = AllByRecursion (λ t. awaits (get_or kept t.client no_log) t.intent.packet.seq ≡ is_none t.outcome) tasks

-- their answers, from this number and this map on
abbrev given : ℕ → Places → List Task → List (ℕ × Answer)
given number m [] = []
given number m (t ∷ tasks) =
    let made = replay t.intent.packet m in
    let rest = given (number + 1) made.after tasks in
    if is_none t.outcome then (t.client, record { number = number; pairs = made.pairs }) ∷ rest else rest

answers_given : (kept : List PlainRecords) (number : ℕ) (m : Places) (tasks : List Task) → AreOpenAlike kept tasks → answers_in kept (rows_from number m tasks) ≡ given number m tasks
answers_given kept number m [] alike = refl
answers_given kept number m (t ∷ tasks) alike =
    let made = replay t.intent.packet m in
    let rest = answers_given kept (number + 1) made.after tasks alike.1 in
    ap₂ (λ (b : Bool) (l : List (ℕ × Answer)). if b then (t.client, record { number = number; pairs = made.pairs }) ∷ l else l) alike.0 rest

-- and the history with their entries
rows_filled : (kept : List PlainRecords) (number : ℕ) (m : Places) (tasks : List Task) (h : History) → AreOpenAlike kept tasks → with_rows kept (rows_from number m tasks) h ≡ filled_from number tasks h
rows_filled kept number m [] h alike = refl
rows_filled kept number m (t ∷ tasks) h alike =
    let made = replay t.intent.packet m in
    let first : History = history_behind kept (record { number = number; client = t.client; seq = t.intent.packet.seq; pairs = made.pairs }) h in
    ap (with_rows kept (rows_from (number + 1) made.after tasks)) (by t.outcome refl)
    ∙ rows_filled kept (number + 1) made.after tasks (with_open number t t.outcome h) alike.1
  where
    row : PlainSlotted
    row = record { number = number; client = t.client; seq = t.intent.packet.seq; pairs = (replay t.intent.packet m).pairs }

    entered : History
    entered = with_entry (record { entry = record { stamp = record { number = number; sub = 0 }; client = t.client; seq = t.intent.packet.seq }; pairs = None }) h

    by : (o : Option PlainOutcome) → t.outcome ≡ o → (if is_open_row kept row then entered else h) ≡ with_open number t t.outcome h
    by None is = ap (λ (b : Bool). if b then entered else h) (alike.0 ∙ ap is_none is) ∙ sym (ap (λ (q : Option PlainOutcome). with_open number t q h) is)
    by (Some o) is = ap (λ (b : Bool). if b then entered else h) (alike.0 ∙ ap is_none is) ∙ sym (ap (λ (q : Option PlainOutcome). with_open number t q h) is)

-- ---- answers

-- the answer is that of the open task at a place
record IsGiven (number : ℕ) (m : Places) (tasks : List Task) (g : ℕ × Answer) : Type 0 where
  k : ℕ
  task : Task
  there : slice_get tasks k ≡ Some task
  none : task.outcome ≡ None
  is : g ≡ (task.client, record { number = number + k; pairs = (flight_at (done_flights (packets_of tasks) m) k).pairs })

each_given : (number : ℕ) (m : Places) (tasks : List Task) → AllByRecursion (IsGiven number m tasks) (given number m tasks)
unfolding done_flights
each_given number m [] = tt
each_given number m (t ∷ tasks) = by t.outcome refl (each_given (number + 1) (replay t.intent.packet m).after tasks)
  where
    made : Places
    made = (replay t.intent.packet m).after

    later : (g : ℕ × Answer) → IsGiven (number + 1) made tasks g → IsGiven number m (t ∷ tasks) g
    later g i = record {
      k = suc i.k;
      task = i.task;
      there = i.there;
      none = i.none;
      is = i.is ∙ ap (λ (n : ℕ). (i.task.client, record { number = n; pairs = (flight_at (done_flights (packets_of tasks) made) i.k).pairs })) {x = (number + 1) + i.k} {y = number + suc i.k} (omega arith);
    }

    all_later : (l : List (ℕ × Answer)) → AllByRecursion (IsGiven (number + 1) made tasks) l → AllByRecursion (IsGiven number m (t ∷ tasks)) l
    all_later [] all = tt
    all_later (g ∷ l) all = (later g all.0, all_later l all.1)

    by : (o : Option PlainOutcome) → t.outcome ≡ o → AllByRecursion (IsGiven (number + 1) made tasks) (given (number + 1) made tasks) → AllByRecursion (IsGiven number m (t ∷ tasks)) (given number m (t ∷ tasks))
    by None is rest = subst (λ (b : Bool). AllByRecursion (IsGiven number m (t ∷ tasks)) (if b then (t.client, record { number = number; pairs = (replay t.intent.packet m).pairs }) ∷ given (number + 1) made tasks else given (number + 1) made tasks)) (sym (ap is_none is))
        (record { k = 0; task = t; there = refl; none = is; is = ap (λ (n : ℕ). (t.client, record { number = n; pairs = (replay t.intent.packet m).pairs })) {x = number} {y = number + 0} (omega arith) }, all_later (given (number + 1) made tasks) rest)
    by (Some o) is rest = subst (λ (b : Bool). AllByRecursion (IsGiven number m (t ∷ tasks)) (if b then (t.client, record { number = number; pairs = (replay t.intent.packet m).pairs }) ∷ given (number + 1) made tasks else given (number + 1) made tasks)) (sym (ap is_none is)) (all_later (given (number + 1) made tasks) rest)

-- each open task has its answer
given_at : (number : ℕ) (m : Places) (tasks : List Task) (k : ℕ) (t : Task) → slice_get tasks k ≡ Some t → t.outcome ≡ None
    → In (t.client, record { number = number + k; pairs = (flight_at (done_flights (packets_of tasks) m) k).pairs }) (given number m tasks)
unfolding done_flights
given_at number m [] k t there none = cc
given_at number m (s ∷ tasks) zero t there none =
    let same : s ≡ t = cc in
    subst (λ (b : Bool). In (t.client, record { number = number + 0; pairs = (replay s.intent.packet m).pairs }) (if b then (s.client, record { number = number; pairs = (replay s.intent.packet m).pairs }) ∷ given (number + 1) (replay s.intent.packet m).after tasks else given (number + 1) (replay s.intent.packet m).after tasks))
    (sym (ap (λ (x : Task). is_none x.outcome) same ∙ ap is_none none))
    (inl (ap (λ (c : ℕ). (c, record { number = number; pairs = (replay s.intent.packet m).pairs })) (ap (λ (x : Task). x.client) same) ∙ ap (λ (n : ℕ). (t.client, record { number = n; pairs = (replay s.intent.packet m).pairs })) {x = number} {y = number + 0} (omega arith)))
given_at number m (s ∷ tasks) (suc k) t there none = by (is_none s.outcome) (given_at (number + 1) (replay s.intent.packet m).after tasks k t there none)
  where
    made : Places
    made = (replay s.intent.packet m).after

    again : (n : ℕ) → ℕ × Answer
    again n = (t.client, record { number = n; pairs = (flight_at (done_flights (packets_of tasks) made) k).pairs })

    counted : (number + 1) + k ≡ number + suc k
    counted = omega arith

    by : (b : Bool) → In (again ((number + 1) + k)) (given (number + 1) made tasks) → In (t.client, record { number = number + suc k; pairs = (flight_at (done_flights (packets_of tasks) made) k).pairs }) (if b then (s.client, record { number = number; pairs = (replay s.intent.packet m).pairs }) ∷ given (number + 1) made tasks else given (number + 1) made tasks)
    by true rest = inr (subst (λ (n : ℕ). In (again n) (given (number + 1) made tasks)) counted rest)
    by false rest = subst (λ (n : ℕ). In (again n) (given (number + 1) made tasks)) counted rest

-- packets that were executed whole are done
all_done : (packets : List PlainPacket) (m : Places) (k : ℕ) → k < length packets → is_done (flight_at (done_flights packets m) k) ≡ true
unfolding done_flights
all_done [] m k lt = absurd (omega arith)
all_done (p ∷ packets) m zero lt = below p.passes
  where
    below : (n : ℕ) → nat_lt n (n + 1) ≡ true
    below n = grind (arith, nat_tests)
all_done (p ∷ packets) m (suc k) lt = all_done packets (replay p m).after k (omega arith)

there_within : (tasks : List Task) (k : ℕ) (t : Task) → slice_get tasks k ≡ Some t → k < length (packets_of tasks)
there_within [] k t is = cc
there_within (s ∷ tasks) zero t is = omega arith
there_within (s ∷ tasks) (suc k) t is = omega (arith, there_within tasks k t is)

-- ---- desks

desk_within : (order : List Task) (c n d : ℕ) → d < n → get_or (desks_from order c n) d Vacant ≡ desk_in order (c + d)
desk_within order c zero d lt = absurd (omega arith)
desk_within order c (suc n) zero lt = ap (desk_in order) {x = c} {y = c + 0} (omega arith)
desk_within order c (suc n) (suc d) lt = desk_within order (c + 1) n d (omega arith) ∙ ap (desk_in order) {x = (c + 1) + d} {y = c + suc d} (omega arith)

desk_past : (order : List Task) (c n d : ℕ) → n ≤ d → get_or (desks_from order c n) d Vacant ≡ Vacant
desk_past order c zero d le = refl
desk_past order c (suc n) zero le = absurd (omega arith)
desk_past order c (suc n) (suc d) le = desk_past order (c + 1) n d (omega arith)

length_desks : (order : List Task) (c n : ℕ) → length (desks_from order c n) ≡ n
length_desks order c zero = refl
length_desks order c (suc n) = ap suc (length_desks order (c + 1) n)

within_or_past : (d n : ℕ) → (d < n) ⊎ (n ≤ d)
within_or_past d n = grind arith

not_posted : (o : Option ℕ) (p : PlainPacket) → desk_for o ≢ Posted p
not_posted None p e = cc
not_posted (Some k) p e = cc

none_waits : (order : List Task) (clients : ℕ) → NoneWaits (desks_from order 0 clients)
none_waits order clients c p is = elim (within_or_past c clients) [
  | inl lt ↦ not_posted (position_from (is_open_of (0 + c)) 0 order) p (sym (desk_within order 0 clients c lt) ∙ is)
  | inr past ↦ not_posted None p (sym (desk_past order 0 clients c past) ∙ is)
]

-- ---- the answers are those of the rebuilt switch

module _ (first : Places) (order : List Task) (clients : ℕ) (once : (c : ℕ) → opens c order ≤ 1) (within : AllByRecursion (λ t. t.client < clients) order) where
  abbrev flights : List Flight
  flights = done_flights (packets_of order) first

  abbrev desks : List Desk
  desks = desks_from order 0 clients

  within_at : (tasks : List Task) (k : ℕ) (t : Task) → AllByRecursion (λ t. t.client < clients) tasks → slice_get tasks k ≡ Some t → t.client < clients
  within_at [] k t all is = cc
  within_at (s ∷ tasks) zero t all is = let same : s ≡ t = cc in subst (λ (x : Task). x.client < clients) same all.0
  within_at (s ∷ tasks) (suc k) t all is = within_at tasks k t all.1 is

  done_answer : (k : ℕ) (f : Flight) → is_done f ≡ true → answer_of_flight k f ≡ Some (record { number = k + 1; pairs = f.pairs })
  done_answer k f is = ap (λ (b : Bool). if b then Some (record { number = k + 1; pairs = f.pairs }) else None) is

  answer_at : (k : ℕ) (t : Task) → slice_get order k ≡ Some t → t.outcome ≡ None → answer_on flights (get_or desks t.client Vacant) ≡ Some (record { number = 1 + k; pairs = (flight_at flights k).pairs })
  answer_at k t there none =
      ap (answer_on flights) (desk_within order 0 clients t.client (within_at order k t within there)
      ∙ ap (desk_in order) {x = 0 + t.client} {y = t.client} (omega arith)
      ∙ ap desk_for (placed_open t.client order 0 k t there (open_test t.client t refl none) (once t.client)))
      ∙ ap (λ (n : ℕ). answer_of_flight n (flight_at flights n)) {x = 0 + k} {y = k} (omega arith)
      ∙ done_answer k (flight_at flights k) (all_done (packets_of order) first k (there_within order k t there))
      ∙ ap (λ (n : ℕ). Some (record { number = n; pairs = (flight_at flights k).pairs })) {x = k + 1} {y = 1 + k} (omega arith)

  all_right : (l : List (ℕ × Answer)) → AllByRecursion (IsGiven 1 first order) l → AllByRecursion (λ g. answer_on flights (get_or desks g.0 Vacant) ≡ Some g.1) l
  all_right [] all = tt
  all_right (g ∷ l) all = (subst (λ (x : ℕ × Answer). answer_on flights (get_or desks x.0 Vacant) ≡ Some x.1) (sym all.0.is) (answer_at all.0.k all.0.task all.0.there all.0.none), all_right l all.1)

  no_answer : (answer : Answer) → None ≡ Some answer → ⊥
  no_answer answer e = cc

  same_some : {T : Type 0} {a b : T} → Some a ≡ Some b → a ≡ b
  same_some e = cc

  -- whoever has an answer has it from an open task
  found : (c : ℕ) (answer : Answer) → c < clients → (o : Option ℕ) → position_from (is_open_of c) 0 order ≡ o → answer_on flights (desk_for o) ≡ Some answer → In (c, answer) (given 1 first order)
  found c answer lt None is e = absurd (no_answer answer e)
  found c answer lt (Some k) is e =
      let at = open_at c order 0 k is in
      let t = at.2.task in
      let place : at.0 ≡ k = omega (arith, at.1) in
      let there : slice_get order k ≡ Some t = ap (slice_get order) (sym place) ∙ at.2.there in
      let made : record { number = k + 1; pairs = (flight_at flights k).pairs } ≡ answer = same_some (sym (done_answer k (flight_at flights k) (all_done (packets_of order) first k (there_within order k t there))) ∙ e) in
      subst (λ (x : ℕ × Answer). In x (given 1 first order))
      (ap (λ (d : ℕ). (d, record { number = 1 + k; pairs = (flight_at flights k).pairs })) at.2.client ∙ ap (λ (n : ℕ). (c, record { number = n; pairs = (flight_at flights k).pairs })) {x = 1 + k} {y = k + 1} (omega arith) ∙ ap (λ (x : Answer). (c, x)) made)
      (given_at 1 first order k t there at.2.none)

  abbrev now : Switch
  now = restored first (packets_of order) desks

  answer_is : (c : ℕ) → answer_of now c ≡ answer_on flights (get_or desks c Vacant)
  unfolding restored
  answer_is c = refl

  are_answers : AreAnswers now (given 1 first order)
  are_answers = record {
    right = right (given 1 first order) (all_right (given 1 first order) (each_given 1 first order));
    all = λ c answer is. contains_in (given 1 first order) (c, answer) (elim (within_or_past c clients) [
      | inl lt ↦ found c answer lt (position_from (is_open_of c) 0 order) refl
          (sym (ap (answer_on flights) (desk_within order 0 clients c lt ∙ ap (desk_in order) {x = 0 + c} {y = c} (omega arith))) ∙ sym (answer_is c) ∙ is)
      | inr past ↦ absurd (no_answer answer (sym (ap (answer_on flights) (desk_past order 0 clients c past)) ∙ sym (answer_is c) ∙ is))
    ]);
  }
    where
      right : (l : List (ℕ × Answer)) → AllByRecursion (λ g. answer_on flights (get_or desks g.0 Vacant) ≡ Some g.1) l → AllByRecursion (λ g. answer_of now g.0 ≡ Some g.1) l
      right [] all = tt
      right (g ∷ l) all = (answer_is g.0 ∙ all.0, right l all.1)

-- ---- the clients

phase_shown : (rows : List LayoutRow) (ops : List Op) (x : ClientState) → record (shown rows ops x) { phase = waits_again x.phase } ≡ shown rows ops (resumed x)
phase_shown rows ops x = by x.phase
  where
    by : (p : Phase) → record (shown rows ops x) { phase = waits_again p; met = shown_met x p; pairs = shown_pairs rows ops x p } ≡ record (shown rows ops x) { phase = waits_again p; met = shown_met x (waits_again p); pairs = shown_pairs rows ops x (waits_again p) }
    by Ready = refl
    by Locking = refl
    by Aborting = refl
    by Logged = refl
    by Waiting = refl
    by Installing = refl
    by Finished = refl

is_resumed : (plan : Plan) (c : ℕ) (x : ClientState) (r : Runner) → IsRunner plan c x r → IsRunner plan c (resumed x) (resumed_runner r)
is_resumed plan c x r is = record {
  kept = ap₂ (λ (p : PlainClient) (q : Phase). record p { phase = waits_again q }) is.kept (ap (λ (p : PlainClient). p.phase) is.kept) ∙ phase_shown plan.layout (script_now plan c x) x;
  space = is.space;
  parts = is.parts;
}

runner_again : (runners : List Runner) (c : ℕ) (other : Runner) → c < length runners → get_or (map resumed_runner runners) c other ≡ resumed_runner (get_or runners c other)
runner_again [] c other lt = absurd (omega arith)
runner_again (r ∷ runners) zero other lt = refl
runner_again (r ∷ runners) (suc c) other lt = runner_again runners c other (omega arith)

runners_again : (plan : Plan) (clients : List ClientState) (runners : List Runner) → AreRunners plan clients runners → AreRunners plan (map resumed clients) (map resumed_runner runners)
runners_again plan clients runners are = record {
  count = length-map runners resumed_runner ∙ are.count ∙ sym (length-map clients resumed);
  each = λ c other lt.
      let here : c < length clients = omega (arith, lt, length-map clients resumed) in
      subst (λ (r : Runner). IsRunner plan c (client_in (map resumed clients) c) r) (sym (runner_again runners c other (omega (arith, here, are.count))))
      (subst (λ (x : ClientState). IsRunner plan c x (resumed_runner (get_or runners c other))) (sym (client_again clients c)) (is_resumed plan c (client_in clients c) (get_or runners c other) (are.each c other here)));
}

-- ---- the whole state

length_rows : (number : ℕ) (m : Places) (tasks : List Task) → length (rows_from number m tasks) ≡ length (packets_of tasks)
length_rows number m [] = refl
length_rows number m (t ∷ tasks) = ap suc (length_rows (number + 1) (replay t.intent.packet m).after tasks)

module _ (plan : Plan) (s : State) (reached : IsReached plan s) (core new : CoreState) (down : core.is_up ≡ false) (stands : StandsFor plan s core) (order : List Task) (here : order_now plan s ≡ Some order)
    (placed : Placed) (rows_are : plain_rows placed.placement ≡ rows_of (hot_cells plan) order) (registers_are : placed.registers ≡ (replay_all (packets_of order) (hot_cells plan)).after) (rebuilt : IsRebuilt placed core new) where
  abbrev clients : ℕ
  clients = length s.clients

  abbrev kept : List PlainRecords
  kept = core.logs.items

  lost : IsLost plan s.switch core.pipeline
  lost = stands.switch.lost down

  alike : AreOpenAlike kept order
  alike = open_rows plan s reached lost.lost order here kept stands.logs

  all_within : AllByRecursion (λ t. t.client < clients) order
  all_within = subst (λ (n : ℕ). AllByRecursion (λ t. t.client < n) order) (logs_stay plan s reached) (within plan s reached lost.lost order here)

  abbrev desks_now : List Desk
  desks_now = desks_from order 0 clients

  abbrev switch_now : Switch
  switch_now = restored (hot_cells plan) (packets_of order) desks_now

  pipeline_is : new.pipeline ≡ with_answers (rows.restored (rows.erased core.pipeline) (replay_all (packets_of order) (hot_cells plan)).after (length (packets_of order) + 1)) (given 1 (hot_cells plan) order)
  pipeline_is =
      let after = (replay_all (packets_of order) (hot_cells plan)).after in
      rebuilt.pipeline
      ∙ ap (λ (l : List PlainSlotted). with_answers (rows.restored core.pipeline placed.registers (length l + 1)) (answers_in kept l)) rows_are
      ∙ ap (λ (m : Places). with_answers (rows.restored core.pipeline m (length (rows_of (hot_cells plan) order) + 1)) (answers_in kept (rows_of (hot_cells plan) order))) registers_are
      ∙ ap (λ (n : ℕ). with_answers (rows.restored core.pipeline after (n + 1)) (answers_in kept (rows_of (hot_cells plan) order))) (length_rows 1 (hot_cells plan) order)
      ∙ ap (with_answers (rows.restored core.pipeline after (length (packets_of order) + 1))) (answers_given kept 1 (hot_cells plan) order alike)
      ∙ ap (λ (p : PlainPipeline). with_answers (rows.restored p after (length (packets_of order) + 1)) (given 1 (hot_cells plan) order)) lost.erased

  shows : Shows plan.shape new.pipeline switch_now
  shows = subst (λ (p : PlainPipeline). Shows plan.shape p switch_now) (sym pipeline_is)
      (restored_shown plan.shape (hot_cells plan) (packets_of order) desks_now core.pipeline (given 1 (hot_cells plan) order) lost.shape
      (lost.clients ∙ sym (clients_stay plan s reached) ∙ sym (length_desks order 0 clients))
      (of_packets plan s reached lost.lost order here (IsPlanned plan.shape) (packets_are_planned plan reached.sound)) (none_waits order clients)
      (are_answers (hot_cells plan) order clients (once plan s reached lost.lost order here) all_within))

  locks_recovered : HasLocks plan (recovered plan s order) core.locks
  unfolding recovered
  locks_recovered t c = stands.locks t c ∙ ap (λ (x : ClientState). lock_of (held plan c x) t) (sym (client_again s.clients c))

  pub up_again : StandsFor plan (recovered plan s order) new
  unfolding recovered
  up_again = record {
    runners = subst (AreRunners plan (map resumed s.clients)) (sym rebuilt.runners) (runners_again plan s.clients core.runners.items stands.runners);
    logs = subst (AreLogs plan s.logs) (sym (ap (λ logs. logs.items) rebuilt.logs)) stands.logs;
    switch = is_switch rebuilt.is_up (record { now = switch_now; up = refl; shows = shows });
    locks = subst (HasLocks plan (recovered plan s order)) (sym rebuilt.locks) locks_recovered;
    tuples = λ t. ap (λ (l : Locks). has_tuple l t) rebuilt.locks ∙ stands.tuples t;
    store = rebuilt.store ∙ stands.store;
    history =
        rebuilt.history
        ∙ ap (λ (l : List PlainSlotted). with_rows kept l core.history.items) rows_are
        ∙ rows_filled kept 1 (hot_cells plan) order core.history.items alike
        ∙ ap (filled order) stands.history;
    runs = rebuilt.runs ∙ stands.runs;
    refusals = ap (λ refusals. refusals.items) rebuilt.refusals ∙ stands.refusals;
    refused = omega (arith, stands.refused, ap (λ refusals. length refusals.items) rebuilt.refusals, ap (λ refusals. refusals.spare) rebuilt.refusals);
    draft = subst HasDraftRoom (sym rebuilt.draft) stands.draft;
  }

  pub follows_recovered : Follows plan s Recover new
  unfolding step
  follows_recovered = record {
    next = recovered plan s order;
    step = ap (recovers plan s) lost.lost ∙ ap (option_map (recovered plan s)) here;
    stands = up_again;
  }
