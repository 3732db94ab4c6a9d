-- What holds while the switch is lost is kept by every move but its recovery.
use Rattle.std.proofs.Common.{◌≡◌, ℕ, zero, suc, ◌+◌, ◌<◌, ◌≤◌, Bool, true, false, List, [], ◌∷◌, ◌++◌, append-nil, append_assoc, length, set, get_or, Option, Some, None, IsSome, inl, inr, refl, sym, ap, subst, ◌∙◌, arith, if◌then◌else◌}
use Rattle.std.specs.Prelude.{IsPermutation}
use Rattle.std.specs.List.{AllByRecursion}
use Rattle.std.proofs.lemmas.List.Sorted.{length_permutation, IsPermutation-sym, IsPermutation-trans, IsPermutation-cons, IsPermutation-middle, IsPermutation-append_right, IsPermutation-to_front}
use Rattle.txn_model.specs.Places.{Places}
use Rattle.history_model.specs.History.{History, AllAnswered}
use Rattle.placement_model.specs.Placements.{Task, HasAnswer, IsPlacement, tasks_from, tasks_behind, tasks_of}
use Rattle.switch_packet.specs.Packets.{PlainIntent, PlainOutcome}
use Rattle.switch_packet.specs.Replay.{replay}
use Rattle.switch_model.specs.Switch.{Switch}
use Rattle.warm_split.specs.Joined.{joined}
use Rattle.catalogue.specs.Plan.{Plan, hot_cells}
use Rattle.catalogue.specs.Sound.{IsSound}
use Rattle.catalogue.specs.declared.actor.Actor.{Actor}
use Rattle.core_model.specs.declared.phase.Phase.{Phase}
use Rattle.core_model.specs.declared.phase.Phase.TheVariants.{Ready, Locking}
use Rattle.core_model.specs.Asking.{IsAsking}
use Rattle.core_model.specs.Decision.{decision_stamp}
use Rattle.core_model.specs.Locks.{cold_ops}
use Rattle.core_model.specs.State.{ClientState, script_now}
use Rattle.core_model.specs.StampOrder.{AtMost}
use Rattle.core_model.proofs.Decide.{all-with_entry}
use Rattle.core_model.proofs.Legal.{all_distinct}
use Rattle.fabric_model.specs.ColdFacts.{FitsPhase}
use Rattle.fabric_model.specs.Fits.{PacketsFit}
use Rattle.fabric_model.specs.Holds.{HostFacts, Holds, HoldsLost, HoldsNow, WhileUp, WhileLost}
use Rattle.fabric_model.specs.Intents.{values_of, intent_now, with_intent}
use Rattle.fabric_model.specs.Recorded.{has_open, AreAnswers}
use Rattle.fabric_model.specs.Recovery.{plain_logs}
use Rattle.fabric_model.specs.State.{Records, State, client_at, log_at, no_records, answered_ones}
use Rattle.fabric_model.specs.Step.{granted, refused, released, decided, logged, installed, recovered, order_now, has_hot, next_op}
use Rattle.fabric_model.proofs.Kept.{visit_of, some_cold}
use Rattle.fabric_model.proofs.KeptByClients.{IsMoveOf, facts_moved, granted_moves, refused_moves, released_moves, logged_moves, installed_moves}
use Rattle.fabric_model.proofs.KeptByDecision.{decided_facts}
use Rattle.fabric_model.proofs.Losing.{more_facts, answered_whole}
use Rattle.fabric_model.proofs.MoveKinds.{Move, Loses, Grants, Refuses, Releases, Decides, Logs, Posts, Takes, Installs, Moved, ByClient, AtPort, AtStage, Recovers}
use Rattle.fabric_model.proofs.Recovering.{recovered_holds}
use Rattle.fabric_model.proofs.Resumed.{open_within}
use Rattle.fabric_model.proofs.Tasks.{KnownLog}
use Rattle.fabric_model.proofs.TrueOrder.{follow_append, greatest_low}

-- ---- one more intent

longer_from : (plan : Plan) (h : History) (switch : Option Switch) (d c j : ℕ) (answered : List PlainIntent) (outcomes : List PlainOutcome) (intent : PlainIntent) → AreAnswers plan h switch d answered outcomes
    → (n : ℕ) × (tasks_from c j (answered ++ intent ∷ []) outcomes ≡ tasks_from c j answered outcomes ++ record { client = c; index = n; intent = intent; outcome = None } ∷ [])
longer_from plan h switch d c j [] [] intent all = (j, refl)
longer_from plan h switch d c j [] (o ∷ os) intent all = absurd all
longer_from plan h switch d c j (i ∷ rest) [] intent all = absurd all
longer_from plan h switch d c j (i ∷ rest) (o ∷ os) intent all =
    let r = longer_from plan h switch d c (j + 1) rest os intent all.1 in
    (r.0, ap (λ (l : List Task). record { client = c; index = j; intent = i; outcome = Some o } ∷ l) r.1)

longer_behind : (logs : List Records) (k c : ℕ) (new : Records) (t : Task) → c < length logs
    → tasks_from (k + c) 0 new.intents new.outcomes ≡ tasks_from (k + c) 0 (get_or logs c no_records).intents (get_or logs c no_records).outcomes ++ t ∷ []
    → IsPermutation (t ∷ tasks_behind k (plain_logs logs)) (tasks_behind k (plain_logs (set logs c new)))
longer_behind [] k c new t lt is = absurd (omega arith)
longer_behind (log ∷ logs) k zero new t lt is =
    let same : k + 0 ≡ k = omega arith in
    let here : tasks_from k 0 new.intents new.outcomes ≡ tasks_from k 0 log.intents log.outcomes ++ t ∷ [] = subst (λ (d : ℕ). tasks_from d 0 new.intents new.outcomes ≡ tasks_from d 0 log.intents log.outcomes ++ t ∷ []) same is in
    let first = tasks_from k 0 log.intents log.outcomes in
    let later = tasks_behind (k + 1) (plain_logs logs) in
    subst (IsPermutation (t ∷ (first ++ later))) (sym (ap (λ (l : List Task). l ++ later) here ∙ append_assoc first (t ∷ []) later))
    (IsPermutation-sym (first ++ t ∷ later) (t ∷ (first ++ later)) (IsPermutation-middle first t later))
longer_behind (log ∷ logs) k (suc c) new t lt is =
    let next : k + suc c ≡ (k + 1) + c = omega arith in
    let first = tasks_from k 0 log.intents log.outcomes in
    let later = tasks_behind (k + 1) (plain_logs logs) in
    let rest = longer_behind logs (k + 1) c new t (omega arith) (subst (λ (d : ℕ). tasks_from d 0 new.intents new.outcomes ≡ tasks_from d 0 (get_or logs c no_records).intents (get_or logs c no_records).outcomes ++ t ∷ []) next is) in
    IsPermutation-trans (t ∷ (first ++ later)) (first ++ t ∷ later) (first ++ tasks_behind (k + 1) (plain_logs (set logs c new)))
    (IsPermutation-sym (first ++ t ∷ later) (t ∷ (first ++ later)) (IsPermutation-middle first t later))
    (IsPermutation-append_right first (t ∷ later) (tasks_behind (k + 1) (plain_logs (set logs c new))) rest)

record Longer (logs : List Records) (c : ℕ) (intent : PlainIntent) : Type 0 where
  pub task : Task
  pub intent_is : task.intent ≡ intent
  pub none : task.outcome ≡ None
  pub all : IsPermutation (task ∷ tasks_of (plain_logs logs)) (tasks_of (plain_logs (set logs c (with_intent intent (get_or logs c no_records)))))

longer : (plan : Plan) (h : History) (switch : Option Switch) (logs : List Records) (c : ℕ) (intent : PlainIntent) (answered : List PlainIntent) → c < length logs → (get_or logs c no_records).intents ≡ answered
    → AreAnswers plan h switch c answered (get_or logs c no_records).outcomes → Longer logs c intent
longer plan h switch logs c intent answered lt is all =
    let log = get_or logs c no_records in
    let start : c ≡ 0 + c = omega arith in
    let r = longer_from plan h switch c (0 + c) 0 answered log.outcomes intent all in
    record {
      task = record { client = 0 + c; index = r.0; intent = intent; outcome = None };
      intent_is = refl;
      none = refl;
      all = longer_behind logs 0 c (with_intent intent log) (record { client = 0 + c; index = r.0; intent = intent; outcome = None }) lt
          (ap (λ (l : List PlainIntent). tasks_from (0 + c) 0 (l ++ intent ∷ []) log.outcomes) is ∙ r.1
          ∙ ap (λ (l : List PlainIntent). tasks_from (0 + c) 0 l log.outcomes ++ record { client = 0 + c; index = r.0; intent = intent; outcome = None } ∷ []) (sym is));
    }

-- a new intent has the number behind all others
placed_longer : (logs : List Records) (m : Places) (c : ℕ) (intent : PlainIntent) (order : List Task) → (new : Longer logs c intent) → IsPlacement (plain_logs logs) m order → intent.floor < 1 + length order
    → IsPlacement (plain_logs (set logs c (with_intent intent (get_or logs c no_records)))) m (order ++ new.task ∷ [])
placed_longer logs m c intent order new placed above =
    let tasks = tasks_of (plain_logs logs) in
    let t = new.task in
    let whole = tasks_of (plain_logs (set logs c (with_intent intent (get_or logs c no_records)))) in
    record {
      all = IsPermutation-trans whole (t ∷ tasks) (order ++ t ∷ []) (IsPermutation-sym (t ∷ tasks) whole new.all)
          (IsPermutation-trans (t ∷ tasks) (t ∷ order) (order ++ t ∷ []) (IsPermutation-cons t tasks order placed.all) (IsPermutation-sym (order ++ t ∷ []) (t ∷ order) (IsPermutation-to_front order t)));
      follows = follow_append 1 m order (t ∷ []) placed.follows (λ n. (
        record {
          above = subst (λ (i : PlainIntent). i.floor < 1 + length order) (sym new.intent_is) above;
          answer = subst (λ (o : Option PlainOutcome). HasAnswer o (1 + length order) (replay t.intent.packet n).pairs) (sym new.none) tt;
        },
        tt,
      ));
    }

-- ---- moves

module _ (plan : Plan) (sound : IsSound plan) (fits : PacketsFit plan) (s : State) (holds : HoldsLost plan s) (known : (d : ℕ) → KnownLog plan (client_at s) s.history s.switch d (log_at s d)) (as_many : length s.logs ≡ length s.clients)
    (first : (order : List Task) → s.switch ≡ None → order_now plan s ≡ Some order → IsPlacement (plain_logs s.logs) (hot_cells plan) order) where
  abbrev most : ℕ
  most = length (tasks_of (plain_logs s.logs))

  facts : HostFacts plan most (client_at s) s.store s.history
  facts = holds.facts

  all_answered : answered_ones s.history ≡ s.history
  all_answered = answered_whole s.history holds.answered

  lost_moved : (c : ℕ) (z : State) → c < length s.clients → IsMoveOf plan s most c z → z.logs ≡ s.logs → HoldsLost plan z
  lost_moved c z lt move logs = record {
    lost = move.switch ∙ holds.lost;
    facts = subst (λ (l : List Records). HostFacts plan (length (tasks_of (plain_logs l))) (client_at z) z.store z.history) (sym logs) (facts_moved plan s most c lt z move facts);
    answered = subst AllAnswered (sym move.history) holds.answered;
    order = holds.order;
    placed = subst (λ (l : List Records). IsPlacement (plain_logs l) (hot_cells plan) holds.order) (sym logs) holds.placed;
  }

  asks_closed : (x : ClientState) → IsAsking x → has_open x.phase ≡ false
  asks_closed x (inl is) = ap has_open is
  asks_closed x (inr is) = ap has_open is

  none_open : (c : ℕ) (x : ClientState) (b : Bool) → b ≡ false → (answered : List PlainIntent) → answered ++ (if b then intent_now plan c x ∷ [] else []) ≡ answered
  none_open c x true e answered = cc
  none_open c x false e answered = append-nil answered

  length_order : length holds.order ≡ most
  length_order = length_permutation (tasks_of (plain_logs s.logs)) holds.order holds.placed.all

  logged_state : (d : ℕ) → d < length s.clients → IsMoveOf plan s most d (logged plan s d (client_at s d)) → (order : List Task) (t : Task)
      → IsPlacement (plain_logs (set s.logs d (with_intent (intent_now plan d (client_at s d)) (log_at s d)))) (hot_cells plan) (order ++ t ∷ []) → most ≤ length (tasks_of (plain_logs (set s.logs d (with_intent (intent_now plan d (client_at s d)) (log_at s d)))))
      → HoldsLost plan (logged plan s d (client_at s d))
  unfolding logged
  logged_state d low move order t placed size = record {
    lost = holds.lost;
    facts = more_facts plan most (length (tasks_of (plain_logs (set s.logs d (with_intent (intent_now plan d (client_at s d)) (log_at s d)))))) (client_at (logged plan s d (client_at s d))) s.store s.history size (facts_moved plan s most d low (logged plan s d (client_at s d)) move facts);
    answered = holds.answered;
    order = order ++ t ∷ [];
    placed = placed;
  }

  lost_logged : (c : ℕ) → c < length s.clients → IsAsking (client_at s c) → next_op plan c (client_at s c) ≡ None → has_hot plan (script_now plan c (client_at s c)) ≡ true → HoldsLost plan (logged plan s c (client_at s c))
  lost_logged c lt asks next hot =
      let x = client_at s c in
      let intent = intent_now plan c x in
      let move = logged_moves plan (all_distinct plan sound) s c lt most facts asks next hot in
      let k = known c in
      let new = longer plan s.history s.switch s.logs c intent k.answered (omega (arith, lt, as_many)) (k.intents ∙ none_open c x (has_open x.phase) (asks_closed x asks) k.answered) k.outcomes in
      let floor : intent.floor ≤ most = greatest_low most x.last x.noted (facts.covered.last c) (facts.covered.noted c) in
      let placed = placed_longer s.logs (hot_cells plan) c intent holds.order new holds.placed (omega (arith, floor, length_order)) in
      let size : most ≤ length (tasks_of (plain_logs (set s.logs c (with_intent intent (log_at s c))))) = omega (arith, length_permutation (new.task ∷ tasks_of (plain_logs s.logs)) _ new.all) in
      logged_state c lt move holds.order new.task placed size

  asks_fit : (c : ℕ) → IsAsking (client_at s c) → length (client_at s c).noted ≤ length (cold_ops plan.layout (script_now plan c (client_at s c)))
  asks_fit c (inl is) = let fit : FitsPhase plan c (client_at s c) Ready = subst (λ (p : Phase). FitsPhase plan c (client_at s c) p) is (facts.cold.fits c) in omega (arith, ap length fit.0)
  asks_fit c (inr is) = let fit : FitsPhase plan c (client_at s c) Locking = subst (λ (p : Phase). FitsPhase plan c (client_at s c) p) is (facts.cold.fits c) in fit.0

  lost_decided : (c : ℕ) → c < length s.clients → IsAsking (client_at s c) → next_op plan c (client_at s c) ≡ None → has_hot plan (script_now plan c (client_at s c)) ≡ false → 0 < length (client_at s c).noted → HoldsLost plan (decided plan s c (client_at s c))
  unfolding decided
  lost_decided c lt asks next cold some =
      let x = client_at s c in
      let reply = joined plan.layout (script_now plan c x) (values_of x.noted) [] in
      let visit = visit_of plan c x.seq sound (some_cold plan (script_now plan c x) (omega (arith, some, asks_fit c asks))) in
      record {
        lost = holds.lost;
        facts = decided_facts plan (all_distinct plan sound) s c lt most facts
            (λ _. subst (AllByRecursion (λ f. f.entry.client ≡ c → AtMost f.entry.stamp x.last)) all_answered (facts.cold.own c)) visit asks next cold some;
        answered = all-with_entry (λ e. IsSome e.pairs) (record { entry = record { stamp = decision_stamp x.last x.noted; client = c; seq = x.seq }; pairs = Some reply }) s.history holds.answered refl;
        order = holds.order;
        placed = holds.placed;
      }

  never : (now : Switch) → s.switch ≡ Some now → ⊥
  never now up = let clash : None ≡ Some now = sym holds.lost ∙ up in cc

  by_move : (c : ℕ) (after z : State) → c < length s.clients → after ≡ z → IsMoveOf plan s most c z → z.logs ≡ s.logs → HoldsNow plan after
  by_move c after z lt is move logs = WhileLost (subst (HoldsLost plan) (sym is) (lost_moved c z lt move logs))

  lost_by_client : (c : ℕ) (after : State) → c < length s.clients → Move plan s c after → HoldsNow plan after
  unfolding granted refused released installed
  lost_by_client c after lt (Loses now phase item up is) = absurd (never now up)
  lost_by_client c after lt (Grants op asks next free is) = by_move c after _ lt is (granted_moves plan (all_distinct plan sound) s c lt most facts op asks next free) refl
  lost_by_client c after lt (Refuses op by asks next held is) = by_move c after _ lt is (refused_moves plan (all_distinct plan sound) s c lt most facts op by asks) refl
  lost_by_client c after lt (Releases phase is) = by_move c after _ lt is (released_moves plan (all_distinct plan sound) s c lt most facts phase) refl
  lost_by_client c after lt (Decides asks next cold some is) = WhileLost (subst (HoldsLost plan) (sym is) (lost_decided c lt asks next cold some))
  lost_by_client c after lt (Logs asks next hot is) = WhileLost (subst (HoldsLost plan) (sym is) (lost_logged c lt asks next hot))
  lost_by_client c after lt (Posts now next phase up to is) = absurd (never now up)
  lost_by_client c after lt (Takes now next answer phase up has to is) = absurd (never now up)
  lost_by_client c after lt (Installs p phase at is) = by_move c after _ lt is (installed_moves plan (all_distinct plan sound) s c lt most facts p phase at) refl

  known_lost : (d : ℕ) → KnownLog plan (client_at s) s.history None d (log_at s d)
  known_lost d = subst (λ (o : Option Switch). KnownLog plan (client_at s) s.history o d (log_at s d)) holds.lost (known d)

  recovers_by : (order : List Task) → IsPlacement (plain_logs s.logs) (hot_cells plan) order → Holds plan (recovered plan s order)
  recovers_by order placed = recovered_holds plan sound fits s most facts holds.answered known_lost as_many (λ c opens. open_within s.clients c opens) (omega arith) order placed

  pub kept_lost : (after : State) (actor : Actor) → Moved plan s after actor → HoldsNow plan after
  kept_lost after actor (ByClient c within move) = lost_by_client c after within move
  kept_lost after actor (AtPort c now next up to is) = absurd (never now up)
  kept_lost after actor (AtStage x now next up to is) = absurd (never now up)
  kept_lost after actor (Recovers order down found is) = WhileUp (subst (Holds plan) (sym is) (recovers_by order (first order down found)))
