-- The tasks of the first order, where the switch is lost: which of them are open, and what their packets are like.
use Rattle.std.proofs.Common.{◌≡◌, ℕ, suc, ◌+◌, ◌<◌, ◌≤◌, ◌==◌, ◌||◌, Bool, true, false, List, [], ◌∷◌, ◌++◌, length, drop, Option, Some, None, is_none, inl, inr, refl, sym, ap, ap₂, subst, ◌∙◌, arith, if◌then◌else◌}
use Rattle.std.specs.Prelude.{slice_index_or}
use Rattle.std.specs.List.{AllByRecursion, list_any}
use Rattle.std.proofs.lemmas.Bool.Decides.{nat_tests}
use Rattle.history_model.specs.History.{History}
use Rattle.placement_model.specs.Placements.{Task, IsPlacement, tasks_from, tasks_behind, tasks_of, packets_of}
use Rattle.switch_packet.specs.Packets.{PlainPacket, PlainIntent, PlainOutcome}
use Rattle.switch_model.specs.Switch.{Switch}
use Rattle.warm_split.specs.Resolved.{packet_from}
use Rattle.log_records.specs.Records.{PlainRecords}
use Rattle.catalogue.specs.Plan.{Plan, hot_cells}
use Rattle.core_model.specs.State.{ClientState}
use Rattle.fabric_model.specs.Fits.{OfPackets}
use Rattle.fabric_model.specs.Holds.{HoldsLost}
use Rattle.fabric_model.specs.Intents.{intent_now, packet_now, values_of}
use Rattle.fabric_model.specs.Laws.{IsReached}
use Rattle.fabric_model.specs.Recorded.{AreAnswers, has_open, open_intent}
use Rattle.fabric_model.specs.Recovery.{plain_logs}
use Rattle.fabric_model.specs.State.{Records, State, client_at, log_at}
use Rattle.fabric_model.specs.Step.{order_now}
use Rattle.fabric_model.proofs.Among.{In, in_cases, all_in, all_of_in, all_permutation}
use Rattle.fabric_model.proofs.Either.{lost_of}
use Rattle.fabric_model.proofs.Keeping.{first_is_first}
use Rattle.fabric_model.proofs.Legal.{holds_now, records_answer}
use Rattle.fabric_model.proofs.Resumed.{open_cases}
use Rattle.fabric_model.proofs.Tasks.{KnownLog, TaskFits, FitsBy, AreAscending, all_fit, answers_alone, all_ascending, open_once, open_task, opens, tasks_single}
use Rattle.fabric_core.specs.Recovering.{awaits, no_log}
use Rattle.fabric_core.specs.Standing.{AreLogs}

-- ---- lists

same_place : (xs ys : List PlainIntent) → drop (length xs) (xs ++ ys) ≡ ys
same_place [] ys = refl
same_place (x ∷ xs) ys = same_place xs ys

-- as many outcomes as answered intents
pub as_many : (plan : Plan) (h : History) (switch : Option Switch) (c : ℕ) (intents : List PlainIntent) (outcomes : List PlainOutcome) → AreAnswers plan h switch c intents outcomes → length intents ≡ length outcomes
as_many plan h switch c [] [] are = refl
as_many plan h switch c [] (o ∷ outcomes) are = absurd are
as_many plan h switch c (i ∷ intents) [] are = absurd are
as_many plan h switch c (i ∷ intents) (o ∷ outcomes) are = ap suc (as_many plan h switch c intents outcomes are.1)

-- a task of a client's log is that client's
client_from : (c j : ℕ) (intents : List PlainIntent) (outcomes : List PlainOutcome) (t : Task) → In t (tasks_from c j intents outcomes) → t.client ≡ c
client_from c j [] outcomes t i = absurd i
client_from c j (a ∷ rest) [] t (inl e) = ap (λ (x : Task). x.client) (sym e)
client_from c j (a ∷ rest) [] t (inr i) = client_from c (j + 1) rest [] t i
client_from c j (a ∷ rest) (o ∷ os) t (inl e) = ap (λ (x : Task). x.client) (sym e)
client_from c j (a ∷ rest) (o ∷ os) t (inr i) = client_from c (j + 1) rest os t i

client_within : (k : ℕ) (logs : List Records) (t : Task) → In t (tasks_behind k (plain_logs logs)) → t.client < k + length logs
client_within k [] t i = absurd i
client_within k (log ∷ logs) t i = elim (in_cases (tasks_from k 0 log.intents log.outcomes) (tasks_behind (k + 1) (plain_logs logs)) t i) [
  | inl a ↦ omega (arith, client_from k 0 log.intents log.outcomes t a)
  | inr b ↦ omega (arith, client_within (k + 1) logs t b)
]

-- ---- numbers

itself : (a b : ℕ) → a ≡ b → ((a == b) || false) ≡ true
itself a b e = by (a == b) (equal e)
  where
    equal : a ≡ b → (a == b) ≡ true
    equal i = grind (arith, nat_tests)

    by : (t : Bool) → t ≡ true → (t || false) ≡ true
    by true is = refl
    by false is = cc

apart : (a b : ℕ) → (a ≡ b → ⊥) → ((a == b) || false) ≡ false
apart a b differ = by (a == b) refl
  where
    equal : (a == b) ≡ true → a ≡ b
    equal is = grind (arith, nat_tests)

    by : (t : Bool) → (a == b) ≡ t → (t || false) ≡ false
    by true is = absurd (differ (equal is))
    by false is = refl

module _ (plan : Plan) (s : State) (reached : IsReached plan s) (lost : s.switch ≡ None) where
  pub while_lost : HoldsLost plan s
  while_lost = lost_of plan s (holds_now plan s reached) lost

  pub known : (c : ℕ) → KnownLog plan (client_at s) s.history None c (log_at s c)
  known c =
      let r = records_answer plan s reached c in
      record {
        answered = r.answered;
        intents = r.intents;
        outcomes = answers_alone plan s.history s.switch c r.answered (log_at s c).outcomes r.outcomes;
        ascending = r.ascending;
        told = r.told;
      }

  pub all_ascend : AreAscending s.logs
  all_ascend = all_ascending s.logs (λ c. (known c).ascending)

  pub tasks_known : AllByRecursion (TaskFits plan (client_at s) s.history None) (tasks_of (plain_logs s.logs))
  tasks_known = all_fit plan (client_at s) s.history None s.logs known

  pub task_within : (t : Task) → In t (tasks_of (plain_logs s.logs)) → t.client < length s.logs
  task_within t i = omega (arith, client_within 0 s.logs t i)

  -- ---- packets

  of_packet : (P : PlainPacket → Type 0) → OfPackets plan P → (t : Task) (o : Option PlainOutcome) → t.outcome ≡ o → TaskFits plan (client_at s) s.history None t → P t.intent.packet
  of_packet P all t (Some o) is f =
      let a = subst (FitsBy plan (client_at s) s.history None t.client t.intent) is f in
      subst P (sym a.packet) (all t.client o.seq a.values a.hot)
  of_packet P all t None is f =
      let a = subst (FitsBy plan (client_at s) s.history None t.client t.intent) is f in
      let x = client_at s t.client in
      subst P (sym (ap (λ (i : PlainIntent). i.packet) a.1)) (all t.client x.seq (values_of x.noted) (while_lost.facts.hot_ones t.client (open_cases x.phase a.0)))

  -- what holds of the packets of all transactions in the switch holds of each task's
  pub packets_all : (P : PlainPacket → Type 0) → OfPackets plan P → AllByRecursion (λ t. P t.intent.packet) (tasks_of (plain_logs s.logs))
  packets_all P all = all_of_in (λ t. P t.intent.packet) (tasks_of (plain_logs s.logs)) (λ t i. of_packet P all t t.outcome refl (all_in (TaskFits plan (client_at s) s.history None) (tasks_of (plain_logs s.logs)) t tasks_known i))

  -- ---- open ones

  abbrev open_in : Records → ℕ → Bool
  open_in log seq = list_any (λ i. i.packet.seq == seq) (drop (length log.outcomes) log.intents)

  seq_now : (c : ℕ) (x : ClientState) → (packet_now plan c x).seq ≡ x.seq
  unfolding packet_from
  seq_now c x = refl

  behind : (c seq : ℕ) → open_in (log_at s c) seq ≡ list_any (λ i. i.packet.seq == seq) (open_intent plan c (client_at s c))
  behind c seq =
      let k = known c in
      let n = length (log_at s c).outcomes in
      let many : length k.answered ≡ n = as_many plan s.history None c k.answered (log_at s c).outcomes k.outcomes in
      ap (λ (l : List PlainIntent). list_any (λ i. i.packet.seq == seq) (drop n l)) k.intents
      ∙ ap (λ (j : ℕ). list_any (λ i. i.packet.seq == seq) (drop j (k.answered ++ open_intent plan c (client_at s c)))) (sym many)
      ∙ ap (list_any (λ i. i.packet.seq == seq)) (same_place k.answered (open_intent plan c (client_at s c)))

  abbrev one_in : ℕ → ℕ → Bool → Bool
  one_in c seq b = list_any (λ i. i.packet.seq == seq) (if b then intent_now plan c (client_at s c) ∷ [] else [])

  open_of : (t : Task) (o : Option PlainOutcome) → t.outcome ≡ o → In t (tasks_of (plain_logs s.logs)) → open_in (log_at s t.client) t.intent.packet.seq ≡ is_none o
  open_of t None is i =
      let c = t.client in
      let seq = t.intent.packet.seq in
      let a = subst (FitsBy plan (client_at s) s.history None c t.intent) is (all_in (TaskFits plan (client_at s) s.history None) (tasks_of (plain_logs s.logs)) t tasks_known i) in
      behind c seq ∙ ap (one_in c seq) a.0 ∙ itself _ seq (ap (λ (j : PlainIntent). j.packet.seq) (sym a.1))
  open_of t (Some o) is i = behind t.client t.intent.packet.seq ∙ by (has_open (client_at s t.client).phase) refl
    where
      other : has_open (client_at s t.client).phase ≡ true → (intent_now plan t.client (client_at s t.client)).packet.seq ≡ t.intent.packet.seq → ⊥
      other opens same =
          let task = open_task plan (client_at s) s.history None s.logs t.client (task_within t i) (known t.client) opens in
          let a = subst (FitsBy plan (client_at s) s.history None task.task.client task.task.intent) task.outcome (all_in (TaskFits plan (client_at s) s.history None) (tasks_of (plain_logs s.logs)) task.task tasks_known task.there) in
          let seqs : task.task.intent.packet.seq ≡ t.intent.packet.seq = ap (λ (j : PlainIntent). j.packet.seq) a.1 ∙ ap (λ (d : ℕ). (intent_now plan d (client_at s d)).packet.seq) task.client ∙ same in
          let one = tasks_single s.logs t task.task all_ascend i task.there (sym task.client) (sym seqs) in
          let clash : Some o ≡ None = sym is ∙ ap (λ (x : Task). x.outcome) one ∙ task.outcome in
          cc

      by : (b : Bool) → has_open (client_at s t.client).phase ≡ b → one_in t.client t.intent.packet.seq (has_open (client_at s t.client).phase) ≡ false
      by true opens = ap (one_in t.client t.intent.packet.seq) opens ∙ apart _ t.intent.packet.seq (other opens)
      by false none = ap (one_in t.client t.intent.packet.seq) none

  module _ (order : List Task) (here : order_now plan s ≡ Some order) where
    pub placed : IsPlacement (plain_logs s.logs) (hot_cells plan) order
    placed = (first_is_first plan s reached order here).placement

    -- what holds of the tasks holds of those in order
    pub in_order : (P : Task → Type 0) → AllByRecursion P (tasks_of (plain_logs s.logs)) → AllByRecursion P order
    in_order P all = all_permutation P (tasks_of (plain_logs s.logs)) order placed.all all

    pub all_known : AllByRecursion (TaskFits plan (client_at s) s.history None) order
    all_known = in_order (TaskFits plan (client_at s) s.history None) tasks_known

    pub once : (c : ℕ) → opens c order ≤ 1
    once c = open_once plan (client_at s) s.history None c s.logs order known placed.all

    pub within : AllByRecursion (λ t. t.client < length s.logs) order
    within = in_order (λ t. t.client < length s.logs) (all_of_in (λ t. t.client < length s.logs) (tasks_of (plain_logs s.logs)) task_within)

    packets_from : (P : PlainPacket → Type 0) (tasks : List Task) → AllByRecursion (λ t. P t.intent.packet) tasks → AllByRecursion P (packets_of tasks)
    packets_from P [] all = tt
    packets_from P (t ∷ tasks) all = (all.0, packets_from P tasks all.1)

    pub of_packets : (P : PlainPacket → Type 0) → OfPackets plan P → AllByRecursion P (packets_of order)
    of_packets P all = packets_from P order (in_order (λ t. P t.intent.packet) (packets_all P all))

    -- a task's packet stands behind the answered ones of its client's log exactly where the task is open
    pub open_rows : (kept : List PlainRecords) → AreLogs plan s.logs kept → AllByRecursion (λ t. awaits (slice_index_or kept t.client no_log) t.intent.packet.seq ≡ is_none t.outcome) order
    open_rows kept logs = in_order (λ t. awaits (slice_index_or kept t.client no_log) t.intent.packet.seq ≡ is_none t.outcome) (all_of_in (λ t. awaits (slice_index_or kept t.client no_log) t.intent.packet.seq ≡ is_none t.outcome) (tasks_of (plain_logs s.logs)) each)
      where
        each : (t : Task) → In t (tasks_of (plain_logs s.logs)) → awaits (slice_index_or kept t.client no_log) t.intent.packet.seq ≡ is_none t.outcome
        each t i =
            let log = logs.each t.client no_log (task_within t i) in
            ap₂ (λ (n : ℕ) (l : List PlainIntent). list_any (λ j. j.packet.seq == t.intent.packet.seq) (drop n l)) (ap length log.outcomes) log.intents ∙ open_of t t.outcome refl i
