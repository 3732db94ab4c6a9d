-- The tasks of the clients' logs: what each of them is, and that each open intent and each outcome has one.
use Rattle.std.proofs.Common.{◌≡◌, ◌≢◌, ◌⊎◌, ℕ, zero, suc, ◌+◌, ◌<◌, ◌≤◌, ◌==◌, ◌&&◌, Bool, true, false, List, [], ◌∷◌, ◌++◌, length, get_or, slice_get, Option, Some, None, is_none, inl, inr, refl, sym, ap, subst, ◌∙◌, arith, if◌then◌else◌, cond}
use Rattle.std.specs.Prelude.{IsPermutation}
use Rattle.std.specs.List.{AllByRecursion, position_from, sum_by}
use Rattle.std.proofs.lemmas.Bool.Decides.{nat_tests}
use Rattle.std.proofs.lemmas.List.Sorted.{sum_by-IsPermutation}
use Rattle.std.proofs.lemmas.List.Sums.{sum_by-cons}
use Rattle.history_model.specs.History.{History}
use Rattle.placement_model.specs.Placements.{Task, tasks_from, tasks_behind, tasks_of}
use Rattle.switch_packet.specs.Packets.{PlainIntent, PlainOutcome}
use Rattle.switch_model.specs.Switch.{Switch}
use Rattle.catalogue.specs.Plan.{Plan}
use Rattle.core_model.specs.Facts.{Clients}
use Rattle.core_model.specs.Laws.{IsAscending}
use Rattle.fabric_model.specs.Intents.{intent_now}
use Rattle.fabric_model.specs.Recorded.{has_open, open_intent, IsAnswer, AreAnswers, IsTold, seqs_in}
use Rattle.fabric_model.specs.Recovery.{plain_logs, is_open_of}
use Rattle.fabric_model.specs.State.{Records, no_records}
use Rattle.fabric_model.proofs.Among.{In, in_left, in_right, in_cases, all_in, Once, once_append}

-- what a client's log has
pub record KnownLog (plan : Plan) (at : Clients) (h : History) (switch : Option Switch) (c : ℕ) (log : Records) : Type 0 where
  pub answered : List PlainIntent
  pub intents : log.intents ≡ answered ++ open_intent plan c (at c)
  pub outcomes : AreAnswers plan h switch c answered log.outcomes
  pub ascending : IsAscending (seqs_in log.intents)
  pub told : AllByRecursion (IsTold c log.outcomes) h

abbrev pub FitsBy : Plan → Clients → History → Option Switch → ℕ → PlainIntent → Option PlainOutcome → Type 0
FitsBy plan at h switch c intent (Some outcome) = IsAnswer plan h switch c intent outcome
FitsBy plan at h switch c intent None = (has_open (at c).phase ≡ true) × (intent ≡ intent_now plan c (at c))

-- an answered task is an answer, and an open one is that of its client's present item
abbrev pub TaskFits : Plan → Clients → History → Option Switch → Task → Type 0
TaskFits plan at h switch task = FitsBy plan at h switch task.client task.intent task.outcome

-- a task of this client, open or with this outcome
pub record HasTask (c : ℕ) (o : Option PlainOutcome) (tasks : List Task) : Type 0 where
  pub task : Task
  pub there : In task tasks
  pub client : task.client ≡ c
  pub outcome : task.outcome ≡ o

-- ---- what holds of a lost switch's answers

none_up : {now : Switch} → None ≡ Some now → ⊥
none_up e = cc

pub answers_alone : (plan : Plan) (h : History) (switch : Option Switch) (c : ℕ) (intents : List PlainIntent) (outcomes : List PlainOutcome) → AreAnswers plan h switch c intents outcomes → AreAnswers plan h None c intents outcomes
answers_alone plan h switch c [] [] all = tt
answers_alone plan h switch c [] (o ∷ os) all = all
answers_alone plan h switch c (i ∷ is) [] all = all
answers_alone plan h switch c (i ∷ is) (o ∷ os) all = (
  record { seq = all.0.seq; above = all.0.above; hot = all.0.hot; values = all.0.values; packet = all.0.packet; entry = all.0.entry; place = all.0.place; number = all.0.number; there = λ now up. absurd (none_up up) },
  answers_alone plan h switch c is os all.1,
)

-- how many open tasks a client has
abbrev is_open : ℕ → Task → ℕ
is_open c t = if is_open_of c t then 1 else 0

abbrev pub opens : ℕ → List Task → ℕ
opens c [] = 0
opens c (t ∷ tasks) = is_open c t + opens c tasks

module _ (plan : Plan) (at : Clients) (h : History) (switch : Option Switch) where
  -- ---- all tasks fit

  fit_open : (c j : ℕ) (b : Bool) → has_open (at c).phase ≡ b → AllByRecursion (TaskFits plan at h switch) (tasks_from c j (if b then intent_now plan c (at c) ∷ [] else []) [])
  fit_open c j true is = ((is, refl), tt)
  fit_open c j false is = tt

  fit_from : (c j : ℕ) (answered : List PlainIntent) (outcomes : List PlainOutcome) → AreAnswers plan h switch c answered outcomes → AllByRecursion (TaskFits plan at h switch) (tasks_from c j (answered ++ open_intent plan c (at c)) outcomes)
  fit_from c j [] [] all = fit_open c j (has_open (at c).phase) refl
  fit_from c j [] (o ∷ os) all = absurd all
  fit_from c j (i ∷ is) [] all = absurd all
  fit_from c j (i ∷ is) (o ∷ os) all = (all.0, fit_from c (j + 1) is os all.1)

  all_both : (P : Task → Type 0) (a b : List Task) → AllByRecursion P a → AllByRecursion P b → AllByRecursion P (a ++ b)
  all_both P [] b one two = two
  all_both P (t ∷ a) b one two = (one.0, all_both P a b one.1 two)

  log_of : (logs : List Records) (k : ℕ) → ((c : ℕ) → KnownLog plan at h switch (k + c) (get_or logs c no_records)) → ((c : ℕ) → KnownLog plan at h switch ((k + 1) + c) (get_or logs (suc c) no_records))
  log_of logs k known c = let same : k + suc c ≡ (k + 1) + c = omega arith in subst (λ (d : ℕ). KnownLog plan at h switch d (get_or logs (suc c) no_records)) same (known (suc c))

  fit_behind : (logs : List Records) (k : ℕ) → ((c : ℕ) → KnownLog plan at h switch (k + c) (get_or logs c no_records)) → AllByRecursion (TaskFits plan at h switch) (tasks_behind k (plain_logs logs))
  fit_behind [] k known = tt
  fit_behind (log ∷ logs) k known =
      let same : k + 0 ≡ k = omega arith in
      let here : KnownLog plan at h switch k log = subst (λ (d : ℕ). KnownLog plan at h switch d log) same (known 0) in
      all_both (TaskFits plan at h switch) (tasks_from k 0 log.intents log.outcomes) (tasks_behind (k + 1) (plain_logs logs))
      (subst (λ (l : List PlainIntent). AllByRecursion (TaskFits plan at h switch) (tasks_from k 0 l log.outcomes)) (sym here.intents) (fit_from k 0 here.answered log.outcomes here.outcomes))
      (fit_behind logs (k + 1) (log_of (log ∷ logs) k known))

  pub all_fit : (logs : List Records) → ((c : ℕ) → KnownLog plan at h switch c (get_or logs c no_records)) → AllByRecursion (TaskFits plan at h switch) (tasks_of (plain_logs logs))
  all_fit logs known = fit_behind logs 0 (λ c. let same : c ≡ 0 + c = omega arith in subst (λ (d : ℕ). KnownLog plan at h switch d (get_or logs c no_records)) same (known c))

  -- ---- each outcome and each open intent has a task

  outcome_from : (c j : ℕ) (answered more : List PlainIntent) (outcomes : List PlainOutcome) (i : ℕ) (o : PlainOutcome) → AreAnswers plan h switch c answered outcomes → slice_get outcomes i ≡ Some o → HasTask c (Some o) (tasks_from c j (answered ++ more) outcomes)
  outcome_from c j [] more [] i o all e = cc
  outcome_from c j [] more (p ∷ os) i o all e = absurd all
  outcome_from c j (a ∷ rest) more [] i o all e = absurd all
  outcome_from c j (a ∷ rest) more (p ∷ os) zero o all e = record { task = record { client = c; index = j; intent = a; outcome = Some p }; there = inl refl; client = refl; outcome = e }
  outcome_from c j (a ∷ rest) more (p ∷ os) (suc i) o all e =
      let r = outcome_from c (j + 1) rest more os i o all.1 e in
      record { task = r.task; there = inr r.there; client = r.client; outcome = r.outcome }

  open_alone : (c j : ℕ) (b : Bool) → b ≡ true → HasTask c None (tasks_from c j (if b then intent_now plan c (at c) ∷ [] else []) [])
  open_alone c j true is = record { task = record { client = c; index = j; intent = intent_now plan c (at c); outcome = None }; there = inl refl; client = refl; outcome = refl }
  open_alone c j false is = cc

  open_from : (c j : ℕ) (answered : List PlainIntent) (outcomes : List PlainOutcome) → AreAnswers plan h switch c answered outcomes → has_open (at c).phase ≡ true → HasTask c None (tasks_from c j (answered ++ open_intent plan c (at c)) outcomes)
  open_from c j [] [] all opens = open_alone c j (has_open (at c).phase) opens
  open_from c j [] (p ∷ os) all opens = absurd all
  open_from c j (a ∷ rest) [] all opens = absurd all
  open_from c j (a ∷ rest) (p ∷ os) all opens =
      let r = open_from c (j + 1) rest os all.1 opens in
      record { task = r.task; there = inr r.there; client = r.client; outcome = r.outcome }

  behind : (o : Option PlainOutcome) (logs : List Records) (k c : ℕ) → c < length logs → HasTask (k + c) o (tasks_from (k + c) 0 (get_or logs c no_records).intents (get_or logs c no_records).outcomes) → HasTask (k + c) o (tasks_behind k (plain_logs logs))
  behind o [] k c lt t = absurd (omega arith)
  behind o (log ∷ logs) k zero lt t =
      let same : k + 0 ≡ k = omega arith in
      record {
        task = t.task;
        there = in_left (tasks_from k 0 log.intents log.outcomes) (tasks_behind (k + 1) (plain_logs logs)) t.task (subst (λ (d : ℕ). In t.task (tasks_from d 0 log.intents log.outcomes)) same t.there);
        client = t.client;
        outcome = t.outcome;
      }
  behind o (log ∷ logs) k (suc c) lt t =
      let same : k + suc c ≡ (k + 1) + c = omega arith in
      let r = behind o logs (k + 1) c (omega arith) (subst (λ (d : ℕ). HasTask d o (tasks_from d 0 (get_or logs c no_records).intents (get_or logs c no_records).outcomes)) same t) in
      record {
        task = r.task;
        there = in_right (tasks_from k 0 log.intents log.outcomes) (tasks_behind (k + 1) (plain_logs logs)) r.task r.there;
        client = r.client ∙ sym same;
        outcome = r.outcome;
      }

  pub of_logs : (o : Option PlainOutcome) (logs : List Records) (c : ℕ) → c < length logs → HasTask c o (tasks_from c 0 (get_or logs c no_records).intents (get_or logs c no_records).outcomes) → HasTask c o (tasks_of (plain_logs logs))
  of_logs o logs c lt t =
      let same : c ≡ 0 + c = omega arith in
      let r = behind o logs 0 c lt (subst (λ (d : ℕ). HasTask d o (tasks_from d 0 (get_or logs c no_records).intents (get_or logs c no_records).outcomes)) same t) in
      record { task = r.task; there = r.there; client = r.client ∙ sym same; outcome = r.outcome }

  abbrev log_in : List Records → ℕ → Records
  log_in logs c = get_or logs c no_records

  past_logs : (logs : List Records) (c : ℕ) → (c < length logs) ⊎ (log_in logs c ≡ no_records)
  past_logs [] c = inr refl
  past_logs (log ∷ logs) zero = inl (omega arith)
  past_logs (log ∷ logs) (suc c) = elim (past_logs logs c) [ inl lt ↦ inl (omega (arith, lt)) | inr e ↦ inr e ]

  none_there : (i : ℕ) (o : PlainOutcome) (l : List PlainOutcome) → l ≡ [] → slice_get l i ≡ Some o → ⊥
  none_there i o [] is e = cc
  none_there i o (p ∷ l) is e = cc

  pub outcome_task : (logs : List Records) (c i : ℕ) (o : PlainOutcome) → KnownLog plan at h switch c (log_in logs c) → slice_get (log_in logs c).outcomes i ≡ Some o → HasTask c (Some o) (tasks_of (plain_logs logs))
  outcome_task logs c i o known e = elim (past_logs logs c) [
    | inl lt ↦ of_logs (Some o) logs c lt (subst (λ (l : List PlainIntent). HasTask c (Some o) (tasks_from c 0 l (log_in logs c).outcomes)) (sym known.intents) (outcome_from c 0 known.answered (open_intent plan c (at c)) (log_in logs c).outcomes i o known.outcomes e))
    | inr none ↦ absurd (none_there i o (log_in logs c).outcomes (ap (λ (r : Records). r.outcomes) none) e)
  ]

  pub open_task : (logs : List Records) (c : ℕ) → c < length logs → KnownLog plan at h switch c (log_in logs c) → has_open (at c).phase ≡ true → HasTask c None (tasks_of (plain_logs logs))
  open_task logs c lt known opens =
      of_logs None logs c lt (subst (λ (l : List PlainIntent). HasTask c None (tasks_from c 0 l (log_in logs c).outcomes)) (sym known.intents) (open_from c 0 known.answered (log_in logs c).outcomes known.outcomes opens))

  -- ---- a client has one open task at most

  opens_sum : (c : ℕ) (tasks : List Task) → opens c tasks ≡ sum_by (is_open c) tasks
  opens_sum c [] = refl
  opens_sum c (t ∷ tasks) = ap (λ (n : ℕ). is_open c t + n) (opens_sum c tasks) ∙ sym (sum_by-cons (is_open c) t tasks)

  opens_same : (c : ℕ) (xs ys : List Task) → IsPermutation xs ys → opens c ys ≡ opens c xs
  opens_same c xs ys p = opens_sum c ys ∙ sum_by-IsPermutation (is_open c) xs ys p ∙ sym (opens_sum c xs)

  opens_append : (c : ℕ) (xs ys : List Task) → opens c (xs ++ ys) ≡ opens c xs + opens c ys
  opens_append c [] ys = omega arith
  opens_append c (x ∷ xs) ys = omega (arith, opens_append c xs ys)

  one_at_most : (b : Bool) → (if b then 1 else 0) ≤ 1
  one_at_most true = omega arith
  one_at_most false = omega arith

  other_client : (d c : ℕ) (b : Bool) → d ≢ c → ◌≡◌ {A = ℕ} (if (d == c) && b then 1 else 0) 0
  other_client d c b n = by (d == c) refl
    where
      equal : (d == c) ≡ true → d ≡ c
      equal e = grind (arith, nat_tests)

      by : (t : Bool) → (d == c) ≡ t → ◌≡◌ {A = ℕ} (if t && b then 1 else 0) 0
      by true e = absurd (n (equal e))
      by false e = refl

  answered_client : (t : Bool) → ◌≡◌ {A = ℕ} (if t && false then 1 else 0) 0
  answered_client true = refl
  answered_client false = refl

  opens_alone : (c d j : ℕ) (b : Bool) (i : PlainIntent) → opens c (tasks_from d j (if b then i ∷ [] else []) []) ≤ 1
  opens_alone c d j true i = omega (arith, one_at_most (is_open_of c (record { client = d; index = j; intent = i; outcome = None })))
  opens_alone c d j false i = omega arith

  opens_from : (c d j : ℕ) (answered : List PlainIntent) (outcomes : List PlainOutcome) → AreAnswers plan h switch d answered outcomes → opens c (tasks_from d j (answered ++ open_intent plan d (at d)) outcomes) ≤ 1
  opens_from c d j [] [] all = opens_alone c d j (has_open (at d).phase) (intent_now plan d (at d))
  opens_from c d j [] (o ∷ os) all = absurd all
  opens_from c d j (i ∷ is) [] all = absurd all
  opens_from c d j (i ∷ is) (o ∷ os) all = omega (arith, opens_from c d (j + 1) is os all.1, answered_client (d == c))

  opens_other : (c d j : ℕ) (intents : List PlainIntent) (outcomes : List PlainOutcome) → d ≢ c → opens c (tasks_from d j intents outcomes) ≡ 0
  opens_other c d j [] outcomes n = refl
  opens_other c d j (i ∷ is) [] n = omega (arith, opens_other c d (j + 1) is [] n, other_client d c true n)
  opens_other c d j (i ∷ is) (o ∷ os) n = omega (arith, opens_other c d (j + 1) is os n, other_client d c false n)

  opens_later : (c : ℕ) (logs : List Records) (k : ℕ) → c < k → opens c (tasks_behind k (plain_logs logs)) ≡ 0
  opens_later c [] k lt = refl
  opens_later c (log ∷ logs) k lt = omega (arith, opens_append c (tasks_from k 0 log.intents log.outcomes) (tasks_behind (k + 1) (plain_logs logs)), opens_other c k 0 log.intents log.outcomes (λ e. omega (arith, e, lt)), opens_later c logs (k + 1) (omega (arith, lt)))

  opens_behind : (c : ℕ) (logs : List Records) (k : ℕ) → ((d : ℕ) → KnownLog plan at h switch (k + d) (get_or logs d no_records)) → opens c (tasks_behind k (plain_logs logs)) ≤ 1
  opens_behind c [] k known = omega arith
  opens_behind c (log ∷ logs) k known =
      let same : k + 0 ≡ k = omega arith in
      let here : KnownLog plan at h switch k log = subst (λ (d : ℕ). KnownLog plan at h switch d log) same (known 0) in
      let first : opens c (tasks_from k 0 log.intents log.outcomes) ≤ 1 = subst (λ (l : List PlainIntent). opens c (tasks_from k 0 l log.outcomes) ≤ 1) (sym here.intents) (opens_from c k 0 here.answered log.outcomes here.outcomes) in
      elim (same_or_other k c) [
        | inl e ↦ omega (arith, first, opens_append c (tasks_from k 0 log.intents log.outcomes) (tasks_behind (k + 1) (plain_logs logs)), opens_later c logs (k + 1) (omega (arith, e)))
        | inr n ↦ omega (arith, opens_other c k 0 log.intents log.outcomes n, opens_append c (tasks_from k 0 log.intents log.outcomes) (tasks_behind (k + 1) (plain_logs logs)), opens_behind c logs (k + 1) (log_of (log ∷ logs) k known))
      ]
    where
      same_or_other : (a b : ℕ) → (a ≡ b) ⊎ (a ≢ b)
      same_or_other a b = by (a == b) refl
        where
          equal : (a == b) ≡ true → a ≡ b
          equal e = grind (arith, nat_tests)

          apart : (a == b) ≡ false → a ≢ b
          apart e same = grind (arith, nat_tests)

          by : (t : Bool) → (a == b) ≡ t → (a ≡ b) ⊎ (a ≢ b)
          by true e = inl (equal e)
          by false e = inr (apart e)

  pub open_once : (c : ℕ) (logs : List Records) (order : List Task) → ((d : ℕ) → KnownLog plan at h switch d (get_or logs d no_records)) → IsPermutation (tasks_of (plain_logs logs)) order → opens c order ≤ 1
  open_once c logs order known p =
      omega (arith, opens_same c (tasks_of (plain_logs logs)) order p, opens_behind c logs 0 (λ d. let same : d ≡ 0 + d = omega arith in subst (λ (n : ℕ). KnownLog plan at h switch n (get_or logs d no_records)) same (known d)))

-- ---- places of open tasks

pub open_test : (c : ℕ) (t : Task) → t.client ≡ c → t.outcome ≡ None → is_open_of c t ≡ true
open_test c t client none = ap (λ (o : Option PlainOutcome). (t.client == c) && is_none o) none ∙ same (t.client) c client
  where
    same : (a b : ℕ) → a ≡ b → (a == b && true) ≡ true
    same a b e = grind (arith, nat_tests)

pub test_open : (c : ℕ) (t : Task) → is_open_of c t ≡ true → (t.client ≡ c) × (t.outcome ≡ None)
test_open c t e = (equal t.client c (left (t.client == c) (is_none t.outcome) e), none t.outcome (right (t.client == c) (is_none t.outcome) e))
  where
    left : (a b : Bool) → (a && b) ≡ true → a ≡ true
    left true b is = refl
    left false b is = cc

    right : (a b : Bool) → (a && b) ≡ true → b ≡ true
    right true b is = is
    right false b is = cc

    equal : (a b : ℕ) → (a == b) ≡ true → a ≡ b
    equal a b is = grind (arith, nat_tests)

    none : (o : Option PlainOutcome) → is_none o ≡ true → o ≡ None
    none None is = refl
    none (Some o) is = cc

none_counted : (c : ℕ) (tasks : List Task) (k : ℕ) (t : Task) → slice_get tasks k ≡ Some t → is_open_of c t ≡ true → 1 ≤ opens c tasks
none_counted c [] k t e is = cc
none_counted c (s ∷ tasks) zero t e is = let same : s ≡ t = cc in let test : is_open_of c s ≡ true = ap (is_open_of c) same ∙ is in omega (arith, ap {B = ℕ} (λ (b : Bool). if b then 1 else 0) test)
none_counted c (s ∷ tasks) (suc k) t e is = omega (arith, none_counted c tasks k t e is)

pub placed_open : (c : ℕ) (tasks : List Task) (i k : ℕ) (t : Task) → slice_get tasks k ≡ Some t → is_open_of c t ≡ true → opens c tasks ≤ 1 → position_from (is_open_of c) i tasks ≡ Some (i + k)
placed_open c [] i k t e is most = cc
placed_open c (s ∷ tasks) i zero t e is most =
    let same : s ≡ t = cc in
    let zero_more : i ≡ i + 0 = omega arith in
    ap (λ (b : Bool). cond b (Some i) (position_from (is_open_of c) (i + 1) tasks)) (ap (is_open_of c) same ∙ is) ∙ ap Some zero_more
placed_open c (s ∷ tasks) i (suc k) t e is most =
    let one_more : (i + 1) + k ≡ i + suc k = omega arith in
    by (is_open_of c s) refl (placed_open c tasks (i + 1) k t e is (omega (arith, most))) ∙ ap Some one_more
  where
    by : (b : Bool) → is_open_of c s ≡ b → position_from (is_open_of c) (i + 1) tasks ≡ Some ((i + 1) + k) → cond b (Some i) (position_from (is_open_of c) (i + 1) tasks) ≡ Some ((i + 1) + k)
    by true other rest = absurd (omega (arith, most, none_counted c tasks k t e is, ap {B = ℕ} (λ (b : Bool). if b then 1 else 0) other))
    by false other rest = rest

-- the task that a position names
pub record OpenAt (c : ℕ) (tasks : List Task) (k : ℕ) : Type 0 where
  pub task : Task
  pub there : slice_get tasks k ≡ Some task
  pub client : task.client ≡ c
  pub none : task.outcome ≡ None

some_place : {a b : ℕ} → Some a ≡ Some b → a ≡ b
some_place e = cc

pub open_at : (c : ℕ) (tasks : List Task) (i k : ℕ) → position_from (is_open_of c) i tasks ≡ Some k → (j : ℕ) × (k ≡ i + j) × OpenAt c tasks j
open_at c [] i k e = cc
open_at c (t ∷ tasks) i k e = by (is_open_of c t) refl e (open_at c tasks (i + 1) k)
  where
    by : (b : Bool) → is_open_of c t ≡ b → cond b (Some i) (position_from (is_open_of c) (i + 1) tasks) ≡ Some k → (position_from (is_open_of c) (i + 1) tasks ≡ Some k → (j : ℕ) × (k ≡ (i + 1) + j) × OpenAt c tasks j)
        → (j : ℕ) × (k ≡ i + j) × OpenAt c (t ∷ tasks) j
    by true test is rest = let o = test_open c t test in let here : i ≡ k = some_place is in (0, omega (arith, here), record { task = t; there = refl; client = o.0; none = o.1 })
    by false test is rest = let r = rest is in (suc r.0, omega (arith, r.1), record { task = r.2.task; there = r.2.there; client = r.2.client; none = r.2.none })

-- ---- tasks are told apart by client and item

in_from : (c j : ℕ) (intents : List PlainIntent) (outcomes : List PlainOutcome) (t : Task) → In t (tasks_from c j intents outcomes) → (t.client ≡ c) × In t.intent.packet.seq (seqs_in intents)
in_from c j [] outcomes t i = absurd i
in_from c j (a ∷ rest) [] t (inl e) = (ap (λ (x : Task). x.client) (sym e), inl (ap (λ (x : Task). x.intent.packet.seq) e))
in_from c j (a ∷ rest) [] t (inr i) = let r = in_from c (j + 1) rest [] t i in (r.0, inr r.1)
in_from c j (a ∷ rest) (o ∷ os) t (inl e) = (ap (λ (x : Task). x.client) (sym e), inl (ap (λ (x : Task). x.intent.packet.seq) e))
in_from c j (a ∷ rest) (o ∷ os) t (inr i) = let r = in_from c (j + 1) rest os t i in (r.0, inr r.1)

above_none : (l : List ℕ) (q : ℕ) → AllByRecursion (λ n. q < n) l → In q l → ⊥
above_none l q all i = itself (all_in (λ n. q < n) l q all i)
  where
    itself : q < q → ⊥
    itself lt = omega (arith, lt)

once_from : (c j : ℕ) (intents : List PlainIntent) (outcomes : List PlainOutcome) → IsAscending (seqs_in intents) → Once (tasks_from c j intents outcomes)
once_from c j [] outcomes up = tt
once_from c j (a ∷ rest) [] up = (λ i. above_none (seqs_in rest) a.packet.seq up.0 (in_from c (j + 1) rest [] (record { client = c; index = j; intent = a; outcome = None }) i).1, once_from c (j + 1) rest [] up.1)
once_from c j (a ∷ rest) (o ∷ os) up = (λ i. above_none (seqs_in rest) a.packet.seq up.0 (in_from c (j + 1) rest os (record { client = c; index = j; intent = a; outcome = Some o }) i).1, once_from c (j + 1) rest os up.1)

single_from : (c j : ℕ) (intents : List PlainIntent) (outcomes : List PlainOutcome) (s t : Task) → IsAscending (seqs_in intents) → In s (tasks_from c j intents outcomes) → In t (tasks_from c j intents outcomes) → s.intent.packet.seq ≡ t.intent.packet.seq → s ≡ t
single_from c j [] outcomes s t up a b same = absurd a
single_from c j (i ∷ rest) [] s t up (inl a) (inl b) same = sym a ∙ b
single_from c j (i ∷ rest) [] s t up (inl a) (inr b) same = absurd (above_none (seqs_in rest) i.packet.seq up.0 (subst (λ (q : ℕ). In q (seqs_in rest)) (sym same ∙ ap (λ (x : Task). x.intent.packet.seq) (sym a)) (in_from c (j + 1) rest [] t b).1))
single_from c j (i ∷ rest) [] s t up (inr a) (inl b) same = absurd (above_none (seqs_in rest) i.packet.seq up.0 (subst (λ (q : ℕ). In q (seqs_in rest)) (same ∙ ap (λ (x : Task). x.intent.packet.seq) (sym b)) (in_from c (j + 1) rest [] s a).1))
single_from c j (i ∷ rest) [] s t up (inr a) (inr b) same = single_from c (j + 1) rest [] s t up.1 a b same
single_from c j (i ∷ rest) (o ∷ os) s t up (inl a) (inl b) same = sym a ∙ b
single_from c j (i ∷ rest) (o ∷ os) s t up (inl a) (inr b) same = absurd (above_none (seqs_in rest) i.packet.seq up.0 (subst (λ (q : ℕ). In q (seqs_in rest)) (sym same ∙ ap (λ (x : Task). x.intent.packet.seq) (sym a)) (in_from c (j + 1) rest os t b).1))
single_from c j (i ∷ rest) (o ∷ os) s t up (inr a) (inl b) same = absurd (above_none (seqs_in rest) i.packet.seq up.0 (subst (λ (q : ℕ). In q (seqs_in rest)) (same ∙ ap (λ (x : Task). x.intent.packet.seq) (sym b)) (in_from c (j + 1) rest os s a).1))
single_from c j (i ∷ rest) (o ∷ os) s t up (inr a) (inr b) same = single_from c (j + 1) rest os s t up.1 a b same

abbrev pub AreAscending : List Records → Type 0
AreAscending logs = AllByRecursion (λ log. IsAscending (seqs_in log.intents)) logs

from_client : (k : ℕ) (logs : List Records) (t : Task) → In t (tasks_behind k (plain_logs logs)) → k ≤ t.client
from_client k [] t i = absurd i
from_client k (log ∷ logs) t i = elim (in_cases (tasks_from k 0 log.intents log.outcomes) (tasks_behind (k + 1) (plain_logs logs)) t i) [
  | inl a ↦ omega (arith, (in_from k 0 log.intents log.outcomes t a).0)
  | inr b ↦ omega (arith, from_client (k + 1) logs t b)
]

once_behind : (k : ℕ) (logs : List Records) → AreAscending logs → Once (tasks_behind k (plain_logs logs))
once_behind k [] up = tt
once_behind k (log ∷ logs) up =
    once_append (tasks_from k 0 log.intents log.outcomes) (tasks_behind (k + 1) (plain_logs logs)) (once_from k 0 log.intents log.outcomes up.0) (once_behind (k + 1) logs up.1)
    (λ t a b. omega (arith, (in_from k 0 log.intents log.outcomes t a).0, from_client (k + 1) logs t b))

single_behind : (k : ℕ) (logs : List Records) (s t : Task) → AreAscending logs → In s (tasks_behind k (plain_logs logs)) → In t (tasks_behind k (plain_logs logs)) → s.client ≡ t.client → s.intent.packet.seq ≡ t.intent.packet.seq → s ≡ t
single_behind k [] s t up a b client seq = absurd a
single_behind k (log ∷ logs) s t up a b client seq =
    let first = tasks_from k 0 log.intents log.outcomes in
    let later = tasks_behind (k + 1) (plain_logs logs) in
    elim (in_cases first later s a) [
      | inl x ↦ elim (in_cases first later t b) [
        | inl y ↦ single_from k 0 log.intents log.outcomes s t up.0 x y seq
        | inr y ↦ absurd (omega (arith, (in_from k 0 log.intents log.outcomes s x).0, from_client (k + 1) logs t y, client))
      ]
      | inr x ↦ elim (in_cases first later t b) [
        | inl y ↦ absurd (omega (arith, (in_from k 0 log.intents log.outcomes t y).0, from_client (k + 1) logs s x, client))
        | inr y ↦ single_behind (k + 1) logs s t up.1 x y client seq
      ]
    ]

pub tasks_once : (logs : List Records) → AreAscending logs → Once (tasks_of (plain_logs logs))
tasks_once logs up = once_behind 0 logs up

pub tasks_single : (logs : List Records) (s t : Task) → AreAscending logs → In s (tasks_of (plain_logs logs)) → In t (tasks_of (plain_logs logs)) → s.client ≡ t.client → s.intent.packet.seq ≡ t.intent.packet.seq → s ≡ t
tasks_single logs s t up a b client seq = single_behind 0 logs s t up a b client seq

pub all_ascending : (logs : List Records) → ((c : ℕ) → IsAscending (seqs_in (get_or logs c no_records).intents)) → AreAscending logs
all_ascending [] each = tt
all_ascending (log ∷ logs) each = (each 0, all_ascending logs (λ c. each (suc c)))
