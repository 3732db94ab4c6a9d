-- The first order is the first placement.
use Rattle.std.proofs.Common.{◌≡◌, ◌≢◌, ◌⊎◌, ℕ, zero, suc, ◌+◌, ◌-◌, ◌<◌, ◌≤◌, ◌==◌, ◌&&◌, Bool, true, false, List, [], ◌∷◌, ◌++◌, map, filter, replicate, length, slice_get, Option, None, Some, is_none, if◌then◌else◌, inl, inr, refl, sym, ap, ap₂, subst, ◌∙◌, arith}
use Rattle.std.specs.Prelude.{IsPermutation}
use Rattle.std.specs.List.{AllByRecursion, Contains}
use Rattle.std.specs.Option.{option_and_then}
use Rattle.std.proofs.lemmas.Bool.{cases_lt}
use Rattle.std.proofs.lemmas.List.{get_or-replicate, get_or_past, length-replicate}
use Rattle.std.proofs.lemmas.List.Elements.{filter-append}
use Rattle.std.proofs.lemmas.List.Sorted.{IsPermutation-sym, IsPermutation-trans, Contains-permutation, length_permutation}
use Rattle.std.proofs.lemmas.Option.{slice_get-get_or, slice_get_within, get_or_from_slice_get}
use Rattle.txn_model.specs.Places.{Places}
use Rattle.switch_packet.specs.Packets.{PlainIntent, PlainOutcome, PlainLog}
use Rattle.switch_packet.specs.Replay.{replay}
use Rattle.placement_model.specs.FirstOrder.{slot_at, slots_of, open_ones, fill, first_order}
use Rattle.placement_model.specs.Laws.{AreAnsweredButOne, FirstOrderIsFirst, NoOrderIsNoPlacement}
use Rattle.placement_model.specs.Placements.{Task, tasks_from, tasks_behind, tasks_of, HasAnswer, CanFollow, free_clients, NotAfter, IsPlacement, IsFirstPlacement}
use Rattle.placement_model.proofs.Building.{open_of, somes-all, somes-none, AreSlots, slots_are, IsPlaced, can_put}
use Rattle.placement_model.proofs.Counting.{somes, is_task, times, times_same, times_append, counts_itself, fills_all, fills_of, AreNumbered, AreKnown}
use Rattle.placement_model.proofs.Filling.{AreOpen, Fills, fill_finds, fill_finds_by}

-- counts of one task
not_both : (a b : Bool) → (a ≡ false) ⊎ (b ≡ false) → (a && b) ≡ false
not_both true b (inl e) = cc
not_both false b h = refl
not_both true b (inr e) = e

not_equal : (a b : ℕ) → a ≢ b → (a == b) ≡ false
not_equal a b n = grind arith

not_counted : (client k : ℕ) (t : Task) → (t.client ≢ client) ⊎ (t.index ≢ k) → is_task client k t ≡ 0
not_counted client k t h =
    ap {B = ℕ} (λ (b : Bool). if b then 1 else 0) (not_both (t.client == client) (t.index == k) (elim h [ inl n ↦ inl (not_equal t.client client n) | inr n ↦ inr (not_equal t.index k n) ]))

at_most_once : (client k : ℕ) (t : Task) → is_task client k t ≤ 1
at_most_once client k t = by (t.client == client && t.index == k)
  where
    by : (b : Bool) → ◌≤◌ (if b then 1 else 0) 1
    by true = omega arith
    by false = omega arith

same_or_not : (a b : ℕ) → (a ≡ b) ⊎ (a ≢ b)
same_or_not a b = elim (cases_lt a b) [ inl lt ↦ inr (λ e. omega arith) | inr le ↦ elim (cases_lt b a) [ inl lt ↦ inr (λ e. omega arith) | inr ge ↦ inl (omega arith) ] ]

-- the tasks of a client's log: places rise, and all are the client's
before : (c k client i : ℕ) (ins : List PlainIntent) (outs : List PlainOutcome) → k < i → times c k (tasks_from client i ins outs) ≡ 0
before c k client i [] outs lt = refl
before c k client i (intent ∷ ins) [] lt = omega (arith, not_counted c k (record { client = client; index = i; intent = intent; outcome = None }) (inr (λ e. omega arith)), before c k client (i + 1) ins [] (omega arith))
before c k client i (intent ∷ ins) (o ∷ outs) lt = omega (arith, not_counted c k (record { client = client; index = i; intent = intent; outcome = Some o }) (inr (λ e. omega arith)), before c k client (i + 1) ins outs (omega arith))

of_another : (c k client i : ℕ) (ins : List PlainIntent) (outs : List PlainOutcome) → client ≢ c → times c k (tasks_from client i ins outs) ≡ 0
of_another c k client i [] outs n = refl
of_another c k client i (intent ∷ ins) [] n = omega (arith, not_counted c k (record { client = client; index = i; intent = intent; outcome = None }) (inl n), of_another c k client (i + 1) ins [] n)
of_another c k client i (intent ∷ ins) (o ∷ outs) n = omega (arith, not_counted c k (record { client = client; index = i; intent = intent; outcome = Some o }) (inl n), of_another c k client (i + 1) ins outs n)

one_more : (c k : ℕ) (t : Task) (tasks : List Task) (i : ℕ) → t.index ≡ i → (k < i + 1 → times c k tasks ≡ 0) → times c k tasks ≤ 1 → times c k (t ∷ tasks) ≤ 1
one_more c k t tasks i at none few = elim (same_or_not i k) [
  | inl e ↦ omega (arith, at_most_once c k t, none (omega (arith, e)))
  | inr n ↦ omega (arith, not_counted c k t (inr (λ e. n (sym at ∙ e))), few)
]

once_from : (c k client i : ℕ) (ins : List PlainIntent) (outs : List PlainOutcome) → times c k (tasks_from client i ins outs) ≤ 1
once_from c k client i [] outs = omega arith
once_from c k client i (intent ∷ ins) [] = one_more c k (record { client = client; index = i; intent = intent; outcome = None }) (tasks_from client (i + 1) ins []) i refl (before c k client (i + 1) ins []) (once_from c k client (i + 1) ins [])
once_from c k client i (intent ∷ ins) (o ∷ outs) = one_more c k (record { client = client; index = i; intent = intent; outcome = Some o }) (tasks_from client (i + 1) ins outs) i refl (before c k client (i + 1) ins outs) (once_from c k client (i + 1) ins outs)

lower_client : (c k client : ℕ) (logs : List PlainLog) → c < client → times c k (tasks_behind client logs) ≡ 0
lower_client c k client [] lt = refl
lower_client c k client (log ∷ logs) lt =
    omega (arith, times_append c k (tasks_from client 0 log.intents log.outcomes) (tasks_behind (client + 1) logs), of_another c k client 0 log.intents log.outcomes (λ e. omega arith), lower_client c k (client + 1) logs (omega arith))

once_behind : (c k client : ℕ) (logs : List PlainLog) → times c k (tasks_behind client logs) ≤ 1
once_behind c k client [] = omega arith
once_behind c k client (log ∷ logs) =
    let all = times_append c k (tasks_from client 0 log.intents log.outcomes) (tasks_behind (client + 1) logs) in
    elim (same_or_not client c) [
      | inl e ↦ omega (arith, all, once_from c k client 0 log.intents log.outcomes, lower_client c k (client + 1) logs (omega (arith, e)))
      | inr n ↦ omega (arith, all, of_another c k client 0 log.intents log.outcomes n, once_behind c k (client + 1) logs)
    ]

-- a task of a list by its place
abbrev IsOf : List Task → Task → Type 0
IsOf tasks t = (i : ℕ) × (slice_get tasks i ≡ Some t)

counted_at : (tasks : List Task) (i : ℕ) (t : Task) → slice_get tasks i ≡ Some t → 1 ≤ times t.client t.index tasks
counted_at [] i t e = cc
counted_at (s ∷ tasks) zero t e = let same : s ≡ t = cc in omega (arith, ap (is_task t.client t.index) same, counts_itself t)
counted_at (s ∷ tasks) (suc i) t e = omega (arith, counted_at tasks i t e)

counts_like : (s t : Task) → s.client ≡ t.client → s.index ≡ t.index → is_task t.client t.index s ≡ 1
counts_like s t e f = ap₂ (λ (c k : ℕ). is_task c k s) (sym e) (sym f) ∙ counts_itself s

single_at : (tasks : List Task) (i j : ℕ) (s t : Task) → ((c k : ℕ) → times c k tasks ≤ 1) → slice_get tasks i ≡ Some s → slice_get tasks j ≡ Some t → s.client ≡ t.client → s.index ≡ t.index → s ≡ t
single_at [] i j s t few a b e f = cc
single_at (x ∷ tasks) zero zero s t few a b e f = cc
single_at (x ∷ tasks) zero (suc j) s t few a b e f =
    absurd (let same : x ≡ s = cc in omega (arith, few t.client t.index, ap (is_task t.client t.index) same, counts_like s t e f, counted_at tasks j t b))
single_at (x ∷ tasks) (suc i) zero s t few a b e f =
    absurd (let same : x ≡ t = cc in omega (arith, few s.client s.index, ap (is_task s.client s.index) same, counts_like t s (sym e) (sym f), counted_at tasks i s a))
single_at (x ∷ tasks) (suc i) (suc j) s t few a b e f = single_at tasks i j s t (λ c k. omega (arith, few c k)) a b e f

all_of : (P : Task → Type 0) (tasks : List Task) → ((i : ℕ) (t : Task) → slice_get tasks i ≡ Some t → P t) → AllByRecursion P tasks
all_of P [] each = tt
all_of P (t ∷ tasks) each = (each 0 t refl, all_of P tasks (λ i x e. each (suc i) x e))

-- the tasks that stand open, one a client
abbrev Rising : ℕ → List Task → Type 0
Rising c [] = Unit {0}
Rising c (t ∷ tasks) = (c ≤ t.client) × Rising (t.client + 1) tasks

rising_from : (a b : ℕ) (tasks : List Task) → a ≤ b → Rising b tasks → Rising a tasks
rising_from a b [] le h = tt
rising_from a b (t ∷ tasks) le h = (omega (arith, le, h.0), h.1)

none_left : (client i : ℕ) (ins : List PlainIntent) (outs : List PlainOutcome) → length ins ≡ length outs → open_of (tasks_from client i ins outs) ≡ []
none_left client i [] outs e = refl
none_left client i (intent ∷ ins) [] e = absurd (omega (arith, e))
none_left client i (intent ∷ ins) (o ∷ outs) e = none_left client (i + 1) ins outs (omega (arith, e))

-- none, or one of the client
abbrev OneAtMost : ℕ → List Task → Type 0
OneAtMost client tasks = (tasks ≡ []) ⊎ ((t : Task) × (t.client ≡ client) × (tasks ≡ t ∷ []))

one_left : (client i : ℕ) (ins : List PlainIntent) (outs : List PlainOutcome) → length outs ≤ length ins → length ins ≤ length outs + 1 → OneAtMost client (open_of (tasks_from client i ins outs))
one_left client i [] outs most least = inl refl
one_left client i (intent ∷ []) [] most least = inr (record { client = client; index = i; intent = intent; outcome = None }, refl, refl)
one_left client i (intent ∷ more ∷ ins) [] most least = absurd (omega (arith, least))
one_left client i (intent ∷ ins) (o ∷ outs) most least = one_left client (i + 1) ins outs (omega (arith, most)) (omega (arith, least))

rising_behind : (client : ℕ) (logs : List PlainLog) → AreAnsweredButOne logs → Rising client (open_of (tasks_behind client logs))
rising_behind client [] h = tt
rising_behind client (log ∷ logs) h =
    let front = tasks_from client 0 log.intents log.outcomes in
    let later = tasks_behind (client + 1) logs in
    let rest = rising_behind (client + 1) logs h.1 in
    let whole : open_of (front ++ later) ≡ open_of front ++ open_of later = filter-append (λ (task : Task). is_none task.outcome) front later in
    subst (Rising client) (sym whole) (elim (one_left client 0 log.intents log.outcomes h.0.most h.0.least) [
      | inl e ↦ subst (λ (l : List Task). Rising client (l ++ open_of later)) (sym e) (rising_from client (client + 1) (open_of later) (omega arith) rest)
      | inr one ↦ subst (λ (l : List Task). Rising client (l ++ open_of later)) (sym one.2) (omega (arith, one.1), subst (λ (c : ℕ). Rising (c + 1) (open_of later)) (sym one.1) rest)
    ])

slot_of : (tasks : List Task) (i : ℕ) → slot_at (map (λ task. Some task) tasks) i ≡ slice_get tasks i
slot_of [] i = refl
slot_of (t ∷ tasks) zero = refl
slot_of (t ∷ tasks) (suc i) = slot_of tasks i

rising_above : (c : ℕ) (tasks : List Task) (j : ℕ) (t : Task) → Rising c tasks → slice_get tasks j ≡ Some t → c ≤ t.client
rising_above c [] j t h e = cc
rising_above c (s ∷ tasks) zero t h e = let same : s ≡ t = cc in omega (arith, h.0, ap (λ (x : Task). x.client) same)
rising_above c (s ∷ tasks) (suc j) t h e = omega (arith, h.0, rising_above (s.client + 1) tasks j t h.1 e)

rising_at : (c : ℕ) (tasks : List Task) (i j : ℕ) (s t : Task) → Rising c tasks → i < j → slice_get tasks i ≡ Some s → slice_get tasks j ≡ Some t → s.client < t.client
rising_at c [] i j s t h lt a b = cc
rising_at c (x ∷ tasks) i zero s t h lt a b = absurd (omega (arith, lt))
rising_at c (x ∷ tasks) zero (suc j) s t h lt a b = let same : x ≡ s = cc in omega (arith, ap (λ (y : Task). y.client) same, rising_above (x.client + 1) tasks j t h.1 b)
rising_at c (x ∷ tasks) (suc i) (suc j) s t h lt a b = rising_at (x.client + 1) tasks i j s t h.1 (omega (arith, lt)) a b

-- one of those that pass
abbrev Passes : (Task → Bool) → List Task → Task → Type 0
Passes p tasks t = (j : ℕ) × (slice_get tasks j ≡ Some t) × (p t ≡ true)

passing : (p : Task → Bool) (tasks : List Task) (i : ℕ) (t : Task) → slice_get (filter p tasks) i ≡ Some t → Passes p tasks t
passing p [] i t e = cc
passing p (x ∷ tasks) i t e = by (p x) refl i e (λ j f. passing p tasks j t f)
  where
    by : (b : Bool) → p x ≡ b → (j : ℕ) → slice_get (if b then x ∷ filter p tasks else filter p tasks) j ≡ Some t → ((j : ℕ) → slice_get (filter p tasks) j ≡ Some t → Passes p tasks t) → Passes p (x ∷ tasks) t
    by true is zero f rest = let same : x ≡ t = cc in (0, f, ap p (sym same) ∙ is)
    by true is (suc j) f rest = let later = rest j f in (suc later.0, later.1, later.2)
    by false is j f rest = let later = rest j f in (suc later.0, later.1, later.2)

none_is : {X : Type 0} (o : Option X) → is_none o ≡ true → o ≡ None
none_is None e = refl
none_is (Some x) e = cc

-- a task with a number stands there
at_number : (number : ℕ) (m : Places) (order : List Task) (j : ℕ) (t : Task) (o : PlainOutcome) → CanFollow number m order → slice_get order j ≡ Some t → t.outcome ≡ Some o → o.number ≡ number + j
at_number number m [] j t o can e is = cc
at_number number m (s ∷ order) zero t o can e is =
    let same : s ≡ t = cc in
    let has = subst (λ (x : Option PlainOutcome). HasAnswer x number (replay s.intent.packet m).pairs) (ap (λ (x : Task). x.outcome) same ∙ is) can.0.answer in
    omega (arith, has.0)
at_number number m (s ∷ order) (suc j) t o can e is = omega (arith, at_number (number + 1) (replay s.intent.packet m).after order j t o can.1 e is)

module _ (logs : List PlainLog) (first : Places) (but_one : AreAnsweredButOne logs) where
  abbrev tasks : List Task
  tasks = tasks_of logs

  abbrev standing : List (Option Task)
  standing = open_ones tasks

  abbrev Known : Task → Type 0
  Known t = IsOf tasks t

  single : (s t : Task) → Known s → Known t → s.client ≡ t.client → s.index ≡ t.index → s ≡ t
  single s t a b e f = single_at tasks a.0 b.0 s t (λ c k. once_behind c k 0 logs) a.1 b.1 e f

  stand : AreOpen standing
  stand = record {
    free = λ k t e. none_is t.outcome (passing (λ (task : Task). is_none task.outcome) tasks k t (sym (slot_of (open_of tasks) k) ∙ e)).2;
    rising = λ j k s t lt e f. rising_at 0 (open_of tasks) j k s t (rising_behind 0 logs but_one) lt (sym (slot_of (open_of tasks) j) ∙ e) (sym (slot_of (open_of tasks) k) ∙ f);
  }

  known_open : AreKnown Known standing
  known_open k t e = let at = passing (λ (task : Task). is_none task.outcome) tasks k t (sym (slot_of (open_of tasks) k) ∙ e) in (at.0, at.1)

  abbrev empty : List (Option Task)
  empty = replicate (length tasks) None

  nothing_there : (i : ℕ) (t : Task) → slot_at empty i ≡ Some t → ⊥
  nothing_there i t e = elim (cases_lt i (length tasks)) [
    | inl lt ↦ (let clash : None ≡ Some t = sym (get_or-replicate (length tasks) i None None lt) ∙ e in cc)
    | inr le ↦ (let clash : None ≡ Some t = sym (get_or_past empty i None (omega (arith, le, length-replicate {A = Option Task} (length tasks) None))) ∙ e in cc)
  ]

  no_numbers : AreNumbered 1 empty
  no_numbers i t e = absurd (nothing_there i t e)

  slots_known : (slots : List (Option Task)) → slots_of tasks ≡ Some slots → AreSlots Known tasks empty slots
  slots_known slots e = slots_are Known tasks empty slots (all_of Known tasks (λ i t at. (i, at))) no_numbers (λ i t at. absurd (nothing_there i t at)) e

  -- all tasks are those of the slots and the open ones
  parted : (slots : List (Option Task)) → AreSlots Known tasks empty slots → IsPermutation tasks (somes slots ++ somes standing)
  parted slots h = subst (λ (l : List Task). IsPermutation tasks (somes slots ++ l)) (sym (somes-all (open_of tasks))) (subst (λ (l : List Task). IsPermutation (l ++ tasks) (somes slots ++ open_of tasks)) (somes-none (length tasks)) h.all)

  in_tasks : (order : List Task) → IsPermutation tasks order → (i : ℕ) (t : Task) → slice_get order i ≡ Some t → Known t
  in_tasks order p i t e =
      let has : Contains tasks t = Contains-permutation order tasks t (IsPermutation-sym tasks order p) (i, slice_get_within order i t e, get_or_from_slice_get order i t t e) in
      (has.0, slice_get-get_or tasks has.0 t has.1 ∙ ap (λ (x : Task). Some x) has.2)

  in_order : (order : List Task) → IsPermutation tasks order → (i : ℕ) (t : Task) → slice_get tasks i ≡ Some t → IsOf order t
  in_order order p i t e =
      let has : Contains order t = Contains-permutation tasks order t p (i, slice_get_within tasks i t e, get_or_from_slice_get tasks i t t e) in
      (has.0, slice_get-get_or order has.0 t has.1 ∙ ap (λ (x : Task). Some x) has.2)

  -- a placement fills the slots
  fills : (slots : List (Option Task)) (order : List Task) → AreSlots Known tasks empty slots → IsPlacement logs first order → Fills slots standing order
  fills slots order h placement =
      fills_of Known single slots 1 first standing order h.numbered h.known known_open (all_of Known order (in_tasks order placement.all))
      (omega (arith, length_permutation tasks order placement.all, h.size, length-replicate {A = Option Task} (length tasks) None))
      (λ client k. times_same client k tasks order placement.all ∙ sym (times_same client k tasks (somes slots ++ somes standing) (parted slots h)) ∙ times_append client k (somes slots) (somes standing))
      placement.follows

  placed : (order : List Task) → IsPlacement logs first order → AllByRecursion (IsPlaced order) tasks
  placed order placement = all_of (IsPlaced order) tasks (λ i t e o has.
      let at = in_order order placement.all i t e in
      let number = at_number 1 first order at.0 t o placement.follows at.1 has in
      let within = slice_get_within order at.0 t at.1 in
      let same : o.number - 1 ≡ at.0 = omega (arith, number) in
      (omega (arith, number), omega (arith, number, within), ap (slice_get order) same ∙ at.1))

  numbers_exist : (order : List Task) → IsPlacement logs first order → slots_of tasks ≡ None → ⊥
  numbers_exist order placement none =
      can_put order tasks empty (omega (arith, length_permutation tasks order placement.all, length-replicate {A = Option Task} (length tasks) None)) (placed order placement) no_numbers (λ i t at. absurd (nothing_there i t at))
      (λ client k. omega (arith, once_behind client k 0 logs, ap (times client k) (somes-none (length tasks)))) none

  pub is_first : (order : List Task) → first_order logs first ≡ Some order → IsFirstPlacement logs first order
  is_first order e = by (slots_of tasks) refl e
    where
      by : (o : Option (List (Option Task))) → slots_of tasks ≡ o → option_and_then (λ slots. fill 1 first slots standing) o ≡ Some order → IsFirstPlacement logs first order
      by None is h = cc
      by (Some slots) is h =
          let are = slots_known slots is in
          let found = fill_finds slots 1 first standing order h in
          record {
            placement = record { all = IsPermutation-trans tasks (somes slots ++ somes standing) order (parted slots are) (fills_all slots standing order found.0); follows = found.1 };
            least = λ other placement.
                let by_other = fill_finds_by slots 1 first standing other stand (fills slots other are placement) placement.follows in
                let same : Some by_other.order ≡ Some order = sym by_other.found ∙ h in
                let one : by_other.order ≡ order = cc in
                subst (λ (l : List Task). NotAfter (free_clients l) (free_clients other)) one by_other.least;
          }

  pub none_is_none : (order : List Task) → first_order logs first ≡ None → IsPlacement logs first order → ⊥
  none_is_none order e placement = by (slots_of tasks) refl e
    where
      by : (o : Option (List (Option Task))) → slots_of tasks ≡ o → option_and_then (λ slots. fill 1 first slots standing) o ≡ None → ⊥
      by None is h = numbers_exist order placement is
      by (Some slots) is h =
          let found = fill_finds_by slots 1 first standing order stand (fills slots order (slots_known slots is) placement) placement.follows in
          let clash : Some found.order ≡ None = sym found.found ∙ h in
          cc

pub first_order_is_first : FirstOrderIsFirst
first_order_is_first logs first order but_one e = is_first logs first but_one order e

pub no_order_is_no_placement : NoOrderIsNoPlacement
no_order_is_no_placement logs first order but_one e placement = none_is_none logs first but_one order e placement
