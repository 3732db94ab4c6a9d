-- The order in which packets have entered the switch, and behind them those that wait to, is a placement of the clients' logs.
use Rattle.std.proofs.Common.{◌≡◌, ℕ, suc, ◌+◌, ◌<◌, ◌≤◌, ◌&&◌, not, Bool, true, false, List, [], ◌∷◌, ◌++◌, filter, length, length-append, get_or, slice_get, Option, Some, None, is_none, IsSome, inl, inr, refl, sym, ap, subst, ◌∙◌, arith, if◌then◌else◌, is_lt}
use Rattle.std.specs.Prelude.{IsPermutation}
use Rattle.std.specs.List.{AllByRecursion}
use Rattle.std.proofs.lemmas.List.Sorted.{length_permutation}
use Rattle.txn_model.specs.Places.{Places}
use Rattle.txn_model.specs.declared.pairs.Pair.{Pair}
use Rattle.txn_model.specs.declared.stamp.Seen.{Seen}
use Rattle.txn_model.specs.declared.stamp.Stamp.{Stamp}
use Rattle.host_store.specs.Store.{Store}
use Rattle.history_model.specs.History.{HistoryEntry, History, greater, stamp_cmp}
use Rattle.placement_model.specs.Placements.{Task, HasAnswer, CanHave, CanFollow, IsPlacement, tasks_of}
use Rattle.switch_packet.specs.Packets.{PlainPacket, PlainIntent, PlainOutcome}
use Rattle.switch_packet.specs.Replay.{replay, replay_all}
use Rattle.switch_model.specs.Switch.{Switch, Desk, Vacant, Posted, Entered, entered}
use Rattle.warm_split.specs.Resolved.{packet_of, packet_from}
use Rattle.catalogue.specs.Plan.{Plan, script_at, hot_cells}
use Rattle.core_model.specs.Decision.{greatest}
use Rattle.core_model.specs.Facts.{Clients}
use Rattle.core_model.specs.State.{ClientState}
use Rattle.fabric_model.specs.Carried.{is_carried, carried, IsCarriedBy, AreCarriedBy, FitsDesk, pending_entry}
use Rattle.fabric_model.specs.Holds.{Ties}
use Rattle.fabric_model.specs.Intents.{values_of, packet_now, intent_now}
use Rattle.fabric_model.specs.Recorded.{has_open, IsAnswer, IsTold}
use Rattle.fabric_model.specs.Recovery.{plain_logs}
use Rattle.fabric_model.specs.State.{Records, no_records}
use Rattle.fabric_model.proofs.Among.{In, in_at, in_contains, in_left, in_right, in_cases, all_in, in_filter, filter_in, Once, once_append, once_filter, permutation_of}
use Rattle.fabric_model.proofs.Tasks.{KnownLog, TaskFits, FitsBy, all_fit, outcome_task, open_task, tasks_once, tasks_single, all_ascending, AreAscending}

from_some : {T : Type 0} {a b : T} → Some a ≡ Some b → a ≡ b
from_some e = cc

entered_same : {a b : ℕ} → Entered a ≡ Entered b → a ≡ b
entered_same e = cc

-- the greatest of stamps has the number of one of them
pub greatest_low : (most : ℕ) (last : Stamp) (noted : List Seen) → last.number ≤ most → AllByRecursion (λ seen. seen.stamp.number ≤ most) noted → (greatest last noted).number ≤ most
greatest_low most last [] low all = low
greatest_low most last (seen ∷ noted) low all = greatest_low most (greater last seen.stamp) noted (by (is_lt (stamp_cmp last seen.stamp))) all.1
  where
    by : (b : Bool) → (if b then seen.stamp else last).number ≤ most
    by true = all.0
    by false = low

most_of_below : (k : ℕ) (l : List Seen) → AllByRecursion (λ seen. seen.stamp.number < k + 1) l → AllByRecursion (λ seen. seen.stamp.number ≤ k) l
most_of_below k [] all = tt
most_of_below k (seen ∷ l) all = (omega (arith, all.0), most_of_below k l all.1)

seq_of_packet : (plan : Plan) (c : ℕ) (x : ClientState) → (packet_now plan c x).seq ≡ x.seq
unfolding packet_from
seq_of_packet plan c x = refl

abbrev is_entered : Desk → Bool
is_entered Vacant = false
is_entered (Posted p) = false
is_entered (Entered k) = true

-- tasks that stand open can have any numbers that are high enough
follow_open : (number : ℕ) (m : Places) (tasks : List Task) → AllByRecursion (λ t. (t.outcome ≡ None) × (t.intent.floor < number)) tasks → CanFollow number m tasks
follow_open number m [] all = tt
follow_open number m (t ∷ tasks) all = (
  record { above = all.0.1; answer = subst (λ (o : Option PlainOutcome). HasAnswer o number (replay t.intent.packet m).pairs) (sym all.0.0) tt },
  follow_open (number + 1) (replay t.intent.packet m).after tasks (each tasks all.1),
)
  where
    each : (l : List Task) → AllByRecursion (λ s. (s.outcome ≡ None) × (s.intent.floor < number)) l → AllByRecursion (λ s. (s.outcome ≡ None) × (s.intent.floor < number + 1)) l
    each [] a = tt
    each (s ∷ l) a = ((a.0.0, omega (arith, a.0.1)), each l a.1)

pub follow_append : (number : ℕ) (m : Places) (a b : List Task) → CanFollow number m a → ((n : Places) → CanFollow (number + length a) n b) → CanFollow number m (a ++ b)
follow_append number m [] b can rest = let same : number + 0 ≡ number = omega arith in subst (λ (k : ℕ). CanFollow k m b) same (rest m)
follow_append number m (t ∷ a) b can rest =
    let next : number + suc (length a) ≡ (number + 1) + length a = omega arith in
    (can.0, follow_append (number + 1) (replay t.intent.packet m).after a b can.1 (λ n. subst (λ (k : ℕ). CanFollow k n b) next (rest n)))

carried_in : (l : History) (f : HistoryEntry) → In f (carried l) → In f l × (is_carried f ≡ true)
carried_in l f i = in_filter is_carried l f i

all_filter : (P : Task → Type 0) (test : Task → Bool) (l : List Task) → ((t : Task) → In t l → test t ≡ true → P t) → AllByRecursion P (filter test l)
all_filter P test [] f = tt
all_filter P test (t ∷ l) f = by (test t) refl (all_filter P test l (λ s i is. f s (inr i) is))
  where
    by : (b : Bool) → test t ≡ b → AllByRecursion P (filter test l) → AllByRecursion P (if b then t ∷ filter test l else filter test l)
    by true is rest = (f t (inl refl) is, rest)
    by false is rest = rest

module _ (plan : Plan) (at : Clients) (store : Store) (h : History) (desks : ℕ → Desk) (now : Switch) (ties : Ties plan at store h desks (entered now)) (logs : List Records)
    (known : (c : ℕ) → KnownLog plan at h (Some now) c (get_or logs c no_records)) (within : (c : ℕ) → has_open (at c).phase ≡ true → c < length logs) where
  abbrev packets : List PlainPacket
  packets = entered now

  abbrev cells : Places
  cells = hot_cells plan

  abbrev tasks : List Task
  tasks = tasks_of (plain_logs logs)

  fits_in : (t : Task) → In t tasks → TaskFits plan at h (Some now) t
  fits_in t i = all_in (TaskFits plan at h (Some now)) tasks t (all_fit plan at h (Some now) logs known) i

  ascending : AreAscending logs
  ascending = all_ascending logs (λ c. (known c).ascending)

  open_fits : (t : Task) → t.outcome ≡ None → TaskFits plan at h (Some now) t → (has_open (at t.client).phase ≡ true) × (t.intent ≡ intent_now plan t.client (at t.client))
  open_fits t none fits = subst (FitsBy plan at h (Some now) t.client t.intent) none fits

  answer_fits : (t : Task) (o : PlainOutcome) → t.outcome ≡ Some o → TaskFits plan at h (Some now) t → IsAnswer plan h (Some now) t.client t.intent o
  answer_fits t o some fits = subst (FitsBy plan at h (Some now) t.client t.intent) some fits

  -- ---- the tasks of what has entered

  abbrev Key : Option PlainOutcome → ℕ → ℕ → Type 0
  Key None c k = desks c ≡ Entered k
  Key (Some o) c k = o.number ≡ k + 1

  record IsFor (k : ℕ) (e : HistoryEntry) (t : Task) : Type 0 where
    pub there : In t tasks
    pub client : t.client ≡ e.entry.client
    pub seq : t.intent.packet.seq ≡ e.entry.seq
    pub key : Key t.outcome t.client k

  abbrev AreFor : ℕ → History → List Task → Type 0
  AreFor k [] [] = Unit {0}
  AreFor k [] (t ∷ ts) = ⊥
  AreFor k (e ∷ es) [] = ⊥
  AreFor k (e ∷ es) (t ∷ ts) = IsFor k e t × AreFor (k + 1) es ts

  record One (k : ℕ) (m : Places) (e : HistoryEntry) (p : PlainPacket) : Type 0 where
    pub task : Task
    pub is : IsFor k e task
    pub packet : task.intent.packet ≡ p
    pub can : CanHave task (k + 1) (replay p m).pairs

  one_answered : (k : ℕ) (m : Places) (e : HistoryEntry) (p : PlainPacket) → IsCarriedBy plan at desks k m e p → slice_get packets k ≡ Some p → slice_get (replay_all packets cells).pairs k ≡ Some (replay p m).pairs
      → In e h → is_carried e ≡ true → IsSome e.pairs → One k m e p
  one_answered k m e p by here replayed i carries some =
      let c = e.entry.client in
      let told = all_in (IsTold c (get_or logs c no_records).outcomes) h e (known c).told i refl carries some in
      let o = told.1 in
      let has = outcome_task plan at h (Some now) logs c told.0 o (known c) told.2 in
      let a = answer_fits has.task o has.outcome (fits_in has.task has.there) in
      let number : o.number ≡ k + 1 = told.3 ∙ ap (λ (s : Stamp). s.number) by.stamp in
      let place : a.place ≡ k = omega (arith, a.number, number) in
      let there = a.there now refl in
      let packet : has.task.intent.packet ≡ p = from_some (sym there.0 ∙ ap (slice_get packets) place ∙ here) in
      let pairs : o.pairs ≡ (replay p m).pairs = from_some (sym there.1 ∙ ap (slice_get (replay_all packets cells).pairs) place ∙ replayed) in
      record {
        task = has.task;
        is = record { there = has.there; client = has.client; seq = a.seq ∙ told.4; key = subst (λ (q : Option PlainOutcome). Key q has.task.client k) (sym has.outcome) number };
        packet = packet;
        can = record {
          above = subst (λ (n : ℕ). has.task.intent.floor < n) number a.above;
          answer = subst (λ (q : Option PlainOutcome). HasAnswer q (k + 1) (replay p m).pairs) (sym has.outcome) (number, pairs);
        };
      }

  one_open : (k : ℕ) (m : Places) (e : HistoryEntry) (p : PlainPacket) → IsCarriedBy plan at desks k m e p → e.pairs ≡ None → One k m e p
  one_open k m e p by none =
      let c = e.entry.client in
      let x = at c in
      let wait = by.pending none in
      let opens : has_open x.phase ≡ true = ap has_open wait.phase in
      let has = open_task plan at h (Some now) logs c (within c opens) (known c) opens in
      let fits = subst (λ (d : ℕ). (has_open (at d).phase ≡ true) × (has.task.intent ≡ intent_now plan d (at d))) has.client (open_fits has.task has.outcome (fits_in has.task has.there)) in
      let packet : has.task.intent.packet ≡ p =
      ap (λ (i : PlainIntent). i.packet) fits.1
      ∙ ap (λ (q : ℕ). packet_of plan.shape plan.layout c q (script_at plan c q) (values_of x.noted)) wait.seq
      ∙ ap (packet_of plan.shape plan.layout c e.entry.seq (script_at plan c e.entry.seq)) wait.noted ∙ sym by.packet in
      let low : x.last.number ≤ k = omega (arith, wait.last) in
      let floor : has.task.intent.floor ≤ k = subst (λ (n : ℕ). n ≤ k) (sym (ap (λ (i : PlainIntent). i.floor) fits.1)) (greatest_low k x.last x.noted low (most_of_below k x.noted wait.above)) in
      record {
        task = has.task;
        is = record {
          there = has.there;
          client = has.client;
          seq = ap (λ (i : PlainIntent). i.packet.seq) fits.1 ∙ seq_of_packet plan c x ∙ wait.seq;
          key = subst (λ (q : Option PlainOutcome). Key q has.task.client k) (sym has.outcome) (ap desks has.client ∙ wait.desk);
        };
        packet = packet;
        can = record { above = omega (arith, floor); answer = subst (λ (q : Option PlainOutcome). HasAnswer q (k + 1) (replay p m).pairs) (sym has.outcome) tt };
      }

  one : (k : ℕ) (m : Places) (e : HistoryEntry) (p : PlainPacket) → IsCarriedBy plan at desks k m e p → slice_get packets k ≡ Some p → slice_get (replay_all packets cells).pairs k ≡ Some (replay p m).pairs
      → In e h → is_carried e ≡ true → One k m e p
  one k m e p by here replayed i carries = go e.pairs refl
    where
      go : (o : Option (List Pair)) → e.pairs ≡ o → One k m e p
      go (Some pairs) is = one_answered k m e p by here replayed i carries (subst IsSome (sym is) refl)
      go None is = one_open k m e p by is

  record Front (k : ℕ) (m : Places) (es : History) (ps : List PlainPacket) : Type 0 where
    pub order : List Task
    pub can : CanFollow (k + 1) m order
    pub size : length order ≡ length ps
    pub each : AreFor k es order

  front : (k : ℕ) (m : Places) (es : History) (ps : List PlainPacket) → AreCarriedBy plan at desks k m es ps
      → ((i : ℕ) (p : PlainPacket) → slice_get ps i ≡ Some p → slice_get packets (k + i) ≡ Some p)
      → ((i : ℕ) (l : List Pair) → slice_get (replay_all ps m).pairs i ≡ Some l → slice_get (replay_all packets cells).pairs (k + i) ≡ Some l)
      → ((e : HistoryEntry) → In e es → In e h × (is_carried e ≡ true)) → Front k m es ps
  unfolding replay_all
  front k m [] [] all here replayed known_ones = record { order = []; can = tt; size = refl; each = tt }
  front k m [] (p ∷ ps) all here replayed known_ones = absurd all
  front k m (e ∷ es) [] all here replayed known_ones = absurd all
  front k m (e ∷ es) (p ∷ ps) all here replayed known_ones =
      let start : k + 0 ≡ k = omega arith in
      let i = known_ones e (inl refl) in
      let first = one k m e p all.0 (ap (slice_get packets) (sym start) ∙ here 0 p refl) (ap (slice_get (replay_all packets cells).pairs) (sym start) ∙ replayed 0 (replay p m).pairs refl) i.0 i.1 in
      let rest = front (k + 1) (replay p m).after es ps all.1
      (λ j q is. let next : (k + 1) + j ≡ k + suc j = omega arith in ap (slice_get packets) next ∙ here (suc j) q is)
      (λ j l is. let next : (k + 1) + j ≡ k + suc j = omega arith in ap (slice_get (replay_all packets cells).pairs) next ∙ replayed (suc j) l is)
      (λ f j. known_ones f (inr j)) in
      record {
        order = first.task ∷ rest.order;
        can = (subst (λ (q : PlainPacket). CanHave first.task (k + 1) (replay q m).pairs) (sym first.packet) first.can, subst (λ (q : PlainPacket). CanFollow ((k + 1) + 1) (replay q m).after rest.order) (sym first.packet) rest.can);
        size = ap suc rest.size;
        each = (first.is, rest.each);
      }

  entered_ones : Front 0 cells (carried h) packets
  entered_ones = front 0 cells (carried h) packets ties.carried_ones
      (λ i p e. let same : 0 + i ≡ i = omega arith in ap (slice_get packets) same ∙ e)
      (λ i l e. let same : 0 + i ≡ i = omega arith in ap (slice_get (replay_all packets cells).pairs) same ∙ e)
      (λ e i. carried_in h e i)

  -- ---- the tasks that have no number yet

  abbrev is_waiting : Task → Bool
  is_waiting t = is_none t.outcome && not (is_entered (desks t.client))

  abbrev waiting : List Task
  waiting = filter is_waiting tasks

  abbrev whole : List Task
  whole = entered_ones.order ++ waiting

  left_true : (a b : Bool) → (a && b) ≡ true → a ≡ true
  left_true true b e = refl
  left_true false b e = cc

  right_true : (a b : Bool) → (a && b) ≡ true → b ≡ true
  right_true true b e = e
  right_true false b e = cc

  none_of : (o : Option PlainOutcome) → is_none o ≡ true → o ≡ None
  none_of None e = refl
  none_of (Some o) e = cc

  waiting_open : (t : Task) → is_waiting t ≡ true → t.outcome ≡ None
  waiting_open t is = none_of t.outcome (left_true (is_none t.outcome) (not (is_entered (desks t.client))) is)

  waiting_out : (t : Task) (k : ℕ) → is_waiting t ≡ true → desks t.client ≡ Entered k → ⊥
  waiting_out t k is desk = clash (sym (right_true (is_none t.outcome) (not (is_entered (desks t.client))) is) ∙ ap (λ (d : Desk). not (is_entered d)) desk)
    where
      clash : true ≡ false → ⊥
      clash e = cc

  abbrev most : ℕ
  most = length packets

  low_floor : (t : Task) → In t tasks → is_waiting t ≡ true → (t.outcome ≡ None) × (t.intent.floor < 1 + length entered_ones.order)
  low_floor t i is =
      let none = waiting_open t is in
      let fits = open_fits t none (fits_in t i) in
      let x = at t.client in
      let low : t.intent.floor ≤ most = subst (λ (n : ℕ). n ≤ most) (sym (ap (λ (j : PlainIntent). j.floor) fits.1)) (greatest_low most x.last x.noted (ties.covered.last t.client) (ties.covered.noted t.client)) in
      (none, omega (arith, low, entered_ones.size))

  follows : CanFollow 1 cells whole
  follows =
      let start : 0 + 1 ≡ 1 = omega arith in
      follow_append 1 cells entered_ones.order waiting (subst (λ (n : ℕ). CanFollow n cells entered_ones.order) start entered_ones.can)
      (λ m. follow_open (1 + length entered_ones.order) m waiting (all_filter _ is_waiting tasks low_floor))

  -- ---- each task once

  key_in : (k : ℕ) (es : History) (ts : List Task) → AreFor k es ts → (t : Task) → In t ts → (n : ℕ) × (k ≤ n) × In t tasks × Key t.outcome t.client n
  key_in k [] [] all t i = absurd i
  key_in k [] (s ∷ ts) all t i = absurd all
  key_in k (e ∷ es) [] all t i = absurd all
  key_in k (e ∷ es) (s ∷ ts) all t (inl same) = (k, omega arith, subst (λ (x : Task). In x tasks) same all.0.there, subst (λ (x : Task). Key x.outcome x.client k) same all.0.key)
  key_in k (e ∷ es) (s ∷ ts) all t (inr i) = let r = key_in (k + 1) es ts all.1 t i in (r.0, omega (arith, r.1), r.2, r.3)

  keys_differ : (o : Option PlainOutcome) (c k n : ℕ) → Key o c k → Key o c n → k ≡ n
  keys_differ None c k n a b = entered_same (sym a ∙ b)
  keys_differ (Some o) c k n a b = omega (arith, a, b)

  once_front : (k : ℕ) (es : History) (ts : List Task) → AreFor k es ts → Once ts
  once_front k [] [] all = tt
  once_front k [] (s ∷ ts) all = absurd all
  once_front k (e ∷ es) [] all = absurd all
  once_front k (e ∷ es) (s ∷ ts) all = (
    λ i. (let r = key_in (k + 1) es ts all.1 s i in let same = keys_differ s.outcome s.client k r.0 all.0.key r.3 in absurd (omega (arith, r.1, same))),
    once_front (k + 1) es ts all.1,
  )

  apart : (t : Task) → In t entered_ones.order → In t waiting → ⊥
  apart t i j =
      let r = key_in 0 (carried h) entered_ones.order entered_ones.each t i in
      let w = in_filter is_waiting tasks t j in
      waiting_out t r.0 w.1 (subst (λ (o : Option PlainOutcome). Key o t.client r.0) (waiting_open t w.1) r.3)

  whole_once : Once whole
  whole_once = once_append entered_ones.order waiting (once_front 0 (carried h) entered_ones.order entered_ones.each) (once_filter is_waiting tasks (tasks_once logs ascending)) apart

  back : (t : Task) → In t whole → In t tasks
  back t i = elim (in_cases entered_ones.order waiting t i) [
    | inl j ↦ (key_in 0 (carried h) entered_ones.order entered_ones.each t j).2
    | inr j ↦ (in_filter is_waiting tasks t j).0
  ]

  for_entry : (k : ℕ) (es : History) (ts : List Task) → AreFor k es ts → (f : HistoryEntry) → In f es → (t : Task) × In t ts × In t tasks × (t.client ≡ f.entry.client) × (t.intent.packet.seq ≡ f.entry.seq)
  for_entry k [] [] all f i = absurd i
  for_entry k [] (s ∷ ts) all f i = absurd all
  for_entry k (e ∷ es) [] all f i = absurd all
  for_entry k (e ∷ es) (s ∷ ts) all f (inl same) = (s, inl refl, all.0.there, all.0.client ∙ ap (λ (x : HistoryEntry). x.entry.client) same, all.0.seq ∙ ap (λ (x : HistoryEntry). x.entry.seq) same)
  for_entry k (e ∷ es) (s ∷ ts) all f (inr i) = let r = for_entry (k + 1) es ts all.1 f i in (r.0, inr r.1, r.2, r.3, r.4)

  -- a task whose entry is there has entered
  has_entered : (t : Task) (f : HistoryEntry) → In t tasks → In f h → is_carried f ≡ true → t.client ≡ f.entry.client → t.intent.packet.seq ≡ f.entry.seq → In t whole
  has_entered t f i there carries client seq =
      let r = for_entry 0 (carried h) entered_ones.order entered_ones.each f (filter_in is_carried h f there carries) in
      let same = tasks_single logs r.0 t ascending r.2 i (r.3 ∙ sym client) (r.4 ∙ sym seq) in
      in_left entered_ones.order waiting t (subst (λ (x : Task). In x entered_ones.order) same r.1)

  to : (t : Task) → In t tasks → In t whole
  to t i = go t.outcome refl
    where
      desk_of : t.outcome ≡ None → (d : Desk) → desks t.client ≡ d → In t whole
      desk_of none Vacant is = in_right entered_ones.order waiting t (filter_in is_waiting tasks t i (ap (λ (o : Option PlainOutcome). is_none o && not (is_entered (desks t.client))) none ∙ ap (λ (d : Desk). not (is_entered d)) is))
      desk_of none (Posted p) is = in_right entered_ones.order waiting t (filter_in is_waiting tasks t i (ap (λ (o : Option PlainOutcome). is_none o && not (is_entered (desks t.client))) none ∙ ap (λ (d : Desk). not (is_entered d)) is))
      desk_of none (Entered k) is =
          let c = t.client in
          let fits = open_fits t none (fits_in t i) in
          let entry = pending_entry c (at c) (k + 1) in
          let waits = subst (FitsDesk plan h c (at c)) is (ties.under_way c) in
          has_entered t entry i (in_contains h entry waits.1) refl refl (ap (λ (j : PlainIntent). j.packet.seq) fits.1 ∙ seq_of_packet plan c (at c))

      go : (o : Option PlainOutcome) → t.outcome ≡ o → In t whole
      go None is = desk_of is (desks t.client) refl
      go (Some o) is =
          let a = answer_fits t o is (fits_in t i) in
          has_entered t _ i (in_at h a.entry.0 _ a.entry.1) refl refl a.seq

  permuted : IsPermutation tasks whole
  permuted = permutation_of tasks whole (tasks_once logs ascending) whole_once to back

  pub true_order : (order : List Task) × IsPlacement (plain_logs logs) cells order
  true_order = (whole, record { all = permuted; follows = follows })

  -- there are as many tasks as packets have entered, or more
  pub enough_tasks : length packets ≤ length tasks
  enough_tasks = omega (arith, length_permutation tasks whole permuted, length-append entered_ones.order waiting, entered_ones.size)
