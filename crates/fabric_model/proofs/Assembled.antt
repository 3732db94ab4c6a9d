-- What holds on the side of the hosts, what the logs have, and a placement of the logs make the ties behind a recovery.
use Rattle.std.proofs.Common.{◌≡◌, ◌≢◌, ◌⊎◌, ℕ, zero, suc, ◌+◌, ◌<◌, ◌≤◌, ◌==◌, Bool, true, false, List, [], ◌∷◌, length, get_or, slice_get, Option, Some, None, IsSome, inl, inr, refl, sym, ap, subst, ◌∙◌, arith, if◌then◌else◌, Ordering, Less, Equal, Greater}
use Rattle.std.specs.List.{AllByRecursion, position_from}
use Rattle.std.specs.Ordering.{nat_cmp, ordering_then}
use Rattle.std.specs.FinMap.{nat_cmp-IsAntisymmetric}
use Rattle.std.proofs.lemmas.Bool.Decides.{nat_tests}
use Rattle.std.proofs.lemmas.List.{length-map}
use Rattle.txn_model.specs.Places.{Places}
use Rattle.txn_model.specs.declared.stamp.Seen.{Seen}
use Rattle.txn_model.specs.declared.stamp.Stamp.{Stamp}
use Rattle.host_store.specs.Store.{Store}
use Rattle.history_model.specs.History.{HistoryEntry, History, IsInStampOrder, AllAnswered, entry_cmp}
use Rattle.history_model.specs.declared.entry.Entry.{Entry}
use Rattle.placement_model.specs.Placements.{Task, HasAnswer, CanHave, CanFollow, IsPlacement, packets_of, tasks_of}
use Rattle.switch_packet.specs.Packets.{PlainPacket, PlainIntent, PlainOutcome}
use Rattle.switch_packet.specs.Replay.{replay}
use Rattle.switch_model.specs.Switch.{Entered}
use Rattle.warm_split.specs.Joined.{joined}
use Rattle.warm_split.specs.Resolved.{packet_of, packet_from}
use Rattle.catalogue.specs.Plan.{Plan, script_at, hot_cells}
use Rattle.core_model.specs.declared.phase.Phase.TheVariants.{Logged, Waiting}
use Rattle.core_model.specs.Decision.{greatest}
use Rattle.core_model.specs.Facts.{Clients, script_of_entry}
use Rattle.core_model.specs.State.{ClientState, script_now}
use Rattle.core_model.specs.StampOrder.{AtMost}
use Rattle.core_model.proofs.Entries.{sorted-with_entry}
use Rattle.core_model.proofs.Fewer.{each_entry}
use Rattle.core_model.proofs.Stamps.{AtMost-greatest, noted_at_most}
use Rattle.fabric_model.specs.Carried.{is_carried, carried, IsCarriedBy, AreCarriedBy, FitsDesk, pending_entry}
use Rattle.fabric_model.specs.ColdFacts.{ColdFacts}
use Rattle.fabric_model.specs.Holds.{HostFacts, Ties}
use Rattle.fabric_model.specs.Intents.{values_of, packet_now, intent_now}
use Rattle.fabric_model.specs.Recorded.{has_open, IsAnswer, IsTold}
use Rattle.fabric_model.specs.Recovery.{plain_logs, is_open_of, desk_for, desk_in, resumed, with_open, filled_from, filled}
use Rattle.fabric_model.specs.State.{Records, no_records, answered_ones}
use Rattle.fabric_model.specs.Step.{has_hot}
use Rattle.fabric_model.proofs.Among.{In, in_at, at_in, contains_in, in_permutation, all_in, all_of_in, all_permutation, same_entry, same_history, in_with_entry, with_entry_in}
use Rattle.fabric_model.proofs.EntriesKept.{answered_ones-pending}
use Rattle.fabric_model.proofs.Resumed.{waits_of_open, open_of_waits, installs_before, not_logged, open_cases, cold_again}
use Rattle.fabric_model.proofs.Tasks.{KnownLog, TaskFits, FitsBy, all_fit, outcome_task, open_task, open_once, open_test, placed_open, open_at}

from_some : {T : Type 0} {a b : T} → Some a ≡ Some b → a ≡ b
from_some e = cc

some_none : {T : Type 0} {a : T} → Some a ≡ None → ⊥
some_none e = cc

-- ---- numbers

low_number : (a b : ℕ) → nat_cmp a b ≢ Less → b ≤ a
low_number a b n = grind (arith, nat_tests)

-- a stamp that is at most another one has no greater number
number_at_most : (a b : Stamp) → AtMost a b → a.number ≤ b.number
number_at_most a b most = low_number b.number a.number (λ less. most (ap (λ (r : Ordering). ordering_then r (nat_cmp b.sub a.sub)) less))

floor_last : (x : ClientState) → x.last.number ≤ (greatest x.last x.noted).number
floor_last x = number_at_most x.last (greatest x.last x.noted) (AtMost-greatest x.noted x.last)

floor_noted : (x : ClientState) → AllByRecursion (λ seen. seen.stamp.number ≤ (greatest x.last x.noted).number) x.noted
floor_noted x = each x.noted (noted_at_most x.noted x.last)
  where
    each : (l : List Seen) → AllByRecursion (λ seen. AtMost seen.stamp (greatest x.last x.noted)) l → AllByRecursion (λ seen. seen.stamp.number ≤ (greatest x.last x.noted).number) l
    each [] all = tt
    each (seen ∷ l) all = (number_at_most seen.stamp (greatest x.last x.noted) all.0, each l all.1)

below_each : (n m : ℕ) (l : List Seen) → n < m → AllByRecursion (λ seen. seen.stamp.number ≤ n) l → AllByRecursion (λ seen. seen.stamp.number < m) l
below_each n m [] lt all = tt
below_each n m (seen ∷ l) lt all = (omega (arith, lt, all.0), below_each n m l lt all.1)

first_equal : (a b : Ordering) → ordering_then a b ≡ Equal → a ≡ Equal
first_equal Less b e = cc
first_equal Equal b e = refl
first_equal Greater b e = cc

second_equal : (a b : Ordering) → ordering_then a b ≡ Equal → b ≡ Equal
second_equal Less b e = cc
second_equal Equal b e = e
second_equal Greater b e = cc

tie_number : (e f : Entry) → entry_cmp e f ≡ Equal → e.stamp.number ≡ f.stamp.number
tie_number e f t = nat_cmp-IsAntisymmetric e.stamp.number f.stamp.number (first_equal _ _ (first_equal _ _ t))

tie_sub : (e f : Entry) → entry_cmp e f ≡ Equal → e.stamp.sub ≡ f.stamp.sub
tie_sub e f t = nat_cmp-IsAntisymmetric e.stamp.sub f.stamp.sub (second_equal _ _ (first_equal _ _ t))

zero_carried : (e : HistoryEntry) → e.entry.stamp.sub ≡ 0 → is_carried e ≡ true
zero_carried e z = test e.entry.stamp.sub z
  where
    test : (n : ℕ) → n ≡ 0 → (n == 0) ≡ true
    test n is = grind (arith, nat_tests)

carried_zero : (e : HistoryEntry) → is_carried e ≡ true → e.entry.stamp.sub ≡ 0
carried_zero e z = test e.entry.stamp.sub z
  where
    test : (n : ℕ) → (n == 0) ≡ true → n ≡ 0
    test n is = grind (arith, nat_tests)

-- ---- places of tasks in an order

-- an outcome has the number of its place
pub answer_place : (number : ℕ) (m : Places) (order : List Task) (k : ℕ) (t : Task) (o : PlainOutcome) → CanFollow number m order → slice_get order k ≡ Some t → t.outcome ≡ Some o → o.number ≡ number + k
answer_place number m [] k t o can e is = cc
answer_place number m (s ∷ order) zero t o can e is =
    let same : s ≡ t = from_some e in
    omega (arith, (subst (λ (x : Option PlainOutcome). HasAnswer x number (replay s.intent.packet m).pairs) (ap (λ (x : Task). x.outcome) same ∙ is) can.0.answer).0)
answer_place number m (s ∷ order) (suc k) t o can e is = omega (arith, answer_place (number + 1) (replay s.intent.packet m).after order k t o can.1 e is)

abbrev pub open_entry : ℕ → Task → HistoryEntry
open_entry number t = record { entry = record { stamp = record { number = number; sub = 0 }; client = t.client; seq = t.intent.packet.seq }; pairs = None }

-- the entries that were put in are those of the open tasks
pub filled_has : (number : ℕ) (tasks : List Task) (h : History) (f : HistoryEntry) → In f (filled_from number tasks h) → In f h ⊎ ((k : ℕ) × (t : Task) × (slice_get tasks k ≡ Some t) × (t.outcome ≡ None) × (open_entry (number + k) t ≡ f))
filled_has number [] h f i = inl i
filled_has number (t ∷ tasks) h f i = by t.outcome refl (filled_has (number + 1) tasks (with_open number t t.outcome h) f i)
  where
    later : (k : ℕ) (s : Task) → open_entry ((number + 1) + k) s ≡ f → open_entry (number + suc k) s ≡ f
    later k s e = let next : number + suc k ≡ (number + 1) + k = omega arith in ap (λ (n : ℕ). open_entry n s) next ∙ e

    here : t.outcome ≡ None → open_entry number t ≡ f → open_entry (number + 0) t ≡ f
    here none e = let same : number + 0 ≡ number = omega arith in ap (λ (n : ℕ). open_entry n t) same ∙ e

    by : (o : Option PlainOutcome) → t.outcome ≡ o → In f (with_open number t o h) ⊎ ((k : ℕ) × (s : Task) × (slice_get tasks k ≡ Some s) × (s.outcome ≡ None) × (open_entry ((number + 1) + k) s ≡ f))
        → In f h ⊎ ((k : ℕ) × (s : Task) × (slice_get (t ∷ tasks) k ≡ Some s) × (s.outcome ≡ None) × (open_entry (number + k) s ≡ f))
    by (Some o) is (inl j) = inl j
    by (Some o) is (inr r) = inr (suc r.0, r.1, r.2, r.3, later r.0 r.1 r.4)
    by None is (inl j) = elim (in_with_entry (open_entry number t) f h j) [ inl e ↦ inr (0, t, refl, is, here is e) | inr k ↦ inl k ]
    by None is (inr r) = inr (suc r.0, r.1, r.2, r.3, later r.0 r.1 r.4)

pub filled_keeps : (number : ℕ) (tasks : List Task) (h : History) (f : HistoryEntry) → In f h → In f (filled_from number tasks h)
filled_keeps number [] h f i = i
filled_keeps number (t ∷ tasks) h f i = filled_keeps (number + 1) tasks (with_open number t t.outcome h) f (by t.outcome)
  where
    by : (o : Option PlainOutcome) → In f (with_open number t o h)
    by (Some o) = i
    by None = with_entry_in (open_entry number t) f h (inr i)

filled_new : (number : ℕ) (tasks : List Task) (h : History) (k : ℕ) (t : Task) → slice_get tasks k ≡ Some t → t.outcome ≡ None → In (open_entry (number + k) t) (filled_from number tasks h)
filled_new number [] h k t e none = cc
filled_new number (s ∷ tasks) h zero t e none =
    let same : s ≡ t = from_some e in
    let start : number ≡ number + 0 = omega arith in
    filled_keeps (number + 1) tasks (with_open number s s.outcome h) (open_entry (number + 0) t)
    (subst (λ (o : Option PlainOutcome). In (open_entry (number + 0) t) (with_open number s o h)) (sym (ap (λ (x : Task). x.outcome) same ∙ none))
    (with_entry_in (open_entry number s) (open_entry (number + 0) t) h (inl (ap (open_entry number) same ∙ ap (λ (n : ℕ). open_entry n t) start))))
filled_new number (s ∷ tasks) h (suc k) t e none =
    let next : (number + 1) + k ≡ number + suc k = omega arith in
    subst (λ (n : ℕ). In (open_entry n t) (filled_from (number + 1) tasks (with_open number s s.outcome h))) next (filled_new (number + 1) tasks (with_open number s s.outcome h) k t e none)

pub answered_filled : (number : ℕ) (tasks : List Task) (h : History) → answered_ones (filled_from number tasks h) ≡ answered_ones h
answered_filled number [] h = refl
answered_filled number (t ∷ tasks) h = answered_filled (number + 1) tasks (with_open number t t.outcome h) ∙ by t.outcome
  where
    by : (o : Option PlainOutcome) → answered_ones (with_open number t o h) ≡ answered_ones h
    by (Some o) = refl
    by None = answered_ones-pending (open_entry number t) h refl

pub all_filled : (P : HistoryEntry → Type 0) (number : ℕ) (tasks : List Task) (h : History) → AllByRecursion P h → ((k : ℕ) (t : Task) → slice_get tasks k ≡ Some t → t.outcome ≡ None → P (open_entry (number + k) t)) → AllByRecursion P (filled_from number tasks h)
all_filled P number tasks h all new = all_of_in P (filled_from number tasks h) (λ f i. elim (filled_has number tasks h f i) [ inl j ↦ all_in P h f all j | inr r ↦ subst P r.4 (new r.0 r.1 r.2 r.3) ])

-- put in one after another, where none ties with what is there and their numbers rise
sorted_filled : (number : ℕ) (tasks : List Task) (h : History) → IsInStampOrder h
    → ((k : ℕ) (t : Task) (f : HistoryEntry) → slice_get tasks k ≡ Some t → t.outcome ≡ None → In f h → is_carried f ≡ true → f.entry.stamp.number ≡ number + k → ⊥) → IsInStampOrder (filled_from number tasks h)
sorted_filled number [] h sorted apart = sorted
sorted_filled number (t ∷ tasks) h sorted apart = sorted_filled (number + 1) tasks (with_open number t t.outcome h) (by t.outcome refl) (λ k s f e none i c n. by_later t.outcome refl k s f e none i c n)
  where
    no_tie : t.outcome ≡ None → (f : HistoryEntry) → In f h → entry_cmp (open_entry number t).entry f.entry ≢ Equal
    no_tie none f i tie =
        let same : f.entry.stamp.number ≡ number + 0 = omega (arith, tie_number (open_entry number t).entry f.entry tie) in
        apart 0 t f refl none i (zero_carried f (sym (tie_sub (open_entry number t).entry f.entry tie))) same

    by : (o : Option PlainOutcome) → t.outcome ≡ o → IsInStampOrder (with_open number t o h)
    by (Some o) is = sorted
    by None is = sorted-with_entry (open_entry number t) h sorted (all_of_in (λ f. entry_cmp (open_entry number t).entry f.entry ≢ Equal) h (no_tie is))

    by_later : (o : Option PlainOutcome) → t.outcome ≡ o → (k : ℕ) (s : Task) (f : HistoryEntry) → slice_get tasks k ≡ Some s → s.outcome ≡ None → In f (with_open number t o h) → is_carried f ≡ true → f.entry.stamp.number ≡ (number + 1) + k → ⊥
    by_later (Some o) is k s f e none i c n = apart (suc k) s f e none i c (omega (arith, n))
    by_later None is k s f e none i c n = elim (in_with_entry (open_entry number t) f h i) [
      | inl same ↦ let here : number ≡ f.entry.stamp.number = ap (λ (x : HistoryEntry). x.entry.stamp.number) same in absurd (omega (arith, n, here))
      | inr j ↦ apart (suc k) s f e none j c (omega (arith, n))
    ]

seq_of_packet : (plan : Plan) (c : ℕ) (x : ClientState) → (packet_now plan c x).seq ≡ x.seq
unfolding packet_from
seq_of_packet plan c x = refl

-- ---- the ties

module _ (plan : Plan) (at : Clients) (store : Store) (h : History) (logs : List Records) (most : ℕ) (facts : HostFacts plan most at store h) (answered : AllAnswered h)
    (known : (c : ℕ) → KnownLog plan at h None c (get_or logs c no_records)) (order : List Task) (placed : IsPlacement (plain_logs logs) (hot_cells plan) order)
    (within : (c : ℕ) → has_open (at c).phase ≡ true → c < length logs) (covers : most ≤ length order) where
  abbrev new : Clients
  new d = resumed (at d)

  abbrev whole : History
  whole = filled order h

  all_known : AllByRecursion (TaskFits plan at h None) order
  all_known = all_permutation (TaskFits plan at h None) (tasks_of (plain_logs logs)) order placed.all (all_fit plan at h None logs known)

  fits_at : (k : ℕ) (t : Task) → slice_get order k ≡ Some t → TaskFits plan at h None t
  fits_at k t e = all_in (TaskFits plan at h None) order t all_known (in_at order k t e)

  open_fits : (t : Task) → t.outcome ≡ None → TaskFits plan at h None t → (has_open (at t.client).phase ≡ true) × (t.intent ≡ intent_now plan t.client (at t.client))
  open_fits t none fits = subst (FitsBy plan at h None t.client t.intent) none fits

  answer_fits : (t : Task) (o : PlainOutcome) → t.outcome ≡ Some o → TaskFits plan at h None t → IsAnswer plan h None t.client t.intent o
  answer_fits t o some fits = subst (FitsBy plan at h None t.client t.intent) some fits

  -- where a client's open task stands, its desk says so
  desk_at_place : (k : ℕ) (t : Task) → slice_get order k ≡ Some t → t.outcome ≡ None → desk_in order t.client ≡ Entered k
  desk_at_place k t e none =
      let same : 0 + k ≡ k = omega arith in
      ap desk_for (placed_open t.client order 0 k t e (open_test t.client t refl none) (open_once plan at h None t.client logs order known placed.all) ∙ ap Some same)

  -- an answered entry with a packet has its task at the place of its number
  record HasPlace (f : HistoryEntry) : Type 0 where
    pub k : ℕ
    pub task : Task
    pub there : slice_get order k ≡ Some task
    pub outcome : PlainOutcome
    pub some : task.outcome ≡ Some outcome
    pub client : task.client ≡ f.entry.client
    pub seq : outcome.seq ≡ f.entry.seq
    pub number : f.entry.stamp.number ≡ 1 + k

  place_of_entry : (f : HistoryEntry) → In f h → is_carried f ≡ true → HasPlace f
  place_of_entry f i carries =
      let c = f.entry.client in
      let told = all_in (IsTold c (get_or logs c no_records).outcomes) h f (known c).told i refl carries (all_in (λ e. IsSome e.pairs) h f answered i) in
      let has = outcome_task plan at h None logs c told.0 told.1 (known c) told.2 in
      let place = at_in order has.task (in_permutation (tasks_of (plain_logs logs)) order has.task placed.all has.there) in
      record {
        k = place.0;
        task = has.task;
        there = place.1;
        outcome = told.1;
        some = has.outcome;
        client = has.client;
        seq = told.4;
        number = sym told.3 ∙ answer_place 1 (hot_cells plan) order place.0 has.task told.1 placed.follows place.1 has.outcome;
      }

  apart : (k : ℕ) (t : Task) (f : HistoryEntry) → slice_get order k ≡ Some t → t.outcome ≡ None → In f h → is_carried f ≡ true → f.entry.stamp.number ≡ 1 + k → ⊥
  apart k t f e none i carries number =
      let p = place_of_entry f i carries in
      let same : p.k ≡ k = omega (arith, number, p.number) in
      let task : p.task ≡ t = from_some (sym p.there ∙ ap (slice_get order) same ∙ e) in
      some_none (sym p.some ∙ ap (λ (x : Task). x.outcome) task ∙ none)

  sorted_whole : IsInStampOrder whole
  sorted_whole = sorted_filled 1 order h facts.sorted apart

  -- ---- the entries along the order

  record Built (k : ℕ) (m : Places) (tasks : List Task) : Type 0 where
    pub entries : History
    pub carried_by : AreCarriedBy plan new (desk_in order) k m entries (packets_of tasks)
    pub there : AllByRecursion (λ e. In e whole) entries
    pub each : (j : ℕ) (t : Task) → slice_get tasks j ≡ Some t → (e : HistoryEntry) × (slice_get entries j ≡ Some e) × (e.entry ≡ (open_entry (1 + (k + j)) t).entry)

  record One (k : ℕ) (m : Places) (t : Task) : Type 0 where
    pub entry : HistoryEntry
    pub by : IsCarriedBy plan new (desk_in order) k m entry t.intent.packet
    pub there : In entry whole
    pub is : entry.entry ≡ (open_entry (1 + k) t).entry

  one_answered : (k : ℕ) (m : Places) (t : Task) (o : PlainOutcome) → IsAnswer plan h None t.client t.intent o → o.number ≡ k + 1 → o.pairs ≡ (replay t.intent.packet m).pairs → One k m t
  one_answered k m t o a number pairs = record {
    entry = entry;
    by = record {
      stamp = ap (λ (n : ℕ). record { number = n; sub = 0 }) number;
      values = a.values;
      packet = a.packet;
      reply = λ given said. sym (from_some said) ∙ ap (joined plan.layout (script_at plan t.client o.seq) a.values) pairs;
      pending = λ none. absurd (some_none none);
    };
    there = filled_keeps 1 order h entry (in_at h a.entry.0 entry a.entry.1);
    is = ap (λ (n : ℕ). record { stamp = record { number = n; sub = 0 }; client = t.client; seq = o.seq }) turned ∙ ap (λ (q : ℕ). record { stamp = record { number = 1 + k; sub = 0 }; client = t.client; seq = q }) (sym a.seq);
  }
    where
      entry : HistoryEntry
      entry = record { entry = record { stamp = record { number = o.number; sub = 0 }; client = t.client; seq = o.seq }; pairs = Some (joined plan.layout (script_at plan t.client o.seq) a.values o.pairs) }

      turned : o.number ≡ 1 + k
      turned = omega (arith, number)

  one_open : (k : ℕ) (m : Places) (t : Task) → slice_get order k ≡ Some t → t.outcome ≡ None → t.intent.floor < k + 1 → One k m t
  one_open k m t e none above =
      let fits = open_fits t none (fits_at k t e) in
      let c = t.client in
      let x = at c in
      let seq : t.intent.packet.seq ≡ x.seq = ap (λ (i : PlainIntent). i.packet.seq) fits.1 ∙ seq_of_packet plan c x in
      let floor : (greatest x.last x.noted).number < k + 1 = subst (λ (i : PlainIntent). i.floor < k + 1) fits.1 above in
      let turned : k + 1 ≡ 1 + k = omega arith in
      record {
        entry = open_entry (k + 1) t;
        by = record {
          stamp = refl;
          values = values_of x.noted;
          packet = ap (λ (i : PlainIntent). i.packet) fits.1 ∙ ap (λ (q : ℕ). packet_of plan.shape plan.layout c q (script_at plan c q) (values_of x.noted)) (sym seq);
          reply = λ given said. absurd (some_none (sym said));
          pending = λ _. record {
            phase = waits_of_open x.phase fits.0;
            seq = sym seq;
            noted = refl;
            desk = desk_at_place k t e none;
            last = omega (arith, floor, floor_last x);
            above = below_each (greatest x.last x.noted).number (k + 1) x.noted floor (floor_noted x);
          };
        };
        there = subst (λ (n : ℕ). In (open_entry n t) whole) (sym turned) (filled_new 1 order h k t e none);
        is = ap (λ (n : ℕ). (open_entry n t).entry) turned;
      }

  one_at : (k : ℕ) (m : Places) (t : Task) (o : Option PlainOutcome) → t.outcome ≡ o → slice_get order k ≡ Some t → CanHave t (k + 1) (replay t.intent.packet m).pairs → One k m t
  one_at k m t (Some o) is e can =
      let has = subst (λ (x : Option PlainOutcome). HasAnswer x (k + 1) (replay t.intent.packet m).pairs) is can.answer in
      one_answered k m t o (answer_fits t o is (fits_at k t e)) has.0 has.1
  one_at k m t None is e can = one_open k m t e is can.above

  build : (k : ℕ) (m : Places) (tasks : List Task) → ((j : ℕ) (t : Task) → slice_get tasks j ≡ Some t → slice_get order (k + j) ≡ Some t) → CanFollow (k + 1) m tasks → Built k m tasks
  build k m [] at_places can = record { entries = []; carried_by = tt; there = tt; each = λ j t e. absurd (none_in j t e) }
    where
      none_in : (j : ℕ) (t : Task) → slice_get [] j ≡ Some t → ⊥
      none_in j t e = cc
  build k m (t ∷ tasks) at_places can =
      let here : k + 0 ≡ k = omega arith in
      let one = one_at k m t t.outcome refl (ap (slice_get order) (sym here) ∙ at_places 0 t refl) can.0 in
      let rest = build (k + 1) (replay t.intent.packet m).after tasks (λ j s e. let next : (k + 1) + j ≡ k + suc j = omega arith in ap (slice_get order) next ∙ at_places (suc j) s e) can.1 in
      record {
        entries = one.entry ∷ rest.entries;
        carried_by = (one.by, rest.carried_by);
        there = (one.there, rest.there);
        each = λ j s e. each_of one.entry one.is rest.entries rest.each j s e;
      }
    where
      each_of : (first : HistoryEntry) → first.entry ≡ (open_entry (1 + k) t).entry → (entries : History) → ((j : ℕ) (s : Task) → slice_get tasks j ≡ Some s → (e : HistoryEntry) × (slice_get entries j ≡ Some e) × (e.entry ≡ (open_entry (1 + ((k + 1) + j)) s).entry))
          → (j : ℕ) (s : Task) → slice_get (t ∷ tasks) j ≡ Some s → (e : HistoryEntry) × (slice_get (first ∷ entries) j ≡ Some e) × (e.entry ≡ (open_entry (1 + (k + j)) s).entry)
      each_of first is entries each zero s e =
          let same : t ≡ s = from_some e in
          let start : 1 + k ≡ 1 + (k + 0) = omega arith in
          (first, refl, is ∙ ap (λ (x : Task). (open_entry (1 + k) x).entry) same ∙ ap (λ (n : ℕ). (open_entry n s).entry) start)
      each_of first is entries each (suc j) s e =
          let r = each j s e in
          let next : 1 + ((k + 1) + j) ≡ 1 + (k + suc j) = omega arith in
          (r.0, r.1, r.2 ∙ ap (λ (n : ℕ). (open_entry n s).entry) next)

  built : Built 0 (hot_cells plan) order
  built = build 0 (hot_cells plan) order (λ j t e. let same : 0 + j ≡ j = omega arith in ap (slice_get order) same ∙ e) (let one : 1 ≡ 0 + 1 = omega arith in subst (λ (n : ℕ). CanFollow n (hot_cells plan) order) one placed.follows)

  -- ---- they are the carried ones

  carried_in : (l : History) (f : HistoryEntry) → In f (carried l) → In f l × (is_carried f ≡ true)
  carried_in [] f i = absurd i
  carried_in (g ∷ l) f i = by (is_carried g) refl i (carried_in l f)
    where
      by : (b : Bool) → is_carried g ≡ b → In f (if b then g ∷ carried l else carried l) → (In f (carried l) → In f l × (is_carried f ≡ true)) → In f (g ∷ l) × (is_carried f ≡ true)
      by true is (inl e) rest = (inl e, ap is_carried (sym e) ∙ is)
      by true is (inr j) rest = let r = rest j in (inr r.0, r.1)
      by false is j rest = let r = rest j in (inr r.0, r.1)

  in_carried : (l : History) (f : HistoryEntry) → In f l → is_carried f ≡ true → In f (carried l)
  in_carried [] f i is = absurd i
  in_carried (g ∷ l) f i is = by (is_carried g) refl i (λ j. in_carried l f j is)
    where
      by : (b : Bool) → is_carried g ≡ b → In f (g ∷ l) → (In f l → In f (carried l)) → In f (if b then g ∷ carried l else carried l)
      by true c (inl e) rest = inl e
      by true c (inr j) rest = inr (rest j)
      by false c (inl e) rest = let clash : true ≡ false = sym is ∙ ap is_carried (sym e) ∙ c in cc
      by false c (inr j) rest = rest j

  sorted_carried : (l : History) → IsInStampOrder l → IsInStampOrder (carried l)
  sorted_carried [] sorted = tt
  sorted_carried (g ∷ l) sorted = by (is_carried g) (sorted_carried l sorted.1)
    where
      by : (b : Bool) → IsInStampOrder (carried l) → IsInStampOrder (if b then g ∷ carried l else carried l)
      by true rest = (all_of_in (λ f. entry_cmp g.entry f.entry ≡ Less) (carried l) (λ f i. all_in (λ z. entry_cmp g.entry z.entry ≡ Less) l f sorted.0 (carried_in l f i).0), rest)
      by false rest = rest

  -- entries that are carried in order stand in stamp order
  number_less : (a b : ℕ) → a < b → nat_cmp a b ≡ Less
  number_less a b lt = grind (arith, nat_tests)

  stamps_from : (k : ℕ) (m : Places) (es : History) (ps : List PlainPacket) → AreCarriedBy plan new (desk_in order) k m es ps → AllByRecursion (λ e. (k < e.entry.stamp.number) × (e.entry.stamp.sub ≡ 0)) es
  stamps_from k m [] ps all = tt
  stamps_from k m (e ∷ es) [] all = absurd all
  stamps_from k m (e ∷ es) (p ∷ ps) all = (
    (omega (arith, ap (λ (s : Stamp). s.number) all.0.stamp), ap (λ (s : Stamp). s.sub) all.0.stamp),
    each_entry es (λ f low. (omega (arith, low.0), low.1)) (stamps_from (k + 1) (replay p m).after es ps all.1),
  )

  carried_sorted : (k : ℕ) (m : Places) (es : History) (ps : List PlainPacket) → AreCarriedBy plan new (desk_in order) k m es ps → IsInStampOrder es
  carried_sorted k m [] ps all = tt
  carried_sorted k m (e ∷ es) [] all = absurd all
  carried_sorted k m (e ∷ es) (p ∷ ps) all = (
    each_entry es (λ f low. ap (λ (r : Ordering). ordering_then (ordering_then r (nat_cmp e.entry.stamp.sub f.entry.stamp.sub)) (nat_cmp e.entry.client f.entry.client))
        (number_less e.entry.stamp.number f.entry.stamp.number (omega (arith, low.0, ap (λ (s : Stamp). s.number) all.0.stamp)))) (stamps_from (k + 1) (replay p m).after es ps all.1),
    carried_sorted (k + 1) (replay p m).after es ps all.1,
  )

  entry_of_place : (k : ℕ) (t : Task) (f : HistoryEntry) → slice_get order k ≡ Some t → In f whole → f.entry ≡ (open_entry (1 + k) t).entry → In f built.entries
  entry_of_place k t f e i is =
      let at_k = built.each k t e in
      let there : In at_k.0 built.entries = in_at built.entries k at_k.0 at_k.1 in
      let start : 1 + (0 + k) ≡ 1 + k = omega arith in
      let same : at_k.0 ≡ f = same_entry whole at_k.0 f sorted_whole (all_in (λ z. In z whole) built.entries at_k.0 built.there there) i (at_k.2 ∙ ap (λ (n : ℕ). (open_entry n t).entry) start ∙ sym is) in
      subst (λ (z : HistoryEntry). In z built.entries) same there

  comes_of_order : (f : HistoryEntry) → In f (carried whole) → In f built.entries
  comes_of_order f i =
      let c = carried_in whole f i in
      elim (filled_has 1 order h f c.0) [
        | inl j ↦
            let p = place_of_entry f j c.1 in
            let a = answer_fits p.task p.outcome p.some (fits_at p.k p.task p.there) in
            entry_of_place p.k p.task f p.there c.0 (parts f (1 + p.k) p.task.client p.task.intent.packet.seq p.number (carried_zero f c.1) (sym p.client) (sym p.seq ∙ sym a.seq))
        | inr r ↦ entry_of_place r.0 r.1 f r.2 c.0 (ap (λ (z : HistoryEntry). z.entry) (sym r.4))
      ]
    where
      parts : (g : HistoryEntry) (number client seq : ℕ) → g.entry.stamp.number ≡ number → g.entry.stamp.sub ≡ 0 → g.entry.client ≡ client → g.entry.seq ≡ seq → g.entry ≡ record { stamp = record { number = number; sub = 0 }; client = client; seq = seq }
      parts g number client seq a b c d =
          ap (λ (n : ℕ). record { stamp = record { number = n; sub = g.entry.stamp.sub }; client = g.entry.client; seq = g.entry.seq }) a
          ∙ ap (λ (n : ℕ). record { stamp = record { number = number; sub = n }; client = g.entry.client; seq = g.entry.seq }) b
          ∙ ap (λ (n : ℕ). record { stamp = record { number = number; sub = 0 }; client = n; seq = g.entry.seq }) c
          ∙ ap (λ (n : ℕ). record { stamp = record { number = number; sub = 0 }; client = client; seq = n }) d

  order_is_carried : (f : HistoryEntry) → In f built.entries → In f (carried whole)
  order_is_carried f i =
      in_carried whole f (all_in (λ z. In z whole) built.entries f built.there i)
      (zero_carried f (all_in (λ e. (0 < e.entry.stamp.number) × (e.entry.stamp.sub ≡ 0)) built.entries f (stamps_from 0 (hot_cells plan) built.entries (packets_of order) built.carried_by) i).1)

  same_entries : carried whole ≡ built.entries
  same_entries = same_history (carried whole) built.entries (sorted_carried whole sorted_whole) (carried_sorted 0 (hot_cells plan) built.entries (packets_of order) built.carried_by) comes_of_order order_is_carried

  carried_whole : AreCarriedBy plan new (desk_in order) 0 (hot_cells plan) (carried whole) (packets_of order)
  carried_whole = subst (λ (l : History). AreCarriedBy plan new (desk_in order) 0 (hot_cells plan) l (packets_of order)) (sym same_entries) built.carried_by

  -- ---- desks

  desk_fits : (c : ℕ) → FitsDesk plan whole c (new c) (desk_in order c)
  desk_fits c = by (position_from (is_open_of c) 0 order) refl
    where
      by : (o : Option ℕ) → position_from (is_open_of c) 0 order ≡ o → FitsDesk plan whole c (new c) (desk_for o)
      by None is = λ waits.
          let opens = open_of_waits (at c).phase waits in
          let has = open_task plan at h None logs c (within c opens) (known c) opens in
          let place = at_in order has.task (in_permutation (tasks_of (plain_logs logs)) order has.task placed.all has.there) in
          some_none (sym (placed_open c order 0 place.0 has.task place.1 (open_test c has.task has.client has.outcome) (open_once plan at h None c logs order known placed.all)) ∙ is)
      by (Some k) is =
          let o = open_at c order 0 k is in
          let same : o.0 ≡ k = omega (arith, o.1) in
          let t = o.2.task in
          let there : slice_get order k ≡ Some t = ap (slice_get order) (sym same) ∙ o.2.there in
          let fits = subst (λ (d : ℕ). (has_open (at d).phase ≡ true) × (t.intent ≡ intent_now plan d (at d))) o.2.client (open_fits t o.2.none (fits_at k t there)) in
          let turned : 1 + k ≡ k + 1 = omega arith in
          let seq : t.intent.packet.seq ≡ (at c).seq = ap (λ (i : PlainIntent). i.packet.seq) fits.1 ∙ seq_of_packet plan c (at c) in
          let entry : open_entry (1 + k) t ≡ pending_entry c (new c) (k + 1) =
          ap (λ (n : ℕ). open_entry n t) turned
          ∙ ap (λ (d : ℕ). record { entry = record { stamp = record { number = k + 1; sub = 0 }; client = d; seq = t.intent.packet.seq }; pairs = None }) o.2.client
          ∙ ap (λ (q : ℕ). record { entry = record { stamp = record { number = k + 1; sub = 0 }; client = c; seq = q }; pairs = None }) seq in
          (waits_of_open (at c).phase fits.0, contains_in whole (pending_entry c (new c) (k + 1)) (subst (λ (z : HistoryEntry). In z whole) entry (filled_new 1 order h k t there o.2.none)))

  -- ---- all together

  abbrev count : ℕ
  count = length (packets_of order)

  more : (n : ℕ) → n ≤ most → n ≤ count
  more n low = omega (arith, low, covers, length-map order (λ (t : Task). t.intent.packet))

  each_more : (l : List Seen) → AllByRecursion (λ seen. seen.stamp.number ≤ most) l → AllByRecursion (λ seen. seen.stamp.number ≤ count) l
  each_more [] all = tt
  each_more (seen ∷ l) all = (more seen.stamp.number all.0, each_more l all.1)

  in_range : {X : Type 0} (l : List X) (k : ℕ) (x : X) → slice_get l k ≡ Some x → k < length l
  in_range [] k x e = cc
  in_range (y ∷ l) zero x e = omega arith
  in_range (y ∷ l) (suc k) x e = omega (arith, in_range l k x e)

  pub ties_assembled : Ties plan new store whole (desk_in order) (packets_of order)
  ties_assembled = record {
    cold = subst (ColdFacts plan new store) (sym (answered_filled 1 order h)) (cold_again plan at store (answered_ones h) facts.cold);
    installs = λ c i. facts.installs c (installs_before (at c).phase i);
    hot_ones = hot;
    sorted = sorted_whole;
    unanswered = all_filled (λ e. e.pairs ≡ None → is_carried e ≡ true) 1 order h facts.unanswered (λ k t e none _. refl);
    hosts = all_filled (λ e. is_carried e ≡ false → has_hot plan (script_of_entry plan e) ≡ false) 1 order h facts.hosts (λ k t e none not. absurd (clash not));
    carried_ones = carried_whole;
    under_way = desk_fits;
    covered = record {
      last = λ c. more (at c).last.number (facts.covered.last c);
      noted = λ c. each_more (at c).noted (facts.covered.noted c);
      store_has = λ t. more _ (facts.covered.store_has t);
      entries = all_filled (λ e. e.entry.stamp.number ≤ count) 1 order h (each_entry h (λ e low. more e.entry.stamp.number low) facts.covered.entries)
          (λ k t e none. omega (arith, in_range order k t e, length-map order (λ (s : Task). s.intent.packet)));
    };
  }
    where
      clash : true ≡ false → ⊥
      clash e = cc

      hot : (c : ℕ) → ((new c).phase ≡ Logged) ⊎ ((new c).phase ≡ Waiting) → has_hot plan (script_now plan c (new c)) ≡ true
      hot c (inl e) = absurd (not_logged (at c).phase e)
      hot c (inr e) = facts.hot_ones c (open_cases (at c).phase (open_of_waits (at c).phase e))
