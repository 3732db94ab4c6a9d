-- There are no more entries and no more packets than items.
use Rattle.std.proofs.Common.{◌≡◌, ◌≢◌, ◌⊎◌, ℕ, zero, suc, ◌+◌, ◌-◌, ◌≤◌, ◌==◌, Bool, true, false, List, [], ◌∷◌, length, length-append, map, filter, set, get_or, Some, inl, inr, refl, sym, ap, ◌∙◌, arith, if◌then◌else◌}
use Rattle.std.specs.Prelude.{sum_by}
use Rattle.std.proofs.lemmas.List.{length-map}
use Rattle.std.proofs.lemmas.List.Sums.{sum_by-cons}
use Rattle.history_model.specs.History.{HistoryEntry, History}
use Rattle.history_model.specs.InOrder.{seqs_of}
use Rattle.placement_model.specs.Placements.{tasks_from, tasks_behind, tasks_of}
use Rattle.switch_packet.specs.Packets.{PlainIntent, PlainOutcome}
use Rattle.switch_model.specs.Flight.{Flight}
use Rattle.switch_model.specs.Switch.{Switch, Desk, Vacant, Posted, Entered, desk_at, entered}
use Rattle.catalogue.specs.Plan.{Plan, PlainItem, items_of, hot_cells}
use Rattle.catalogue.specs.Sound.{item_count}
use Rattle.core_model.specs.declared.phase.Phase.{Phase}
use Rattle.core_model.specs.declared.phase.Phase.TheVariants.{Ready, Locking, Aborting, Logged, Waiting, Installing, Finished}
use Rattle.core_model.specs.Run.{first_clients}
use Rattle.core_model.specs.State.{ClientState, at_item, zero_stamp}
use Rattle.fabric_model.specs.Carried.{is_carried, carried}
use Rattle.fabric_model.specs.Holds.{Holds}
use Rattle.fabric_model.specs.Laws.{IsReached}
use Rattle.fabric_model.specs.Recovery.{plain_logs}
use Rattle.fabric_model.specs.Run.{opening}
use Rattle.fabric_model.specs.State.{Records, State, client_at, no_records}
use Rattle.fabric_model.proofs.CarriedLaws.{as_many_carried}
use Rattle.fabric_model.proofs.FewRecords.{seq_within, few_records}
use Rattle.fabric_model.proofs.InOrder.{HasIts, desk_in, Goes, Stays, Passes, Leaves, Adds, goes_of}
use Rattle.fabric_model.proofs.Legal.{holds_now, holds_up}
use Rattle.fabric_model.proofs.MoveKinds.{move_of}
use Rattle.fabric_model.proofs.MovesLeft.{same_switch}
use Rattle.fabric_model.proofs.PerClient.{logs_stay}
use Rattle.fabric_model.proofs.Present.{present_of, clients_stay}
use Rattle.fabric_model.proofs.Runs.{of_reached, reached_step}

-- ---- entries of one client

-- whether the client's present item has an entry
abbrev its : Phase → Desk → ℕ
its Ready desk = 0
its Locking desk = 0
its Aborting desk = 0
its Logged desk = 0
its Waiting Vacant = 0
its Waiting (Posted p) = 0
its Waiting (Entered k) = 1
its Installing desk = 1
its Finished desk = 0

its_few : (p : Phase) (desk : Desk) → its p desk ≤ 1
its_few Ready desk = omega arith
its_few Locking desk = omega arith
its_few Aborting desk = omega arith
its_few Logged desk = omega arith
its_few Waiting Vacant = omega arith
its_few Waiting (Posted p) = omega arith
its_few Waiting (Entered k) = omega arith
its_few Installing desk = omega arith
its_few Finished desk = omega arith

abbrev Counts : ClientState → Desk → ℕ → Type 0
Counts x desk n = (HasIts x desk × (n ≡ 1)) ⊎ ((HasIts x desk → ⊥) × (n ≡ 0))

its_counts : (x : ClientState) (desk : Desk) → Counts x desk (its x.phase desk)
its_counts x desk = by x.phase refl desk
  where
    none : (p : Phase) → x.phase ≡ p → p ≢ Installing → p ≢ Waiting → (e : Desk) → HasIts x e → ⊥
    none p is i w e (inl a) = i (sym is ∙ a)
    none p is i w e (inr a) = w (sym is ∙ a.0)

    by : (p : Phase) → x.phase ≡ p → (e : Desk) → Counts x e (its p e)
    by Ready is e = inr (none Ready is (λ f. cc) (λ f. cc) e, refl)
    by Locking is e = inr (none Locking is (λ f. cc) (λ f. cc) e, refl)
    by Aborting is e = inr (none Aborting is (λ f. cc) (λ f. cc) e, refl)
    by Logged is e = inr (none Logged is (λ f. cc) (λ f. cc) e, refl)
    by Waiting is Vacant = inr (λ h. elim h [ inl a ↦ (let clash : Waiting ≡ Installing = sym is ∙ a in cc) | inr a ↦ a.1 ], refl)
    by Waiting is (Posted p) = inr (λ h. elim h [ inl a ↦ (let clash : Waiting ≡ Installing = sym is ∙ a in cc) | inr a ↦ a.1 ], refl)
    by Waiting is (Entered k) = inl (inr (is, tt), refl)
    by Installing is e = inl (inl is, refl)
    by Finished is e = inr (none Finished is (λ f. cc) (λ f. cc) e, refl)

-- the entries that a client has are of items before its present one, and of that one where it has an entry
abbrev AreFew : ClientState → Desk → List ℕ → Type 0
AreFew x desk l = length l + 1 ≤ x.seq + its x.phase desk

few_goes : (x : ClientState) (desk : Desk) (y : ClientState) (desk_new : Desk) (l l_new : List ℕ) → Goes x desk y desk_new l l_new → AreFew x desk l → AreFew y desk_new l_new
few_goes x desk y desk_new l l_new (Stays is same on) few = by (its_counts x desk) (its_counts y desk_new)
  where
    by : Counts x desk (its x.phase desk) → Counts y desk_new (its y.phase desk_new) → AreFew y desk_new l_new
    by (inl a) (inl b) = omega (arith, ap length is, same, few, a.1, b.1)
    by (inl a) (inr b) = absurd (b.0 (on a.0))
    by (inr a) (inl b) = omega (arith, ap length is, same, few, a.1, b.1)
    by (inr a) (inr b) = omega (arith, ap length is, same, few, a.1, b.1)
few_goes x desk y desk_new l l_new (Passes is later) few = omega (arith, ap length is, later, few, its_few x.phase desk)
few_goes x desk y desk_new l l_new (Leaves is same waits) few = omega (arith, ap length is, length-append l_new (x.seq ∷ []), same, few, its_few x.phase desk)
few_goes x desk y desk_new l l_new (Adds is none same has) few = by (its_counts x desk) (its_counts y desk_new)
  where
    by : Counts x desk (its x.phase desk) → Counts y desk_new (its y.phase desk_new) → AreFew y desk_new l_new
    by (inl a) b = absurd (none a.0)
    by (inr a) (inl b) = omega (arith, ap length is, length-append l (x.seq ∷ []), same, few, a.1, b.1)
    by (inr a) (inr b) = absurd (b.0 has)

abbrev AllFew : State → Type 0
AllFew s = (c : ℕ) → AreFew (client_at s c) (desk_in s.switch c) (seqs_of c s.history)

first_few : (plan : Plan) → AllFew (opening plan)
unfolding opening
first_few plan c = omega (arith, first_seq plan.clients c)
  where
    first_seq : (lists : List (List PlainItem)) (d : ℕ) → (get_or (first_clients lists) d (at_item 0 1 zero_stamp)).seq ≡ 1
    first_seq [] d = refl
    first_seq (items ∷ lists) zero = refl
    first_seq (items ∷ lists) (suc d) = first_seq lists d

all_few : (plan : Plan) (s : State) → IsReached plan s → AllFew s
all_few plan s reached =
    of_reached plan AllFew (first_few plan) (λ z next actor r few is c.
    few_goes (client_at z c) (desk_in z.switch c) (client_at next c) (desk_in next.switch c) (seqs_of c z.history) (seqs_of c next.history) (goes_of plan z next actor (holds_now plan z r) (holds_now plan next (reached_step plan z next actor r is)) (move_of plan z actor next is) c) (few c)) s reached

-- ---- entries of all clients

abbrev total : List ℕ → ℕ
total [] = 0
total (n ∷ ns) = n + total ns

total_set : (ns : List ℕ) (c n : ℕ) → 1 ≤ get_or ns c 0 → total (set ns c n) + get_or ns c 0 ≡ total ns + n
total_set [] c n one = absurd (omega (arith, one))
total_set (m ∷ ns) zero n one = omega arith
total_set (m ∷ ns) (suc c) n one = omega (arith, total_set ns c n one)

get_set : (ns : List ℕ) (c n d : ℕ) → 1 ≤ get_or ns c 0 → ((d ≡ c) × (get_or (set ns c n) d 0 ≡ n)) ⊎ ((d ≢ c) × (get_or (set ns c n) d 0 ≡ get_or ns d 0))
get_set [] c n d one = absurd (omega (arith, one))
get_set (m ∷ ns) zero n zero one = inl (refl, refl)
get_set (m ∷ ns) zero n (suc d) one = inr ((λ e. omega (arith, e)), refl)
get_set (m ∷ ns) (suc c) n zero one = inr ((λ e. omega (arith, e)), refl)
get_set (m ∷ ns) (suc c) n (suc d) one = elim (get_set ns c n d one) [
  | inl p ↦ inl (ap suc p.0, p.1)
  | inr p ↦ inr ((λ e. p.0 (omega (arith, e))), p.1)
]

-- entries of which no client has more than its number
counted : (ns : List ℕ) (h : History) → ((c : ℕ) → length (seqs_of c h) ≤ get_or ns c 0) → length h ≤ total ns
counted ns [] few = omega arith
counted ns (e ∷ h) few =
    let c = e.entry.client in
    let own : length (seqs_of c (e ∷ h)) ≡ suc (length (seqs_of c h)) = with_own (c == c) (itself c) in
    let one : 1 ≤ get_or ns c 0 = omega (arith, own, few c) in
    let rest = counted (set ns c (get_or ns c 0 - 1)) h (λ d. elim (get_set ns c (get_or ns c 0 - 1) d one) [
      | inl p ↦ omega (arith, p.1, own, few c, ap (λ (n : ℕ). length (seqs_of n h)) p.0)
      | inr p ↦ omega (arith, p.1, few d, at_most d)
    ]) in
    omega (arith, rest, total_set ns c (get_or ns c 0 - 1) one, one)
  where
    itself : (n : ℕ) → (n == n) ≡ true
    itself n = grind arith

    with_own : (b : Bool) → b ≡ true → length (map (λ (f : HistoryEntry). f.entry.seq) (if b then e ∷ filter (λ f. f.entry.client == e.entry.client) h else filter (λ f. f.entry.client == e.entry.client) h)) ≡ suc (length (seqs_of e.entry.client h))
    with_own true is = refl
    with_own false is = cc

    at_most : (d : ℕ) → length (seqs_of d h) ≤ length (seqs_of d (e ∷ h))
    at_most d = by (e.entry.client == d)
      where
        by : (b : Bool) → length (seqs_of d h) ≤ length (map (λ (f : HistoryEntry). f.entry.seq) (if b then e ∷ filter (λ f. f.entry.client == d) h else filter (λ f. f.entry.client == d) h))
        by true = omega arith
        by false = omega arith

length_at : (lists : List (List PlainItem)) (c : ℕ) → get_or (map length lists) c 0 ≡ length (get_or lists c [])
length_at [] c = refl
length_at (items ∷ lists) zero = refl
length_at (items ∷ lists) (suc c) = length_at lists c

total_lengths : (lists : List (List PlainItem)) → total (map length lists) ≡ sum_by length lists
total_lengths [] = refl
total_lengths (items ∷ lists) = omega (arith, total_lengths lists, sum_by-cons length items lists)

-- each client's entries are no more than its items
own_few : (plan : Plan) (s : State) (c : ℕ) → IsReached plan s → length (seqs_of c s.history) ≤ length (items_of plan c)
own_few plan s c reached = by (its_counts (client_at s c) (desk_in s.switch c))
  where
    x : ClientState
    x = client_at s c

    open_phase : HasIts x (desk_in s.switch c) → x.phase ≢ Finished
    open_phase (inl i) f = let clash : Installing ≡ Finished = sym i ∙ f in cc
    open_phase (inr w) f = let clash : Waiting ≡ Finished = sym w.0 ∙ f in cc

    by : Counts x (desk_in s.switch c) (its x.phase (desk_in s.switch c)) → length (seqs_of c s.history) ≤ length (items_of plan c)
    by (inl a) = omega (arith, all_few plan s reached c, a.1, (present_of plan s reached c (open_phase a.0)).1)
    by (inr a) = omega (arith, all_few plan s reached c, a.1, seq_within plan s c reached)

pub few_entries : (plan : Plan) (s : State) → IsReached plan s → length s.history ≤ item_count plan
few_entries plan s reached = omega (arith, counted (map length plan.clients) s.history (λ c. omega (arith, own_few plan s c reached, length_at plan.clients c)), total_lengths plan.clients)

carried_few : (h : History) → length (carried h) ≤ length h
carried_few [] = omega arith
carried_few (e ∷ h) = by (is_carried e) (carried_few h)
  where
    by : (b : Bool) → length (carried h) ≤ length h → length (if b then e ∷ carried h else carried h) ≤ suc (length h)
    by true le = omega (arith, le)
    by false le = omega (arith, le)

-- as many packets have entered as there are entries that they carry
pub few_packets : (plan : Plan) (s : State) → IsReached plan s → (h : Holds plan s) → length (entered h.now) ≤ item_count plan
few_packets plan s reached h =
    omega (arith, as_many_carried plan (client_at s) (desk_at h.now) 0 (hot_cells plan) (carried s.history) (entered h.now) h.ties.carried_ones, carried_few s.history, few_entries plan s reached)

pub few_flights : (plan : Plan) (s : State) (now : Switch) → IsReached plan s → s.switch ≡ Some now → length now.flights ≤ item_count plan
few_flights plan s now reached up =
    let h = holds_up plan s reached now up in
    let same : now ≡ h.now = same_switch up h.up in
    omega (arith, ap (λ (n : Switch). length n.flights) same, length-map h.now.flights (λ (f : Flight). f.packet), few_packets plan s reached h)

-- ---- tasks of the clients' logs

length-tasks_from : (client k : ℕ) (intents : List PlainIntent) (outcomes : List PlainOutcome) → length (tasks_from client k intents outcomes) ≡ length intents
length-tasks_from client k [] outcomes = refl
length-tasks_from client k (intent ∷ intents) [] = ap suc (length-tasks_from client (k + 1) intents [])
length-tasks_from client k (intent ∷ intents) (outcome ∷ outcomes) = ap suc (length-tasks_from client (k + 1) intents outcomes)

few_behind : (client : ℕ) (logs : List Records) (lists : List (List PlainItem)) → length logs ≡ length lists → ((c : ℕ) → length (get_or logs c no_records).intents ≤ length (get_or lists c [])) → length (tasks_behind client (plain_logs logs)) ≤ sum_by length lists
few_behind client [] lists same few = omega arith
few_behind client (log ∷ logs) [] same few = absurd (omega (arith, same))
few_behind client (log ∷ logs) (items ∷ lists) same few =
    omega (arith, length-append (tasks_from client 0 log.intents log.outcomes) (tasks_behind (client + 1) (plain_logs logs)), length-tasks_from client 0 log.intents log.outcomes, few 0, few_behind (client + 1) logs lists (omega (arith, same)) (λ c. few (suc c)), sum_by-cons length items lists)

-- there are no more than items
pub few_tasks : (plan : Plan) (s : State) → IsReached plan s → length (tasks_of (plain_logs s.logs)) ≤ item_count plan
few_tasks plan s reached = few_behind 0 s.logs plan.clients (logs_stay plan s reached ∙ clients_stay plan s reached) (λ c. (few_records plan s c reached).0)
