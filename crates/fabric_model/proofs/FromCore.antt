-- Lemmas on clients, items and lists.
use Rattle.std.proofs.Common.{◌≡◌, ◌≢◌, ◌⊎◌, ℕ, zero, suc, ◌+◌, ◌*◌, ◌<◌, ◌≤◌, ◌==◌, ◌&&◌, ◌||◌, nat_lt, nat_le, Bool, true, false, List, [], ◌∷◌, ◌++◌, append-nil, append_assoc, map, filter, length, drop, get_or, slice_get, Some, inl, inr, refl, sym, ap, subst, ◌∙◌, arith, if◌then◌else◌, eq-or-lt_of_le, Less}
use Rattle.std.specs.List.{list_all, list_any, AllByRecursion}
use Rattle.std.proofs.lemmas.Bool.Decides.{nat_tests}
use Rattle.txn_model.specs.declared.stamp.Seen.{Seen}
use Rattle.history_model.specs.History.{HistoryEntry, History, IsInStampOrder, entry_cmp, with_entry}
use Rattle.history_model.specs.InOrder.{seqs_of}
use Rattle.catalogue.specs.Plan.{Plan, PlainItem, items_of}
use Rattle.catalogue.specs.declared.actor.Actor.{Actor}
use Rattle.core_model.specs.declared.phase.Phase.{Phase}
use Rattle.core_model.specs.declared.phase.Phase.TheVariants.{Ready, Locking, Aborting, Logged, Waiting, Installing, Finished}
use Rattle.core_model.specs.declared.refusal.Refusal.{Refusal}
use Rattle.core_model.specs.Ends.{refused_times}
use Rattle.core_model.specs.Laws.{IsAscending}
use Rattle.core_model.specs.Rota.{is_finished, has_finished, rota, rotas}
use Rattle.core_model.specs.Run.{first_clients}
use Rattle.core_model.specs.StampOrder.{Below}
use Rattle.core_model.specs.State.{ClientState, at_item, zero_stamp}
use Rattle.core_model.specs.Step.{aborting, try_ended, next_item, installed_one}
use Rattle.core_model.proofs.Driven.{Unfinished}
use Rattle.core_model.proofs.Ended.{Ends, begun}
use Rattle.core_model.proofs.Entries.{placed, not_behind}
use Rattle.core_model.proofs.StepsOf.{all_append, all_behind}
use Rattle.core_model.proofs.Stuck.{IsPresent}

-- ---- clients that are present

pub present_at : (plan : Plan) (c seq : ℕ) (x : ClientState) → 1 ≤ plan.tries → 1 ≤ seq → IsPresent plan c (at_item (length (items_of plan c)) seq x.last)
present_at plan c seq x tries one active = by (nat_le seq (length (items_of plan c))) refl active
  where
    within : (a b : ℕ) → nat_le a b ≡ true → a ≤ b
    within a b t = grind (arith, nat_tests)

    by : (b : Bool) → nat_le seq (length (items_of plan c)) ≡ b → (if b then Ready else Finished) ≢ Finished → (1 ≤ seq) × (seq ≤ length (items_of plan c)) × (0 < plan.tries)
    by true is n = (one, within seq (length (items_of plan c)) is, tries)
    by false is n = absurd (n refl)

pub present_again : (plan : Plan) (c : ℕ) (x : ClientState) → (1 ≤ x.seq) × (x.seq ≤ length (items_of plan c)) × (x.refused < plan.tries) → IsPresent plan c (try_ended plan c x)
present_again plan c x at = by (x.refused + 1 == plan.tries) refl
  where
    tries : 1 ≤ plan.tries
    tries = omega (arith, at.2)

    below : (r n : ℕ) → r < n → (r + 1 == n) ≡ false → r + 1 < n
    below r n lt e = grind (arith, nat_tests)

    by : (b : Bool) → (x.refused + 1 == plan.tries) ≡ b → IsPresent plan c (if b then next_item plan c x else record { phase = Ready; seq = x.seq; refused = x.refused + 1; noted = []; installed = 0; last = x.last; reply = [] })
    by true e = present_at plan c (x.seq + 1) x tries (omega arith)
    by false e = λ _. (at.0, at.1, below x.refused plan.tries at.2 e)

pub present_aborting : (plan : Plan) (c : ℕ) (x : ClientState) (front : List Seen) → (1 ≤ x.seq) × (x.seq ≤ length (items_of plan c)) × (x.refused < plan.tries) → IsPresent plan c (aborting plan c x front)
present_aborting plan c x [] at = present_again plan c x at
present_aborting plan c x (seen ∷ others) at = λ _. at

pub present_installed : (plan : Plan) (c : ℕ) (x : ClientState) (all : ℕ) → (1 ≤ x.seq) × (x.seq ≤ length (items_of plan c)) × (x.refused < plan.tries) → IsPresent plan c (installed_one plan c x all)
present_installed plan c x all at = by (x.installed + 1 == all)
  where
    by : (b : Bool) → IsPresent plan c (if b then next_item plan c x else record x { installed = x.installed + 1 })
    by true = present_at plan c (x.seq + 1) x (omega (arith, at.2)) (omega arith)
    by false = λ _. at

pub lt_true : (a b : ℕ) → a < b → nat_lt a b ≡ true
lt_true a b lt = grind (arith, nat_tests)

-- ---- bounds

-- one try less
pub fewer_tries : (n w b : ℕ) → suc n * w + b ≡ w + (n * w + b)
fewer_tries n w b = grind arith

-- where a try is left, there are at least as many moves as its last try takes
pub last_try : (n w b : ℕ) → b ≤ n * w + b
last_try n w b = omega arith

-- the item behind those that are dropped
pub dropped : (items : List PlainItem) (k : ℕ) → k < length items → (item : PlainItem) × (slice_get items k ≡ Some item) × (drop k items ≡ item ∷ drop (suc k) items)
dropped [] k lt = absurd (omega arith)
dropped (item ∷ items) zero lt = (item, refl, refl)
dropped (item ∷ items) (suc k) lt = dropped items k (omega arith)

pub times_up : (a b m : ℕ) → a ≤ b → a * m ≤ b * m
times_up a b m le = grind arith

-- ---- entries in their order

pub seqs_of-append : (c : ℕ) (a b : History) → seqs_of c (a ++ b) ≡ seqs_of c a ++ seqs_of c b
seqs_of-append c [] b = refl
seqs_of-append c (e ∷ a) b = by (e.entry.client == c) (filter (λ f. f.entry.client == c) (a ++ b)) (filter (λ f. f.entry.client == c) a) (seqs_of-append c a b)
  where
    by : (t : Bool) (x y : History) → map (λ f. f.entry.seq) x ≡ map (λ f. f.entry.seq) y ++ seqs_of c b → map (λ f. f.entry.seq) (if t then e ∷ x else x) ≡ map (λ f. f.entry.seq) (if t then e ∷ y else y) ++ seqs_of c b
    by true x y h = ap (λ (l : List ℕ). e.entry.seq ∷ l) h
    by false x y h = h

pub itself : (n : ℕ) → (n == n) ≡ true
itself n = grind arith

pub another : (a b : ℕ) → a ≢ b → (a == b) ≡ false
another a b n = grind arith

pub seqs_of-own : (c : ℕ) (e : HistoryEntry) (h : History) → e.entry.client ≡ c → seqs_of c (e ∷ h) ≡ e.entry.seq ∷ seqs_of c h
seqs_of-own c e h is = ap (λ (b : Bool). map (λ f. f.entry.seq) (if b then e ∷ filter (λ f. f.entry.client == c) h else filter (λ f. f.entry.client == c) h)) (ap (λ (n : ℕ). n == c) is ∙ itself c)

pub seqs_of-other : (c : ℕ) (e : HistoryEntry) (h : History) → e.entry.client ≢ c → seqs_of c (e ∷ h) ≡ seqs_of c h
seqs_of-other c e h is = ap (λ (b : Bool). map (λ f. f.entry.seq) (if b then e ∷ filter (λ f. f.entry.client == c) h else filter (λ f. f.entry.client == c) h)) (another e.entry.client c is)

-- none of these entries is the client's
pub none_of : (c : ℕ) (h : History) → AllByRecursion (λ f. f.entry.client ≢ c) h → seqs_of c h ≡ []
none_of c [] all = refl
none_of c (f ∷ h) all = seqs_of-other c f h all.0 ∙ none_of c h all.1

-- an entry above all of its client's comes behind them
pub own_last : (c : ℕ) (e : HistoryEntry) (h : History) → IsInStampOrder h → e.entry.client ≡ c → AllByRecursion (λ f. f.entry.client ≡ c → Below f.entry.stamp e.entry.stamp) h → seqs_of c (with_entry e h) ≡ seqs_of c h ++ e.entry.seq ∷ []
own_last c e h sorted is below =
    let at = placed e h sorted in
    let behind : seqs_of c at.behind ≡ [] = none_of c at.behind (none at.behind at.above (all_behind (λ f. f.entry.client ≡ c → Below f.entry.stamp e.entry.stamp) at.before at.behind (subst (AllByRecursion (λ f. f.entry.client ≡ c → Below f.entry.stamp e.entry.stamp)) at.whole below))) in
    ap (seqs_of c) at.new ∙ seqs_of-append c at.before (e ∷ at.behind) ∙ ap (λ (l : List ℕ). seqs_of c at.before ++ l) (seqs_of-own c e at.behind is ∙ ap (λ (l : List ℕ). e.entry.seq ∷ l) behind)
    ∙ ap (λ (l : List ℕ). l ++ e.entry.seq ∷ []) (sym (ap (seqs_of c) at.whole ∙ seqs_of-append c at.before at.behind ∙ ap (λ (l : List ℕ). seqs_of c at.before ++ l) behind ∙ append-nil (seqs_of c at.before)))
  where
    none : (l : History) → AllByRecursion (λ f. entry_cmp e.entry f.entry ≡ Less) l → AllByRecursion (λ f. f.entry.client ≡ c → Below f.entry.stamp e.entry.stamp) l → AllByRecursion (λ f. f.entry.client ≢ c) l
    none [] above low = tt
    none (f ∷ l) above low = (λ own. not_behind e.entry f.entry (low.0 own) above.0, none l above.1 low.1)

pub others_same : (d : ℕ) (e : HistoryEntry) (h : History) → IsInStampOrder h → e.entry.client ≢ d → seqs_of d (with_entry e h) ≡ seqs_of d h
others_same d e h sorted is =
    let at = placed e h sorted in
    ap (seqs_of d) at.new ∙ seqs_of-append d at.before (e ∷ at.behind) ∙ ap (λ (l : List ℕ). seqs_of d at.before ++ l) (seqs_of-other d e at.behind is)
    ∙ sym (ap (seqs_of d) at.whole ∙ seqs_of-append d at.before at.behind)

pub ascending_last : (l : List ℕ) (n : ℕ) → IsAscending l → AllByRecursion (λ q. q < n) l → IsAscending (l ++ n ∷ [])
ascending_last [] n up low = (tt, tt)
ascending_last (m ∷ l) n up low = (all_append (λ q. m < q) l (n ∷ []) up.0 (low.0, tt), ascending_last l n up.1 low.1)

-- ---- ends

-- the next item, where the present one has ended
pub next_ends : (plan : Plan) (c : ℕ) (x : ClientState) (has : ℕ → Bool) (times : ℕ → ℕ)
    → ((q : ℕ) → 1 ≤ q → q < x.seq → (has q ≡ true) ⊎ ((times q ≡ plan.tries) × (has q ≡ false))) → ((q : ℕ) → x.seq < q → times q ≡ 0)
    → (has x.seq ≡ true) ⊎ ((times x.seq ≡ plan.tries) × (has x.seq ≡ false)) → Ends plan.tries (next_item plan c x) has times
next_ends plan c x has times past later ended =
    let start = begun (length (items_of plan c)) (x.seq + 1) x in
    record {
      past = λ q one lt. either q one (before q lt);
      later = λ q lt. later q (omega arith);
      now = λ _. omega (arith, later (x.seq + 1) (omega arith), start.1);
      decided = λ i. absurd (start.0 i);
    }
  where
    before : (q : ℕ) → q < x.seq + 1 → (q ≡ x.seq) ⊎ (q < x.seq)
    before q lt = eq-or-lt_of_le (omega arith)

    either : (q : ℕ) → 1 ≤ q → (q ≡ x.seq) ⊎ (q < x.seq) → (has q ≡ true) ⊎ ((times q ≡ plan.tries) × (has q ≡ false))
    either q one (inl e) = subst (λ (n : ℕ). (has n ≡ true) ⊎ ((times n ≡ plan.tries) × (has n ≡ false))) (sym e) ended
    either q one (inr less) = past q one less

pub fresh_ends : (tries items : ℕ) → Ends tries (at_item items 1 zero_stamp) (λ q. false) (λ q. 0)
fresh_ends tries items =
    let start = begun items 1 (at_item 0 1 zero_stamp) in
    record { past = λ q one lt. absurd (omega arith); later = λ q lt. refl; now = λ _. omega (arith, start.1); decided = λ i. absurd (start.0 i) }

-- a try that ends, where the refusals of the item are one more than its refused tries before
pub try_ends : (plan : Plan) (c : ℕ) (x : ClientState) (has : ℕ → Bool) (times : ℕ → ℕ)
    → ((q : ℕ) → 1 ≤ q → q < x.seq → (has q ≡ true) ⊎ ((times q ≡ plan.tries) × (has q ≡ false))) → ((q : ℕ) → x.seq < q → times q ≡ 0)
    → times x.seq ≡ x.refused + 1 → has x.seq ≡ false → Ends plan.tries (try_ended plan c x) has times
try_ends plan c x has times past later count none = by (x.refused + 1 == plan.tries) refl
  where
    equal : (a b : ℕ) → (a == b) ≡ true → a ≡ b
    equal a b e = grind (arith, nat_tests)

    by : (b : Bool) → (x.refused + 1 == plan.tries) ≡ b → Ends plan.tries (if b then next_item plan c x else record { phase = Ready; seq = x.seq; refused = x.refused + 1; noted = []; installed = 0; last = x.last; reply = [] }) has times
    by true e = next_ends plan c x has times past later (inr (count ∙ equal (x.refused + 1) plan.tries e, none))
    by false e = record { past = past; later = later; now = λ _. omega (arith, count); decided = λ i. cc }

pub abort_ends : (plan : Plan) (c : ℕ) (x : ClientState) (front : List Seen) (has : ℕ → Bool) (times : ℕ → ℕ)
    → ((q : ℕ) → 1 ≤ q → q < x.seq → (has q ≡ true) ⊎ ((times q ≡ plan.tries) × (has q ≡ false))) → ((q : ℕ) → x.seq < q → times q ≡ 0)
    → times x.seq ≡ x.refused + 1 → has x.seq ≡ false → Ends plan.tries (aborting plan c x front) has times
abort_ends plan c x [] has times past later count none = try_ends plan c x has times past later count none
abort_ends plan c x (seen ∷ others) has times past later count none = record { past = past; later = later; now = λ _. count; decided = λ i. cc }

pub install_ends : (plan : Plan) (c : ℕ) (x : ClientState) (all : ℕ) (has : ℕ → Bool) (times : ℕ → ℕ) → x.phase ≡ Installing → Ends plan.tries x has times → Ends plan.tries (installed_one plan c x all) has times
install_ends plan c x all has times is ends = by (x.installed + 1 == all)
  where
    by : (b : Bool) → Ends plan.tries (if b then next_item plan c x else record x { installed = x.installed + 1 }) has times
    by true = next_ends plan c x has times ends.past ends.later (inl (ends.decided is))
    by false = record { past = ends.past; later = ends.later; now = ends.now; decided = ends.decided }

-- the same facts of functions that answer alike
pub ends_as : (tries : ℕ) (x : ClientState) (has has_now : ℕ → Bool) (times times_now : ℕ → ℕ) → ((q : ℕ) → has_now q ≡ has q) → ((q : ℕ) → times_now q ≡ times q) → Ends tries x has times → Ends tries x has_now times_now
ends_as tries x has has_now times times_now same_has same_times ends = record {
  past = λ q one lt. elim (ends.past q one lt) [
    | inl e ↦ inl (same_has q ∙ e)
    | inr p ↦ inr (same_times q ∙ p.0, same_has q ∙ p.1)
  ];
  later = λ q lt. same_times q ∙ ends.later q lt;
  now = λ n. same_times x.seq ∙ ends.now n;
  decided = λ i. same_has x.seq ∙ ends.decided i;
}

-- one more refusal
pub times_one : (c q : ℕ) (rs : List Refusal) (r : Refusal) → refused_times c q (rs ++ r ∷ []) ≡ refused_times c q rs + (if r.client == c && r.seq == q then 1 else 0)
times_one c q [] r = by (r.client == c && r.seq == q)
  where
    by : (b : Bool) → length (if b then r ∷ [] else []) ≡ 0 + (if b then 1 else 0)
    by true = refl
    by false = refl
times_one c q (p ∷ rs) r = by (p.client == c && p.seq == q) (times_one c q rs r)
  where
    by : (b : Bool) → refused_times c q (rs ++ r ∷ []) ≡ refused_times c q rs + (if r.client == c && r.seq == q then 1 else 0)
        → length (if b then p ∷ filter (λ x. x.client == c && x.seq == q) (rs ++ r ∷ []) else filter (λ x. x.client == c && x.seq == q) (rs ++ r ∷ [])) ≡ length (if b then p ∷ filter (λ x. x.client == c && x.seq == q) rs else filter (λ x. x.client == c && x.seq == q) rs) + (if r.client == c && r.seq == q then 1 else 0)
    by true e = omega (arith, e)
    by false e = e

pub times_own : (c q : ℕ) (rs : List Refusal) (r : Refusal) → r.client ≡ c → r.seq ≡ q → refused_times c q (rs ++ r ∷ []) ≡ refused_times c q rs + 1
times_own c q rs r client seq = times_one c q rs r ∙ ap (λ (b : Bool). refused_times c q rs + (if b then 1 else 0)) (both r.client c r.seq q client seq)
  where
    both : (a b m n : ℕ) → a ≡ b → m ≡ n → (a == b && m == n) ≡ true
    both a b m n e f = grind (arith, nat_tests)

pub times_other : (c q : ℕ) (rs : List Refusal) (r : Refusal) → (r.client ≢ c) ⊎ (r.seq ≢ q) → refused_times c q (rs ++ r ∷ []) ≡ refused_times c q rs
times_other c q rs r apart = times_one c q rs r ∙ ap (λ (b : Bool). refused_times c q rs + (if b then 1 else 0)) (either apart) ∙ nothing (refused_times c q rs)
  where
    differ : (a b : ℕ) → a ≢ b → (a == b) ≡ false
    differ a b n = grind arith

    either : (r.client ≢ c) ⊎ (r.seq ≢ q) → (r.client == c && r.seq == q) ≡ false
    either (inl n) = ap (λ (b : Bool). b && r.seq == q) (differ r.client c n)
    either (inr n) = ap (λ (b : Bool). r.client == c && b) (differ r.seq q n) ∙ never (r.client == c)
      where
        never : (b : Bool) → (b && false) ≡ false
        never true = refl
        never false = refl

    nothing : (n : ℕ) → n + 0 ≡ n
    nothing n = omega arith

-- an entry more
pub any_last : (l : List ℕ) (n q : ℕ) → list_any (λ p. p == q) (l ++ n ∷ []) ≡ (list_any (λ p. p == q) l || n == q)
any_last [] n q = by (n == q)
  where
    by : (b : Bool) → (b || false) ≡ (false || b)
    by true = refl
    by false = refl
any_last (m ∷ l) n q = ap (λ (b : Bool). m == q || b) (any_last l n q) ∙ by (m == q) (list_any (λ p. p == q) l) (n == q)
  where
    by : (a b d : Bool) → (a || (b || d)) ≡ ((a || b) || d)
    by true b d = refl
    by false b d = refl

pub first_ends : (tries : ℕ) (lists : List (List PlainItem)) (d : ℕ) → Ends tries (get_or (first_clients lists) d (at_item 0 1 zero_stamp)) (λ q. false) (λ q. 0)
first_ends tries [] d = fresh_ends tries 0
first_ends tries (items ∷ lists) zero = fresh_ends tries (length items)
first_ends tries (items ∷ lists) (suc d) = first_ends tries lists d

-- ---- driven runs

pub finished_phase : (p : Phase) → is_finished p ≡ true → p ≡ Finished
finished_phase Ready e = cc
finished_phase Locking e = cc
finished_phase Aborting e = cc
finished_phase Logged e = cc
finished_phase Waiting e = cc
finished_phase Installing e = cc
finished_phase Finished e = refl

pub all_from_test : (clients : List ClientState) → list_all has_finished clients ≡ true → AllByRecursion (λ client. client.phase ≡ Finished) clients
all_from_test [] e = tt
all_from_test (x ∷ clients) e = let parts = both (has_finished x) (list_all has_finished clients) e in (finished_phase x.phase parts.0, all_from_test clients parts.1)
  where
    both : (a b : Bool) → (a && b) ≡ true → (a ≡ true) × (b ≡ true)
    both true b e = (refl, e)
    both false b e = cc

pub test_from_all : (clients : List ClientState) → AllByRecursion (λ client. client.phase ≡ Finished) clients → list_all has_finished clients ≡ true
test_from_all [] all = refl
test_from_all (x ∷ clients) all = ap (λ (p : Phase). is_finished p && list_all has_finished clients) all.0 ∙ test_from_all clients all.1

pub some_unfinished : (clients : List ClientState) → list_all has_finished clients ≡ false → Unfinished clients
some_unfinished [] e = cc
some_unfinished (x ∷ clients) e = by (has_finished x) refl e (some_unfinished clients)
  where
    open_phase : is_finished x.phase ≡ false → x.phase ≢ Finished
    open_phase is same = let clash : true ≡ false = ap is_finished (sym same) ∙ is in cc

    by : (b : Bool) → has_finished x ≡ b → (b && list_all has_finished clients) ≡ false → (list_all has_finished clients ≡ false → Unfinished clients) → Unfinished (x ∷ clients)
    by true is none later = let rest = later none in record { client = suc rest.client; within = omega (arith, rest.within); active = rest.active }
    by false is none later = record { client = 0; within = omega arith; active = open_phase is }

pub rotas-add : (plan : Plan) (n more : ℕ) → rotas plan (n + more) ≡ rotas plan n ++ rotas plan more
rotas-add plan zero more = ap (rotas plan) {x = 0 + more} {y = more} (omega arith)
rotas-add plan (suc n) more = ap (rotas plan) {x = suc n + more} {y = suc (n + more)} (omega arith) ∙ ap (λ (l : List Actor). rota plan ++ l) (rotas-add plan n more) ∙ sym (append_assoc (rota plan) (rotas plan n) (rotas plan more))

-- ---- entries of one client

-- what holds of the numbers of a client's entries
pub each_seq : (P : ℕ → Type 0) (c : ℕ) (h : History) → AllByRecursion P (seqs_of c h) → AllByRecursion (λ e. e.entry.client ≡ c → P e.entry.seq) h
each_seq P c [] all = tt
each_seq P c (e ∷ h) all = by (e.entry.client == c) refl all (each_seq P c h)
  where
    clash : (a b : ℕ) → (a == b) ≡ false → a ≡ b → ⊥
    clash a b n e = grind arith

    by : (b : Bool) → (e.entry.client == c) ≡ b → AllByRecursion P (map (λ f. f.entry.seq) (if b then e ∷ filter (λ f. f.entry.client == c) h else filter (λ f. f.entry.client == c) h)) → (AllByRecursion P (seqs_of c h) → AllByRecursion (λ f. f.entry.client ≡ c → P f.entry.seq) h) → (e.entry.client ≡ c → P e.entry.seq) × AllByRecursion (λ f. f.entry.client ≡ c → P f.entry.seq) h
    by true is all rest = (λ own. all.0, rest all.1)
    by false is all rest = (λ own. absurd (clash e.entry.client c is own), rest all)
