-- The merge of clients' lists.
use Rattle.std.proofs.Common.{◌≡◌, ◌≢◌, ◌⊎◌, ℕ, zero, suc, ◌+◌, ◌<◌, ◌≤◌, ◌==◌, ◌&&◌, Bool, true, false, List, [], ◌∷◌, ◌++◌, length, map, filter, find, set, get_or, slice_get, Option, Some, None, option_and_then, IsSome, is_some, if◌then◌else◌, inl, inr, refl, sym, ap, ap₂, subst, ◌∙◌, arith, Ordering, Less, Equal, Greater, is_lt}
use Rattle.std.specs.List.{AllByRecursion}
use Rattle.std.specs.Ordering.{nat_cmp, ordering_then, ordering_reverse}
use Rattle.std.proofs.lemmas.Map.Lookups.{exact_unsigned}
use Rattle.std.proofs.lemmas.Bool.Decides.{nat_tests}
use Rattle.txn_model.specs.declared.pairs.Pair.{Pair}
use Rattle.history_model.specs.History.{HistoryEntry, History, IsInStampOrder, entry_cmp, stamp_cmp, with_entry}
use Rattle.history_model.specs.declared.entry.Entry.{Entry}
use Rattle.history_core.specs.Answers.{is_of_item, HasNone, HasNoneTwice, entries_of, entry_of, reply_of, with_reply, OnlyLastOpen, answered_ones}
use Rattle.history_core.specs.Own.{IsBefore, IsRising, IsOwn, AreOwnFrom, without_open}
use Rattle.history_core.specs.Plain.{Own}
use Rattle.history_core.specs.Merge.{with_entries, merged, all_entries}
use Rattle.history_core.proofs.Answered.{inserted}
use Rattle.history_core.proofs.WithEntry.{entry_cmp_total, less, IsBelowAll, IsApart, below_all, with_front, with_later, before_all, all-with_entry, length-with_entry, sorted-with_entry, swapped, all-filter, filter-with_entry}

-- one client's entries, which rise
pub record IsRun (client : ℕ) (es : History) : Type 0 where
  pub by : AllByRecursion (λ e. e.entry.client ≡ client) es
  pub rising : IsRising es

-- the lists are those of the clients from this one on
abbrev pub AreRunsFrom : ℕ → List History → Type 0
AreRunsFrom client [] = Unit {0}
AreRunsFrom client (es ∷ lists) = IsRun client es × AreRunsFrom (client + 1) lists

-- ---- lists of all entries

pub all_of : {X : Type 0} (P Q : X → Type 0) (xs : List X) → ((x : X) → P x → Q x) → AllByRecursion P xs → AllByRecursion Q xs
all_of P Q [] f all = tt
all_of P Q (x ∷ xs) f all = (f x all.0, all_of P Q xs f all.1)

pub both_of : {X : Type 0} (P Q R : X → Type 0) (xs : List X) → ((x : X) → P x → Q x → R x) → AllByRecursion P xs → AllByRecursion Q xs → AllByRecursion R xs
both_of P Q R [] f all also = tt
both_of P Q R (x ∷ xs) f all also = (f x all.0 also.0, both_of P Q R xs f all.1 also.1)

pub all_append : {X : Type 0} (P : X → Type 0) (xs ys : List X) → AllByRecursion P xs → AllByRecursion P ys → AllByRecursion P (xs ++ ys)
all_append P [] ys all also = also
all_append P (x ∷ xs) ys all also = (all.0, all_append P xs ys all.1 also)

module _ (P : HistoryEntry → Type 0) where
  pub all-with_entries : (es h : History) → AllByRecursion P es → AllByRecursion P h → AllByRecursion P (with_entries es h)
  all-with_entries [] h all also = also
  all-with_entries (e ∷ es) h all also = all-with_entry P e (with_entries es h) (all-with_entries es h all.1 also) all.0

  pub all-merged : (lists : List History) → AllByRecursion (AllByRecursion P) lists → AllByRecursion P (merged lists)
  all-merged [] all = tt
  all-merged (es ∷ lists) all = all-with_entries es (merged lists) all.0 (all-merged lists all.1)

-- ---- clients

-- a tie is one of one client
pub tie : (e f : Entry) → entry_cmp e f ≡ Equal → e.client ≡ f.client
tie e f is = by (stamp_cmp e.stamp f.stamp) is
  where
    by : (r : Ordering) → ordering_then r (nat_cmp e.client f.client) ≡ Equal → e.client ≡ f.client
    by Less is = cc
    by Equal is = exact_unsigned e.client f.client is
    by Greater is = cc

pub stamp_first : (e f : Entry) → stamp_cmp e.stamp f.stamp ≡ Less → entry_cmp e f ≡ Less
stamp_first e f is = ap (λ (r : Ordering). ordering_then r (nat_cmp e.client f.client)) is

abbrev IsBy : ℕ → HistoryEntry → Type 0
IsBy client e = e.entry.client ≡ client

-- other clients' entries don't tie
pub apart_from : (client : ℕ) (e : HistoryEntry) (h : History) → IsBy client e → AllByRecursion (λ f. client < f.entry.client) h → IsApart e h
apart_from client e h is later = all_of _ _ h (λ f lt tied. absurd (omega (arith, lt, is, tie e.entry f.entry tied))) later

pub apart_before : (client : ℕ) (e : HistoryEntry) (h : History) → client < e.entry.client → AllByRecursion (IsBy client) h → IsApart e h
apart_before client e h lt all = all_of _ _ h (λ f is tied. absurd (omega (arith, lt, is, tie e.entry f.entry tied))) all

-- later lists are of later clients
pub clients_from : (client : ℕ) (lists : List History) → AreRunsFrom client lists → AllByRecursion (AllByRecursion (λ e. client ≤ e.entry.client)) lists
clients_from client [] runs = tt
clients_from client (es ∷ lists) runs = (
  all_of _ _ es (λ e is. omega (arith, is)) runs.0.by,
  all_of _ _ lists (λ es later. all_of _ _ es (λ e le. omega (arith, le)) later) (clients_from (client + 1) lists runs.1),
)

pub behind : (client : ℕ) (lists : List History) → AreRunsFrom (client + 1) lists → AllByRecursion (λ f. client < f.entry.client) (merged lists)
behind client lists runs = all_of _ _ (merged lists) (λ e le. omega (arith, le)) (all-merged (λ e. client + 1 ≤ e.entry.client) lists (clients_from (client + 1) lists runs))

-- ---- order

pub below_rest : (e : HistoryEntry) (es : History) → AllByRecursion (IsBefore e) es → IsBelowAll e es
below_rest e es all = all_of (IsBefore e) _ es (λ f is. stamp_first e.entry f.entry is.stamp) all

pub less_apart : (e f : HistoryEntry) → entry_cmp e.entry f.entry ≡ Less → entry_cmp e.entry f.entry ≢ Equal
less_apart e f lt is = let clash : Less ≡ Equal = sym lt ∙ is in cc

pub sorted-with_entries : (client : ℕ) (es h : History) → IsRun client es → AllByRecursion (λ f. client < f.entry.client) h → IsInStampOrder h → IsInStampOrder (with_entries es h)
sorted-with_entries client [] h run later sorted = sorted
sorted-with_entries client (e ∷ es) h run later sorted =
    sorted-with_entry e (with_entries es h) (sorted-with_entries client es h (record { by = run.by.1; rising = run.rising.1 }) later sorted)
    (all-with_entries (λ f. entry_cmp e.entry f.entry ≢ Equal) es h (all_of _ _ es (λ f lt. less_apart e f lt) (below_rest e es run.rising.0)) (apart_from client e h run.by.0 later))

pub sorted-merged : (client : ℕ) (lists : List History) → AreRunsFrom client lists → IsInStampOrder (merged lists)
sorted-merged client [] runs = tt
sorted-merged client (es ∷ lists) runs = sorted-with_entries client es (merged lists) runs.0 (behind client lists runs.1) (sorted-merged (client + 1) lists runs.1)

-- a list that rises is already in order
pub rising_alone : (es : History) → IsRising es → with_entries es [] ≡ es
rising_alone [] rising = refl
rising_alone (e ∷ es) rising = ap (with_entry e) (rising_alone es rising.1) ∙ before_all e es (below_rest e es rising.0)

-- ---- an entry among others

pub with_entries-swap : (e : HistoryEntry) (es h : History) → IsApart e es → with_entries es (with_entry e h) ≡ with_entry e (with_entries es h)
with_entries-swap e [] h apart = refl
with_entries-swap e (f ∷ es) h apart = ap (with_entry f) (with_entries-swap e es h apart.1) ∙ sym (swapped e f (with_entries es h) apart.0)

pub with_entries-append : (es others h : History) → with_entries (es ++ others) h ≡ with_entries es (with_entries others h)
with_entries-append [] others h = refl
with_entries-append (e ∷ es) others h = ap (with_entry e) (with_entries-append es others h)

pub length-with_entries : (es h : History) → length (with_entries es h) ≡ length es + length h
length-with_entries [] h = omega arith
length-with_entries (e ∷ es) h = omega (arith, length-with_entry e (with_entries es h), length-with_entries es h)

some_same : {X : Type 0} (x y : X) → Some x ≡ Some y → x ≡ y
some_same x y e = cc

pub run_at : (client : ℕ) (lists : List History) → AreRunsFrom client lists → (at : ℕ) (es : History) → slice_get lists at ≡ Some es → IsRun (client + at) es
run_at client [] runs at es is = cc
run_at client (l ∷ lists) runs zero es is = let P : History → Type 0 = λ k. IsRun (client + zero) k in subst P (some_same l es is) (subst (λ (n : ℕ). IsRun n l) {x = client} {y = client + zero} (omega arith) runs.0)
run_at client (l ∷ lists) runs (suc at) es is = subst (λ (n : ℕ). IsRun n es) {x = (client + 1) + at} {y = client + suc at} (omega arith) (run_at (client + 1) lists runs.1 at es is)

-- the first entry of one list can be put in behind all others
pub taken_first : (client : ℕ) (lists : List History) → AreRunsFrom client lists → (at : ℕ) (e : HistoryEntry) (es : History) → slice_get lists at ≡ Some (e ∷ es) → merged lists ≡ with_entry e (merged (set lists at es))
taken_first client [] runs at e es is = cc
taken_first client (l ∷ lists) runs zero e es is = ap (λ (k : History). with_entries k (merged lists)) (some_same l (e ∷ es) is)
taken_first client (l ∷ lists) runs (suc at) e es is =
    let own = (run_at (client + 1) lists runs.1 at (e ∷ es) is).by.0 in
    ap (with_entries l) (taken_first (client + 1) lists runs.1 at e es is)
    ∙ with_entries-swap e l (merged (set lists at es)) (apart_before client e l (omega (arith, own)) runs.0.by)

-- an entry that is added to its client's list is put in
pub added : (client : ℕ) (lists : List History) → AreRunsFrom client lists → (at : ℕ) (e : HistoryEntry) (es : History) → slice_get lists at ≡ Some es → IsBy (client + at) e → IsApart e es
    → merged (set lists at (es ++ e ∷ [])) ≡ with_entry e (merged lists)
added client [] runs at e es is own apart = cc
added client (l ∷ lists) runs zero e es is own apart =
    with_entries-append es (e ∷ []) (merged lists) ∙ with_entries-swap e es (merged lists) apart ∙ ap (λ (k : History). with_entry e (with_entries k (merged lists))) (sym (some_same l es is))
added client (l ∷ lists) runs (suc at) e es is own apart =
    ap (with_entries l) (added (client + 1) lists runs.1 at e es is (omega (arith, own)) apart)
    ∙ with_entries-swap e l (merged lists) (apart_before client e l (omega (arith, own)) runs.0.by)

-- ---- answers

another : (a b : ℕ) → a ≢ b → (a == b) ≡ false
another a b n = grind arith

pub not_its : (client seq : ℕ) (e : HistoryEntry) → e.entry.client ≢ client → is_of_item client seq e ≡ false
not_its client seq e other = ap (λ (b : Bool). b && (e.entry.seq == seq)) (another e.entry.client client other)

pub not_this : (client seq : ℕ) (e : HistoryEntry) → e.entry.seq ≢ seq → is_of_item client seq e ≡ false
not_this client seq e other = by (e.entry.client == client) (another e.entry.seq seq other)
  where
    by : (b : Bool) → (e.entry.seq == seq) ≡ false → (b && (e.entry.seq == seq)) ≡ false
    by true isnt = isnt
    by false isnt = refl

module _ (client seq : ℕ) (pairs : List Pair) where
  abbrev replied : HistoryEntry → HistoryEntry
  replied f = record { entry = f.entry; pairs = Some pairs }

  passes : (e : HistoryEntry) (h : History) → is_of_item client seq e ≡ false → with_reply client seq pairs (e ∷ h) ≡ e ∷ with_reply client seq pairs h
  passes e h isnt = ap (λ (b : Bool). if b then replied e ∷ h else e ∷ with_reply client seq pairs h) isnt

  -- to answer an item leaves where other entries stand
  reply-with_entry : (e : HistoryEntry) (h : History) → is_of_item client seq e ≡ false → with_reply client seq pairs (with_entry e h) ≡ with_entry e (with_reply client seq pairs h)
  reply-with_entry e [] isnt = passes e [] isnt
  reply-with_entry e (f ∷ h) isnt = by (is_lt (entry_cmp e.entry f.entry)) (is_of_item client seq f) (reply-with_entry e h isnt) refl refl
    where
      by : (b d : Bool) → with_reply client seq pairs (with_entry e h) ≡ with_entry e (with_reply client seq pairs h) → is_lt (entry_cmp e.entry f.entry) ≡ b → is_of_item client seq f ≡ d → with_reply client seq pairs (with_entry e (f ∷ h)) ≡ with_entry e (with_reply client seq pairs (f ∷ h))
      by true true rest is its =
          ap (with_reply client seq pairs) (with_front e f h is) ∙ passes e (f ∷ h) isnt
          ∙ ap (λ (d : Bool). e ∷ (if d then replied f ∷ h else f ∷ with_reply client seq pairs h)) its
          ∙ sym (ap (λ (d : Bool). with_entry e (if d then replied f ∷ h else f ∷ with_reply client seq pairs h)) its ∙ with_front e (replied f) h is)
      by true false rest is its =
          ap (with_reply client seq pairs) (with_front e f h is) ∙ passes e (f ∷ h) isnt ∙ ap (λ (k : History). e ∷ k) (passes f h its)
          ∙ sym (ap (with_entry e) (passes f h its) ∙ with_front e f (with_reply client seq pairs h) is)
      by false true rest is its =
          ap (with_reply client seq pairs) (with_later e f h is)
          ∙ ap (λ (d : Bool). if d then replied f ∷ with_entry e h else f ∷ with_reply client seq pairs (with_entry e h)) its
          ∙ sym (ap (λ (d : Bool). with_entry e (if d then replied f ∷ h else f ∷ with_reply client seq pairs h)) its ∙ with_later e (replied f) h is)
      by false false rest is its =
          ap (with_reply client seq pairs) (with_later e f h is) ∙ passes f (with_entry e h) its ∙ ap (λ (k : History). f ∷ k) rest
          ∙ sym (ap (with_entry e) (passes f h its) ∙ with_later e f (with_reply client seq pairs h) is)

  reply-with_entries : (es h : History) → HasNone client seq es → with_reply client seq pairs (with_entries es h) ≡ with_entries es (with_reply client seq pairs h)
  reply-with_entries [] h none = refl
  reply-with_entries (e ∷ es) h none = reply-with_entry e (with_entries es h) none.0 ∙ ap (with_entry e) (reply-with_entries es h none.1)

pub none_of_others : (client other seq : ℕ) (es : History) → other ≢ client → AllByRecursion (IsBy other) es → HasNone client seq es
none_of_others client other seq es apart all = all_of (IsBy other) _ es (λ e is. not_its client seq e (λ its. apart (sym is ∙ its))) all

pub none_behind : (client seq : ℕ) (h : History) → AllByRecursion (λ f. client < f.entry.client) h → HasNone client seq h
none_behind client seq h later = all_of _ _ h (λ e lt. not_its client seq e (λ its. absurd (omega (arith, lt, its)))) later

-- the last entry of a list is answered
pub answered_last : (client : ℕ) (lists : List History) → AreRunsFrom client lists → (at : ℕ) (entry : Entry) (pairs : List Pair) (before : History) → slice_get lists at ≡ Some (before ++ record { entry = entry; pairs = None } ∷ [])
    → entry.client ≡ client + at → HasNone entry.client entry.seq before
    → merged (set lists at (before ++ record { entry = entry; pairs = Some pairs } ∷ [])) ≡ with_reply entry.client entry.seq pairs (merged lists)
answered_last client [] runs at entry pairs before is own none = cc
answered_last client (l ∷ lists) runs zero entry pairs before is own none =
    with_entries-append before _ (merged lists)
    ∙ ap (with_entries before) (sym (inserted entry pairs (merged lists) (subst (λ (n : ℕ). HasNone n entry.seq (merged lists)) {x = client} {y = entry.client} (omega (arith, own)) (none_behind client entry.seq (merged lists) (behind client lists runs.1)))))
    ∙ sym (reply-with_entries entry.client entry.seq pairs before (with_entry (record { entry = entry; pairs = None }) (merged lists)) none)
    ∙ ap (with_reply entry.client entry.seq pairs) (sym (with_entries-append before _ (merged lists)) ∙ ap (λ (k : History). with_entries k (merged lists)) (sym (some_same l _ is)))
answered_last client (l ∷ lists) runs (suc at) entry pairs before is own none =
    ap (with_entries l) (answered_last (client + 1) lists runs.1 at entry pairs before is (omega (arith, own)) none)
    ∙ sym (reply-with_entries entry.client entry.seq pairs l (merged lists) (none_of_others entry.client client entry.seq l (λ e. absurd (omega (arith, own, e))) runs.0.by))

-- ---- entries that pass a test

module _ (p : HistoryEntry → Bool) where
  filter-with_entries : (client : ℕ) (es h : History) → IsRun client es → AllByRecursion (λ f. client < f.entry.client) h → IsInStampOrder h → filter p (with_entries es h) ≡ with_entries (filter p es) (filter p h)
  filter-with_entries client [] h run later sorted = refl
  filter-with_entries client (e ∷ es) h run later sorted =
      filter-with_entry p e (with_entries es h) (sorted-with_entries client es h (rest run) later sorted)
      ∙ ap (λ (k : History). if p e then with_entry e k else k) (filter-with_entries client es h (rest run) later sorted)
      ∙ by (p e)
    where
      rest : IsRun client (e ∷ es) → IsRun client es
      rest r = record { by = r.by.1; rising = r.rising.1 }

      by : (b : Bool) → (if b then with_entry e (with_entries (filter p es) (filter p h)) else with_entries (filter p es) (filter p h)) ≡ with_entries (if b then e ∷ filter p es else filter p es) (filter p h)
      by true = refl
      by false = refl

  pub filter-merged : (client : ℕ) (lists : List History) → AreRunsFrom client lists → filter p (merged lists) ≡ merged (map (filter p) lists)
  filter-merged client [] runs = refl
  filter-merged client (es ∷ lists) runs =
      filter-with_entries client es (merged lists) runs.0 (behind client lists runs.1) (sorted-merged (client + 1) lists runs.1) ∙ ap (with_entries (filter p es)) (filter-merged (client + 1) lists runs.1)

-- ---- one client's entries

all_pass : (p : HistoryEntry → Bool) (es : History) → AllByRecursion (λ e. p e ≡ true) es → filter p es ≡ es
all_pass p [] all = refl
all_pass p (e ∷ es) all = ap (λ (b : Bool). if b then e ∷ filter p es else filter p es) all.0 ∙ ap (λ (k : History). e ∷ k) (all_pass p es all.1)

none_pass : (p : HistoryEntry → Bool) (es : History) → AllByRecursion (λ e. p e ≡ false) es → filter p es ≡ []
none_pass p [] all = refl
none_pass p (e ∷ es) all = ap (λ (b : Bool). if b then e ∷ filter p es else filter p es) all.0 ∙ none_pass p es all.1

itself : (a b : ℕ) → a ≡ b → (a == b) ≡ true
itself a b e = grind arith

pub entries_of-merged : (client : ℕ) (lists : List History) → AreRunsFrom client lists → (at : ℕ) → entries_of (client + at) (merged lists) ≡ get_or lists at []
entries_of-merged client [] runs at = refl
entries_of-merged client (es ∷ lists) runs zero =
    let own : HistoryEntry → Bool = λ e. e.entry.client == (client + zero) in
    filter-with_entries own client es (merged lists) runs.0 (behind client lists runs.1) (sorted-merged (client + 1) lists runs.1)
    ∙ ap₂ with_entries (all_pass own es (all_of (IsBy client) _ es (λ e is. itself e.entry.client (client + zero) (omega (arith, is))) runs.0.by))
    (none_pass own (merged lists) (all_of _ _ (merged lists) (λ e lt. another e.entry.client (client + zero) (λ is. absurd (omega (arith, lt, is)))) (behind client lists runs.1)))
    ∙ rising_alone es runs.0.rising
entries_of-merged client (es ∷ lists) runs (suc at) =
    let own : HistoryEntry → Bool = λ e. e.entry.client == (client + suc at) in
    filter-with_entries own client es (merged lists) runs.0 (behind client lists runs.1) (sorted-merged (client + 1) lists runs.1)
    ∙ ap (λ (k : History). with_entries k (entries_of (client + suc at) (merged lists))) (none_pass own es (all_of (IsBy client) _ es (λ e is. another e.entry.client (client + suc at) (λ its. absurd (omega (arith, is, its)))) runs.0.by))
    ∙ ap (λ (n : ℕ). entries_of n (merged lists)) {x = client + suc at} {y = (client + 1) + at} (omega arith)
    ∙ entries_of-merged (client + 1) lists runs.1 at

module _ (client seq : ℕ) where
  entry_of-own : (h : History) → entry_of client seq h ≡ entry_of client seq (entries_of client h)
  entry_of-own [] = refl
  entry_of-own (e ∷ h) = by (e.entry.client == client) refl (entry_of-own h)
    where
      by : (b : Bool) → (e.entry.client == client) ≡ b → entry_of client seq h ≡ entry_of client seq (entries_of client h)
          → entry_of client seq (e ∷ h) ≡ entry_of client seq (if b then e ∷ entries_of client h else entries_of client h)
      by true is rest = ap (λ (o : Option HistoryEntry). if is_of_item client seq e then Some e else o) rest
      by false is rest = ap (λ (b : Bool). if b && (e.entry.seq == seq) then Some e else entry_of client seq h) is ∙ rest

  entry_of-find : (es : History) → AllByRecursion (IsBy client) es → entry_of client seq es ≡ find (λ e. e.entry.seq == seq) es
  entry_of-find [] all = refl
  entry_of-find (e ∷ es) all =
      ap (λ (b : Bool). if b && (e.entry.seq == seq) then Some e else entry_of client seq es) (itself e.entry.client client all.0)
      ∙ ap (λ (o : Option HistoryEntry). if e.entry.seq == seq then Some e else o) (entry_of-find es all.1)

  pub reply_of-entry : (h : History) → reply_of client seq h ≡ option_and_then (λ e. e.pairs) (entry_of client seq h)
  reply_of-entry [] = refl
  reply_of-entry (e ∷ h) = by (is_of_item client seq e) (reply_of-entry h)
    where
      by : (b : Bool) → reply_of client seq h ≡ option_and_then (λ f. f.pairs) (entry_of client seq h) → (if b then e.pairs else reply_of client seq h) ≡ option_and_then (λ f. f.pairs) (if b then Some e else entry_of client seq h)
      by true rest = refl
      by false rest = rest

  pub entry_of-merged : (lists : List History) → AreRunsFrom 0 lists → entry_of client seq (merged lists) ≡ find (λ e. e.entry.seq == seq) (get_or lists client [])
  entry_of-merged lists runs =
      let own : entries_of client (merged lists) ≡ get_or lists client [] = ap (λ (n : ℕ). entries_of n (merged lists)) {x = client} {y = 0 + client} (omega arith) ∙ entries_of-merged 0 lists runs client in
      entry_of-own (merged lists) ∙ ap (entry_of client seq) own ∙ entry_of-find (get_or lists client []) (own_at 0 lists runs client (omega arith))
    where
      own_at : (k : ℕ) (lists : List History) → AreRunsFrom k lists → (at : ℕ) → client ≡ k + at → AllByRecursion (IsBy client) (get_or lists at [])
      own_at k [] runs at is = tt
      own_at k (l ∷ lists) runs zero is = all_of (IsBy k) (IsBy client) l (λ e e_is. omega (arith, is, e_is)) runs.0.by
      own_at k (l ∷ lists) runs (suc at) is = own_at (k + 1) lists runs.1 at (omega (arith, is))

-- ---- each item once

other_way : (e f : HistoryEntry) → is_of_item e.entry.client e.entry.seq f ≡ false → is_of_item f.entry.client f.entry.seq e ≡ false
other_way e f isnt = by (is_of_item f.entry.client f.entry.seq e) refl
  where
    both : (a b : Bool) → (a && b) ≡ true → (a ≡ true) × (b ≡ true)
    both true true t = (refl, refl)
    both true false t = cc
    both false b t = cc

    equal : (a b : ℕ) → (a == b) ≡ true → a ≡ b
    equal a b t = grind (arith, nat_tests)

    by : (b : Bool) → is_of_item f.entry.client f.entry.seq e ≡ b → b ≡ false
    by false is = refl
    by true is =
        let same = both (e.entry.client == f.entry.client) (e.entry.seq == f.entry.seq) is in
        let its : is_of_item e.entry.client e.entry.seq f ≡ true =
        ap (λ (b : Bool). b && (f.entry.seq == e.entry.seq)) (itself f.entry.client e.entry.client (sym (equal e.entry.client f.entry.client same.0))) ∙ itself f.entry.seq e.entry.seq (sym (equal e.entry.seq f.entry.seq same.1)) in
        cc

once-with_entry : (e : HistoryEntry) (h : History) → HasNone e.entry.client e.entry.seq h → HasNoneTwice h → HasNoneTwice (with_entry e h)
once-with_entry e [] none once = (tt, tt)
once-with_entry e (f ∷ h) none once =
    elim (is_lt (entry_cmp e.entry f.entry)) as (λ b. HasNoneTwice (if b then e ∷ f ∷ h else f ∷ with_entry e h)) [
      | true ↦ (none, once)
      | false ↦ (all-with_entry (λ g. is_of_item f.entry.client f.entry.seq g ≡ false) e h once.0 (other_way e f none.0), once-with_entry e h none.1 once.1)
    ]

once-with_entries : (client : ℕ) (es h : History) → IsRun client es → AllByRecursion (λ f. client < f.entry.client) h → HasNoneTwice h → HasNoneTwice (with_entries es h)
once-with_entries client [] h run later once = once
once-with_entries client (e ∷ es) h run later once =
    once-with_entry e (with_entries es h)
    (all-with_entries (λ g. is_of_item e.entry.client e.entry.seq g ≡ false) es h
    (all_of (IsBefore e) _ es (λ f is. not_this e.entry.client e.entry.seq f (λ eq. absurd (omega (arith, is.seq, eq)))) run.rising.0)
    (all_of _ _ h (λ f lt. not_its e.entry.client e.entry.seq f (λ eq. absurd (omega (arith, lt, eq, run.by.0)))) later))
    (once-with_entries client es h (record { by = run.by.1; rising = run.rising.1 }) later once)

pub once-merged : (client : ℕ) (lists : List History) → AreRunsFrom client lists → HasNoneTwice (merged lists)
once-merged client [] runs = tt
once-merged client (es ∷ lists) runs = once-with_entries client es (merged lists) runs.0 (behind client lists runs.1) (once-merged (client + 1) lists runs.1)

-- ---- the least of the first entries

not_before : (e f : HistoryEntry) → e.entry.client ≢ f.entry.client → is_lt (entry_cmp f.entry e.entry) ≡ false → entry_cmp e.entry f.entry ≡ Less
not_before e f apart isnt =
    elim (entry_cmp e.entry f.entry) as (λ r. entry_cmp e.entry f.entry ≡ r → r ≡ Less) [
      | Less ↦ λ is. refl
      | Equal ↦ λ is. absurd (apart (tie e.entry f.entry is))
      | Greater ↦ λ is. let back : is_lt (entry_cmp f.entry e.entry) ≡ true = ap is_lt (entry_cmp_total.antisymm f.entry e.entry ∙ ap ordering_reverse is) in cc
    ] refl

-- isnt list begins with an entry that stands before this one
abbrev pub IsLeast : HistoryEntry → List History → Type 0
IsLeast e lists = (i : ℕ) (f : HistoryEntry) (fs : History) → slice_get lists i ≡ Some (f ∷ fs) → is_lt (entry_cmp f.entry e.entry) ≡ false

later_least : (e : HistoryEntry) (l : History) (lists : List History) → IsLeast e (l ∷ lists) → IsLeast e lists
later_least e l lists least i f fs is = least (suc i) f fs is

below_list : (client : ℕ) (e : HistoryEntry) (l : History) → IsRun client l → e.entry.client ≢ client → ((f : HistoryEntry) (fs : History) → l ≡ f ∷ fs → is_lt (entry_cmp f.entry e.entry) ≡ false) → IsBelowAll e l
below_list client e [] run apart least = tt
below_list client e (f ∷ fs) run apart least =
    let lt = not_before e f (λ is. apart (is ∙ run.by.0)) (least f fs refl) in
    (lt, below_all e f fs lt (below_rest f fs run.rising.0))

others_below : (client : ℕ) (e : HistoryEntry) (lists : List History) → AreRunsFrom client lists → e.entry.client < client → IsLeast e lists → AllByRecursion (IsBelowAll e) lists
others_below client e [] runs lt least = tt
others_below client e (l ∷ lists) runs lt least = (
  below_list client e l runs.0 (λ is. absurd (omega (arith, lt, is))) (λ f fs is. least 0 f fs (ap (λ (k : History). Some k) is)),
  others_below (client + 1) e lists runs.1 (omega (arith, lt)) (later_least e l lists least),
)

rest_below : (client : ℕ) (lists : List History) → AreRunsFrom client lists → (at : ℕ) (e : HistoryEntry) (es : History) → slice_get lists at ≡ Some (e ∷ es) → IsLeast e lists → AllByRecursion (IsBelowAll e) (set lists at es)
rest_below client [] runs at e es is least = cc
rest_below client (l ∷ lists) runs zero e es is least =
    let run = subst (IsRun client) (some_same l (e ∷ es) is) runs.0 in
    (below_rest e es run.rising.0, others_below (client + 1) e lists runs.1 (omega (arith, run.by.0)) (later_least e l lists least))
rest_below client (l ∷ lists) runs (suc at) e es is least =
    let own = (run_at (client + 1) lists runs.1 at (e ∷ es) is).by.0 in (
      below_list client e l runs.0 (λ eq. absurd (omega (arith, eq, own))) (λ f fs eq. least 0 f fs (ap (λ (k : History). Some k) eq)),
      rest_below (client + 1) lists runs.1 at e es is (later_least e l lists least),
    )

-- the least of the first entries comes first
pub first_is : (client : ℕ) (lists : List History) → AreRunsFrom client lists → (at : ℕ) (e : HistoryEntry) (es : History) → slice_get lists at ≡ Some (e ∷ es) → IsLeast e lists → merged lists ≡ e ∷ merged (set lists at es)
first_is client lists runs at e es is least =
    taken_first client lists runs at e es is ∙ before_all e (merged (set lists at es)) (all-merged (λ f. entry_cmp e.entry f.entry ≡ Less) (set lists at es) (rest_below client lists runs at e es is least))

-- ---- unanswered entries

pub open_out : (es : History) → OnlyLastOpen es → filter (λ e. is_some e.pairs) es ≡ without_open es
open_out [] only = refl
open_out (e ∷ []) only = refl
open_out (e ∷ f ∷ es) only = by (is_some e.pairs) (open_out (f ∷ es) only.1) (known e.pairs only.0)
  where
    known : (o : Option (List Pair)) → IsSome o → is_some o ≡ true
    known None none = cc
    known (Some x) some = refl

    by : (b : Bool) → filter (λ g. is_some g.pairs) (f ∷ es) ≡ without_open (f ∷ es) → b ≡ true → (if b then e ∷ filter (λ g. is_some g.pairs) (f ∷ es) else filter (λ g. is_some g.pairs) (f ∷ es)) ≡ e ∷ without_open (f ∷ es)
    by true rest is = ap (λ (k : History). e ∷ k) rest
    by false rest is = cc

pub answered_lists : (lists : List History) → ((at : ℕ) → OnlyLastOpen (get_or lists at [])) → map (filter (λ e. is_some e.pairs)) lists ≡ map without_open lists
answered_lists [] only = refl
answered_lists (es ∷ lists) only = ap₂ (λ (l : History) (ls : List History). l ∷ ls) (open_out es (only 0)) (answered_lists lists (λ at. only (suc at)))
