-- What a change of one client's list makes of the history.
use Rattle.std.proofs.Common.{◌≡◌, ◌≢◌, ℕ, zero, suc, ◌+◌, ◌-◌, ◌<◌, ◌≤◌, ◌==◌, Bool, true, false, List, [], ◌∷◌, ◌++◌, length, map, filter, find, set, get_or, take, drop, append-nil, drop_of_length-le, slice_get, sum_by, Option, Some, None, option_and_then, IsSome, is_some, MatchOption, if◌then◌else◌, refl, sym, ap, ap₂, subst, ◌∙◌, arith, Less, Equal}
use Rattle.std.specs.Ordering.{ordering_reverse}
use Rattle.std.specs.List.{AllByRecursion}
use Rattle.std.proofs.Math.ListN as list
use Rattle.std.proofs.lemmas.List.Sums.{sum_by-cons}
use Rattle.txn_model.specs.declared.pairs.Pair.{Pair}
use Rattle.history_model.specs.History.{HistoryEntry, History, IsInStampOrder, entry_cmp, stamp_cmp, with_entry}
use Rattle.history_model.specs.declared.entry.Entry.{Entry}
use Rattle.history_core.specs.Answers.{HasNone, HasNoneTwice, entries_of, entry_of, with_reply, IsAboveOwn, IsOpenLast, OnlyLastOpen, answered_ones}
use Rattle.history_core.specs.Merge.{merged, with_entries, all_entries, all_runs, AreOwn}
use Rattle.history_core.specs.Own.{IsBefore, IsRising, IsShort, IsOwn, AreOwnFrom, without_open, dropped}
use Rattle.history_core.specs.Plain.{Own}
use Rattle.history_core.specs.Recorded.{Recorded}
use Rattle.history_core.specs.Runs.{ops_in, ops_at, ops_of, runs_of}
use Rattle.catalogue.specs.Plan.{Plan, PlainItem, Run, Lose}
use Rattle.catalogue.specs.Sound.{IsSound, IsFitItem}
use Rattle.txn_model.proofs.SerialLaws.{sound_length}
use Rattle.std.proofs.lemmas.List.{length-map, take_all}
use Rattle.std.proofs.lemmas.List.Elements.{recursion_from_All}
use Rattle.std.specs.List.{All}
use Rattle.history_core.proofs.Merged.{AreRunsFrom, all_of, both_of, all_append, entries_of-merged, entry_of-merged, added, answered_last, not_this, filter-merged, sorted-merged, once-merged, answered_lists, less_apart, stamp_first, length-with_entries}
use Rattle.history_core.proofs.Walked.{runs_of_all, no_own}
use Rattle.history_core.proofs.WithEntry.{entry_cmp_total, IsApart, all-filter}

-- ---- lists of lists

own_at : (k : ℕ) (owns : List Own) → AreOwnFrom k owns → (i : ℕ) → i < length owns → IsOwn (k + i) (get_or owns i no_own)
own_at k [] are i lt = absurd (omega (arith, lt))
own_at k (own ∷ owns) are zero lt = subst (λ (n : ℕ). IsOwn n own) {x = k} {y = k + zero} (omega arith) are.0
own_at k (own ∷ owns) are (suc i) lt = subst (λ (n : ℕ). IsOwn n (get_or owns i no_own)) {x = (k + 1) + i} {y = k + suc i} (omega arith) (own_at (k + 1) owns are.1 i (omega (arith, lt)))

own_set : (k : ℕ) (owns : List Own) → AreOwnFrom k owns → (i : ℕ) (own : Own) → IsOwn (k + i) own → AreOwnFrom k (set owns i own)
own_set k [] are i own is = tt
own_set k (o ∷ owns) are zero own is = (subst (λ (n : ℕ). IsOwn n own) {x = k + zero} {y = k} (omega arith) is, are.1)
own_set k (o ∷ owns) are (suc i) own is = (are.0, own_set (k + 1) owns are.1 i own (subst (λ (n : ℕ). IsOwn n own) {x = k + suc i} {y = (k + 1) + i} (omega arith) is))

runs_kept : (owns : List Own) (i : ℕ) (own : Own) → own.ops ≡ (get_or owns i no_own).ops → all_runs (set owns i own) ≡ all_runs owns
runs_kept [] i own is = refl
runs_kept (o ∷ owns) zero own is = ap (λ (ops : List (Option ℕ)). ops ∷ all_runs owns) is
runs_kept (o ∷ owns) (suc i) own is = ap (λ (runs : List (List (Option ℕ))). o.ops ∷ runs) (runs_kept owns i own is)

entries-set : (owns : List Own) (i : ℕ) (own : Own) → map (λ o. o.entries) (set owns i own) ≡ set (map (λ o. o.entries) owns) i own.entries
entries-set [] i own = refl
entries-set (o ∷ owns) zero own = refl
entries-set (o ∷ owns) (suc i) own = ap (λ (l : List History). o.entries ∷ l) (entries-set owns i own)

list_at : (owns : List Own) (i : ℕ) → i < length owns → slice_get (map (λ o. o.entries) owns) i ≡ Some (get_or owns i no_own).entries
list_at [] i lt = absurd (omega (arith, lt))
list_at (o ∷ owns) zero lt = refl
list_at (o ∷ owns) (suc i) lt = list_at owns i (omega (arith, lt))

past : (owns : List Own) (i : ℕ) → length owns ≤ i → get_or owns i no_own ≡ no_own
past [] i le = by i
  where
    by : (i : ℕ) → get_or [] i no_own ≡ no_own
    by zero = refl
    by (suc i) = refl
past (o ∷ owns) zero le = absurd (omega (arith, le))
past (o ∷ owns) (suc i) le = past owns i (omega (arith, le))

pub own_is : (owns : List Own) (i : ℕ) (own : Own) → i < length owns → own ≡ get_or owns i own → own ≡ get_or owns i no_own
own_is [] i own lt is = absurd (omega (arith, lt))
own_is (o ∷ owns) zero own lt is = is
own_is (o ∷ owns) (suc i) own lt is = own_is owns i own (omega (arith, lt)) is

within_by : (owns : List Own) (i : ℕ) → ((length owns ≤ i) → ⊥) → i < length owns
within_by owns i not_past = omega (arith, not_past)

-- ---- numbers of operations

get_within : {X : Type 0} (xs : List (Option X)) (i : ℕ) (x : X) → option_and_then (λ n. n) (slice_get xs i) ≡ Some x → i < length xs
get_within {X = X} [] i x is = by i is
  where
    by : (i : ℕ) → option_and_then {T = Option X} {U = X} (λ n. n) (slice_get [] i) ≡ Some x → i < 0
    by zero is = cc
    by (suc i) is = cc
get_within (y ∷ xs) zero x is = omega arith
get_within (y ∷ xs) (suc i) x is = omega (arith, get_within xs i x is)

some_of : {X : Type 0} (o : Option X) → IsSome o → (x : X) × (o ≡ Some x)
some_of None is = cc
some_of (Some x) is = (x, refl)

some_is : {X : Type 0} (o : Option X) (x : X) → o ≡ Some x → IsSome o
some_is None x is = cc
some_is (Some y) x is = refl

-- an item that has operations is there
pub there : (ops : List (Option ℕ)) (seq n : ℕ) → ops_in ops seq ≡ Some n → (1 ≤ seq) × (seq ≤ length ops)
there ops seq n is = by (seq == 0) refl is
  where
    apart : (a : ℕ) → (a == 0) ≡ false → 1 ≤ a
    apart zero e = cc
    apart (suc a) e = omega arith

    by : (b : Bool) → (seq == 0) ≡ b → (if b then None else option_and_then (λ n. n) (slice_get ops (seq - 1))) ≡ Some n → (1 ≤ seq) × (seq ≤ length ops)
    by true zero_is is = cc
    by false other is = let one = apart seq other in (one, omega (arith, one, get_within ops (seq - 1) n is))

-- a list that rises is no longer than its numbers allow
few_rising : (es : History) (low high : ℕ) → IsRising es → AllByRecursion (λ e. low < e.entry.seq) es → AllByRecursion (λ e. e.entry.seq < high) es → low < high → length es + low < high
few_rising [] low high rising above below lt = omega (arith, lt)
few_rising (e ∷ es) low high rising above below lt =
    omega (arith, above.0, few_rising es e.entry.seq high rising.1 (all_of (IsBefore e) _ es (λ f is. is.seq) rising.0) below.1 below.0)

all_there : (ops : List (Option ℕ)) (es : History) → AllByRecursion (λ e. IsSome (ops_in ops e.entry.seq)) es → AllByRecursion (λ e. (1 ≤ e.entry.seq) × (e.entry.seq ≤ length ops)) es
all_there ops es items = all_of _ _ es (λ e some. let x = some_of (ops_in ops e.entry.seq) some in there ops e.entry.seq x.0 x.1) items

-- a client has no more entries than items
pub few_entries : (client : ℕ) (own : Own) → IsOwn client own → length own.entries ≤ length own.ops
few_entries client own is =
    let known = all_there own.ops own.entries is.items in
    omega (arith, few_rising own.entries 0 (length own.ops + 1) is.rising (all_of _ _ own.entries (λ e at. omega (arith, at.0)) known) (all_of _ _ own.entries (λ e at. omega (arith, at.1)) known) (omega arith))

-- ---- lists that rise

rising-append : (es : History) (e : HistoryEntry) → IsRising es → AllByRecursion (λ f. IsBefore f e) es → IsRising (es ++ e ∷ [])
rising-append [] e rising before = (tt, tt)
rising-append (f ∷ es) e rising before = (all_append (IsBefore f) es (e ∷ []) rising.0 (before.0, tt), rising-append es e rising.1 before.1)

last_above : (es : History) (e : HistoryEntry) → IsRising (es ++ e ∷ []) → AllByRecursion (λ f. IsBefore f e) es
last_above [] e rising = tt
last_above (f ∷ es) e rising = (last_of es rising.0, last_above es e rising.1)
  where
    last_of : (es : History) → AllByRecursion (IsBefore f) (es ++ e ∷ []) → IsBefore f e
    last_of [] all = all.0
    last_of (g ∷ es) all = last_of es all.1

front_of : (P : HistoryEntry → Type 0) (es : History) (e : HistoryEntry) → AllByRecursion P (es ++ e ∷ []) → AllByRecursion P es × P e
front_of P [] e all = (tt, all.0)
front_of P (f ∷ es) e all = let rest = front_of P es e all.1 in ((all.0, rest.0), rest.1)

front_rising : (es : History) (e : HistoryEntry) → IsRising (es ++ e ∷ []) → IsRising es
front_rising [] e rising = tt
front_rising (f ∷ es) e rising = ((front_of (IsBefore f) es e rising.0).0, front_rising es e rising.1)

-- ---- a history and the lists that it is kept in

abbrev pub recorded : List Own → Recorded
recorded owns = record { items = all_entries owns; runs = all_runs owns }

pub record Becomes (owns : List Own) (h : Recorded) : Type 0 where
  pub are : AreOwn owns
  pub view : recorded owns ≡ h

module _ (owns : List Own) (are : AreOwn owns) (h : Recorded) (view : recorded owns ≡ h) where
  abbrev runs : AreRunsFrom 0 (map (λ own. own.entries) owns)
  runs = runs_of_all 0 owns are.own

  abbrev own_of : ℕ → Own
  own_of client = get_or owns client no_own

  pub in_order : IsInStampOrder h.items
  in_order = subst (λ (x : Recorded). IsInStampOrder x.items) view (sorted-merged 0 (map (λ own. own.entries) owns) runs)

  pub none_twice : HasNoneTwice h.items
  none_twice = subst (λ (x : Recorded). HasNoneTwice x.items) view (once-merged 0 (map (λ own. own.entries) owns) runs)

  own_entries : (client : ℕ) → entries_of client h.items ≡ (own_of client).entries
  own_entries client =
      ap (λ (x : Recorded). entries_of client x.items) (sym view)
      ∙ ap (λ (n : ℕ). entries_of n (all_entries owns)) {x = client} {y = 0 + client} (omega arith)
      ∙ entries_of-merged 0 (map (λ own. own.entries) owns) runs client
      ∙ list.get_or-map (λ (own : Own). own.entries) owns client no_own

  pub entry_is : (client seq : ℕ) → entry_of client seq h.items ≡ find (λ e. e.entry.seq == seq) (own_of client).entries
  entry_is client seq =
      ap (λ (x : Recorded). entry_of client seq x.items) (sym view)
      ∙ entry_of-merged client seq (map (λ own. own.entries) owns) runs
      ∙ ap (find (λ e. e.entry.seq == seq)) (list.get_or-map (λ (own : Own). own.entries) owns client no_own)

  pub no_entry : (client seq : ℕ) → length owns ≤ client → entry_of client seq h.items ≡ None
  no_entry client seq le = entry_is client seq ∙ ap (λ (own : Own). find (λ e. e.entry.seq == seq) own.entries) (past owns client le)

  pub rising_at : (client : ℕ) (own : Own) → client < length owns → own ≡ get_or owns client own → IsRising own.entries
  rising_at client own lt is = subst (λ (o : Own). IsRising o.entries) (sym (own_is owns client own lt is)) (own_at 0 owns are.own client lt).rising

  pub found_in : (client seq : ℕ) (own : Own) → client < length owns → own ≡ get_or owns client own → find (λ e. e.entry.seq == seq) own.entries ≡ entry_of client seq h.items
  found_in client seq own lt is = ap (λ (o : Own). find (λ e. e.entry.seq == seq) o.entries) (own_is owns client own lt is) ∙ sym (entry_is client seq)

  own_ops : (client seq : ℕ) → ops_at h.runs client seq ≡ ops_in (own_of client).ops seq
  own_ops client seq =
      ap (λ (x : Recorded). ops_at x.runs client seq) (sym view) ∙ ap (λ (ops : List (Option ℕ)). ops_in ops seq) (list.get_or-map (λ (own : Own). own.ops) owns client no_own)

  -- a client that has an item is there
  has_client : (client seq n : ℕ) → ops_in (own_of client).ops seq ≡ Some n → client < length owns
  has_client client seq n is = within_by owns client (λ le. absurd (omega (arith, there [] seq n (ap (λ (own : Own). ops_in own.ops seq) (sym (past owns client le)) ∙ is))))

  the_own : (client : ℕ) → client < length owns → IsOwn client (own_of client)
  the_own client lt = subst (λ (n : ℕ). IsOwn n (own_of client)) {x = 0 + client} {y = client} (omega arith) (own_at 0 owns are.own client lt)

  -- the lists with another one of a client
  module _ (client : ℕ) (lt : client < length owns) (later : Own) (ops : later.ops ≡ (own_of client).ops) (is_own : IsOwn client later) where
    still : AreOwn (set owns client later)
    still = record {
      few = omega (arith, are.few, list.length-set owns client later);
      items = subst (λ (r : List (List (Option ℕ))). sum_by length r ≤ 4096) (sym (runs_kept owns client later ops)) are.items;
      own = own_set 0 owns are.own client later (subst (λ (n : ℕ). IsOwn n later) {x = client} {y = 0 + client} (omega arith) is_own);
    }

    merged_is : all_entries (set owns client later) ≡ merged (set (map (λ own. own.entries) owns) client later.entries)
    merged_is = ap merged (entries-set owns client later)

    runs_are : all_runs (set owns client later) ≡ h.runs
    runs_are = runs_kept owns client later ops ∙ ap (λ (x : Recorded). x.runs) view

  -- an entry is put in
  module _ (entry : Entry) (some : IsSome (ops_at h.runs entry.client entry.seq)) (above : IsAboveOwn entry h.items) where
    abbrev new : HistoryEntry
    new = record { entry = entry; pairs = None }

    its : (n : ℕ) × (ops_in (own_of entry.client).ops entry.seq ≡ Some n)
    its = let x = some_of (ops_at h.runs entry.client entry.seq) some in (x.0, sym (own_ops entry.client entry.seq) ∙ x.1)

    pub within : entry.client < length owns
    within = has_client entry.client entry.seq its.0 its.1

    abbrev own : Own
    own = own_of entry.client

    is_own : IsOwn entry.client own
    is_own = the_own entry.client within

    before : AllByRecursion (λ f. IsBefore f new) own.entries
    before =
        both_of _ (λ f. f.entry.client ≡ entry.client) _ own.entries (λ f up is. let both = up is in record { seq = both.0; stamp = both.1 })
        (subst (AllByRecursion (λ f. f.entry.client ≡ entry.client → (f.entry.seq < entry.seq) × (stamp_cmp f.entry.stamp entry.stamp ≡ Less))) (own_entries entry.client) (all-filter (λ f. f.entry.client == entry.client) _ h.items above))
        is_own.by

    pub has_room : length own.entries < length own.ops
    has_room =
        let known = all_there own.ops own.entries is_own.items in
        let here = there own.ops entry.seq its.0 its.1 in
        omega (arith, here.1, few_rising own.entries 0 entry.seq is_own.rising (all_of _ _ own.entries (λ e at. omega (arith, at.0)) known) (all_of _ _ own.entries (λ f is. is.seq) before) (omega (arith, here.0)))

    abbrev later : Own
    later = record own { entries = own.entries ++ new ∷ [] }

    later_own : IsOwn entry.client later
    later_own = record {
      by = all_append (λ e. e.entry.client ≡ entry.client) own.entries (new ∷ []) is_own.by (refl, tt);
      items = all_append (λ e. IsSome (ops_in own.ops e.entry.seq)) own.entries (new ∷ []) is_own.items (some_is _ its.0 its.1, tt);
      short = is_own.short;
      rising = rising-append own.entries new is_own.rising before;
    }

    apart : IsApart new own.entries
    apart = all_of _ _ own.entries (λ f is tied. absurd (less_apart f new (stamp_first f.entry entry is.stamp) (flipped f tied))) before
      where
        flipped : (f : HistoryEntry) → entry_cmp entry f.entry ≡ Equal → entry_cmp f.entry entry ≡ Equal
        flipped f tied = entry_cmp_total.antisymm f.entry entry ∙ ap ordering_reverse tied

    pub put_in : Becomes (set owns entry.client later) (record h { items = with_entry new h.items })
    put_in = record {
      are = still entry.client within later refl later_own;
      view =
          ap₂ (λ (items : History) (r : List (List (Option ℕ))). record { items = items; runs = r })
          (merged_is entry.client within later refl later_own
          ∙ added 0 (map (λ o. o.entries) owns) runs entry.client new own.entries (list_at owns entry.client within) (omega arith) apart
          ∙ ap (λ (x : Recorded). with_entry new x.items) view)
          (runs_are entry.client within later refl later_own);
    }

    pub room_at : (at : ℕ) (o : Own) → at ≡ entry.client → o ≡ get_or owns at o → length o.entries < length o.ops
    room_at at o at_is is = subst (λ (x : Own). length x.entries < length x.ops) (sym (own_is owns entry.client o within (is ∙ ap (λ (n : ℕ). get_or owns n o) at_is))) has_room

    pub put_at : (at : ℕ) (o o_later : Own) → at ≡ entry.client → o ≡ get_or owns at o → o_later ≡ record o { entries = o.entries ++ new ∷ [] } → Becomes (set owns at o_later) (record h { items = with_entry new h.items })
    put_at at o o_later at_is is becomes =
        let same : o_later ≡ later = becomes ∙ ap (λ (x : Own). record x { entries = x.entries ++ new ∷ [] }) (own_is owns entry.client o within (is ∙ ap (λ (n : ℕ). get_or owns n o) at_is)) in
        subst (λ (l : List Own). Becomes l (record h { items = with_entry new h.items })) (sym (ap₂ (set owns) at_is same)) put_in

  -- the last entry of a client is answered
  module _ (client seq : ℕ) (pairs : List Pair) (last : IsOpenLast client seq h.items) (many : ops_at h.runs client seq ≡ Some (length pairs)) where
    abbrev entry : Entry
    entry = record { stamp = last.stamp; client = client; seq = seq }

    abbrev open_one : HistoryEntry
    open_one = record { entry = entry; pairs = None }

    abbrev answered_one : HistoryEntry
    answered_one = record { entry = entry; pairs = Some pairs }

    abbrev answering : Own
    answering = own_of client

    its_ops : ops_in answering.ops seq ≡ Some (length pairs)
    its_ops = sym (own_ops client seq) ∙ many

    pub inside : client < length owns
    inside = has_client client seq (length pairs) its_ops

    pub ends : answering.entries ≡ last.before ++ open_one ∷ []
    ends = sym (own_entries client) ∙ last.is

    is_answering : IsOwn client answering
    is_answering = the_own client inside

    pub some_entry : 1 ≤ length answering.entries
    some_entry = omega (arith, ap length ends, list.length-append last.before (open_one ∷ []))

    pub short_reply : length pairs ≤ 16
    short_reply = by (seq == 0) its_ops
      where
        at : (ops : List (Option ℕ)) (i n : ℕ) → AllByRecursion IsShort ops → option_and_then (λ m. m) (slice_get ops i) ≡ Some n → n ≤ 16
        at [] i n all is = absurd (omega (arith, get_within [] i n is))
        at (o ∷ ops) zero n all is = let P : Option ℕ → Type 0 = IsShort in subst P is all.0
        at (o ∷ ops) (suc i) n all is = at ops i n all.1 is

        by : (b : Bool) → (if b then None else option_and_then (λ n. n) (slice_get answering.ops (seq - 1))) ≡ Some (length pairs) → length pairs ≤ 16
        by true is = cc
        by false is = at answering.ops (seq - 1) (length pairs) is_answering.short is

    abbrev answered_own : Own
    answered_own = record answering { entries = last.before ++ answered_one ∷ [] }

    at_end : IsRising (last.before ++ open_one ∷ [])
    at_end = subst IsRising ends is_answering.rising

    below : AllByRecursion (λ f. IsBefore f open_one) last.before
    below = last_above last.before open_one at_end

    still_own : IsOwn client answered_own
    still_own =
        let by_client = front_of (λ e. e.entry.client ≡ client) last.before open_one (subst (AllByRecursion (λ e. e.entry.client ≡ client)) ends is_answering.by) in
        let of_items = front_of (λ e. IsSome (ops_in answering.ops e.entry.seq)) last.before open_one (subst (AllByRecursion (λ e. IsSome (ops_in answering.ops e.entry.seq))) ends is_answering.items) in
        record {
          by = all_append (λ e. e.entry.client ≡ client) last.before (answered_one ∷ []) by_client.0 (refl, tt);
          items = all_append (λ e. IsSome (ops_in answering.ops e.entry.seq)) last.before (answered_one ∷ []) of_items.0 (of_items.1, tt);
          short = is_answering.short;
          rising = rising-append last.before answered_one (front_rising last.before open_one at_end) (all_of (λ f. IsBefore f open_one) (λ f. IsBefore f answered_one) last.before (λ f is. record { seq = is.seq; stamp = is.stamp }) below);
        }

    pub is_answered : Becomes (set owns client answered_own) (record h { items = with_reply client seq pairs h.items })
    is_answered = record {
      are = still client inside answered_own refl still_own;
      view =
          ap₂ (λ (items : History) (r : List (List (Option ℕ))). record { items = items; runs = r })
          (merged_is client inside answered_own refl still_own
          ∙ answered_last 0 (map (λ o. o.entries) owns) runs client entry pairs last.before (list_at owns client inside ∙ ap (λ (es : History). Some es) ends) (omega arith)
          (all_of (λ f. IsBefore f open_one) _ last.before (λ f is. not_this client seq f (λ e. absurd (omega (arith, is.seq, e)))) below)
          ∙ ap (λ (x : Recorded). with_reply client seq pairs x.items) view)
          (runs_are client inside answered_own refl still_own);
    }

    pub the_answering : (at : ℕ) (o : Own) → at ≡ client → o ≡ get_or owns at o → o ≡ answering
    the_answering at o at_is is = own_is owns client o inside (is ∙ ap (λ (n : ℕ). get_or owns n o) at_is)

    pub answered_at : (at : ℕ) (o o_later : Own) → at ≡ client → o ≡ get_or owns at o
        → ((before : History) (e : Entry) → o.entries ≡ before ++ record { entry = e; pairs = None } ∷ [] → o_later ≡ record o { entries = before ++ record { entry = e; pairs = Some pairs } ∷ [] })
        → Becomes (set owns at o_later) (record h { items = with_reply client seq pairs h.items })
    answered_at at o o_later at_is is becomes =
        let o_is = the_answering at o at_is is in
        let same : o_later ≡ answered_own = becomes last.before entry (ap (λ (x : Own). x.entries) o_is ∙ ends) ∙ ap (λ (x : Own). record x { entries = last.before ++ answered_one ∷ [] }) o_is in
        subst (λ (l : List Own). Becomes l (record h { items = with_reply client seq pairs h.items })) (sym (ap₂ (set owns) at_is same)) is_answered

  -- unanswered entries are taken out
  module _ (only : (client : ℕ) → OnlyLastOpen (entries_of client h.items)) where
    all-without : (P : HistoryEntry → Type 0) (es : History) → AllByRecursion P es → AllByRecursion P (without_open es)
    all-without P [] all = tt
    all-without P (e ∷ []) all = by (is_some e.pairs)
      where
        by : (b : Bool) → AllByRecursion P (if b then e ∷ [] else [])
        by true = all
        by false = tt
    all-without P (e ∷ f ∷ es) all = (all.0, all-without P (f ∷ es) all.1)

    rising-without : (es : History) → IsRising es → IsRising (without_open es)
    rising-without [] rising = tt
    rising-without (e ∷ []) rising = by (is_some e.pairs)
      where
        by : (b : Bool) → IsRising (if b then e ∷ [] else [])
        by true = rising
        by false = tt
    rising-without (e ∷ f ∷ es) rising = (all-without (IsBefore e) (f ∷ es) rising.0, rising-without (f ∷ es) rising.1)

    own_dropped : (k : ℕ) (os : List Own) → AreOwnFrom k os → AreOwnFrom k (map dropped os)
    own_dropped k [] of_k = tt
    own_dropped k (o ∷ os) of_k = (
      record {
        by = all-without (λ e. e.entry.client ≡ k) o.entries of_k.0.by;
        items = all-without (λ e. IsSome (ops_in o.ops e.entry.seq)) o.entries of_k.0.items;
        short = of_k.0.short;
        rising = rising-without o.entries of_k.0.rising;
      },
      own_dropped (k + 1) os of_k.1,
    )

    runs_dropped : (os : List Own) → all_runs (map dropped os) ≡ all_runs os
    runs_dropped [] = refl
    runs_dropped (o ∷ os) = ap (λ (r : List (List (Option ℕ))). o.ops ∷ r) (runs_dropped os)

    entries_dropped : (os : List Own) → map (λ o. o.entries) (map dropped os) ≡ map without_open (map (λ o. o.entries) os)
    entries_dropped [] = refl
    entries_dropped (o ∷ os) = ap (λ (l : List History). without_open o.entries ∷ l) (entries_dropped os)

    length_dropped : (os : List Own) → length (map dropped os) ≡ length os
    length_dropped [] = refl
    length_dropped (o ∷ os) = ap suc (length_dropped os)

    pub are_dropped : Becomes (map dropped owns) (record h { items = answered_ones h.items })
    are_dropped = record {
      are = record {
        few = omega (arith, are.few, length_dropped owns);
        items = subst (λ (r : List (List (Option ℕ))). sum_by length r ≤ 4096) (sym (runs_dropped owns)) are.items;
        own = own_dropped 0 owns are.own;
      };
      view =
          ap₂ (λ (items : History) (r : List (List (Option ℕ))). record { items = items; runs = r })
          (ap merged (entries_dropped owns ∙ sym (answered_lists (map (λ o. o.entries) owns) (λ at. subst OnlyLastOpen (own_entries at ∙ sym (list.get_or-map (λ (own : Own). own.entries) owns at no_own)) (only at))))
          ∙ sym (filter-merged (λ e. is_some e.pairs) 0 (map (λ o. o.entries) owns) runs)
          ∙ ap (λ (x : Recorded). answered_ones x.items) view)
          (runs_dropped owns ∙ ap (λ (x : Recorded). x.runs) view);
    }

-- ---- how many there are

abbrev pub many_in : List Own → ℕ
many_in owns = sum_by (λ own. length own.entries) owns

pub length_is : (owns : List Own) → length (all_entries owns) ≡ many_in owns
length_is [] = refl
length_is (o ∷ owns) = length-with_entries o.entries (all_entries owns) ∙ ap (λ (n : ℕ). length o.entries + n) (length_is owns) ∙ sym (sum_by-cons (λ (x : Own). length x.entries) o owns)

pub few_in : (k : ℕ) (owns : List Own) → AreOwnFrom k owns → many_in owns ≤ sum_by length (all_runs owns)
few_in k [] are = omega arith
few_in k (o ∷ owns) are = omega (arith, few_entries k o are.0, few_in (k + 1) owns are.1, sum_by-cons (λ (x : Own). length x.entries) o owns, sum_by-cons (length {A = Option ℕ}) o.ops (all_runs owns))

-- those of the lists from a place on
pub many_next : (owns : List Own) (i : ℕ) (o : Own) → i < length owns → o ≡ get_or owns i o → many_in (drop i owns) ≡ length o.entries + many_in (drop (i + 1) owns)
many_next [] i o lt is = absurd (omega (arith, lt))
many_next (x ∷ owns) zero o lt is = sum_by-cons (λ (y : Own). length y.entries) x owns ∙ ap (λ (y : Own). length y.entries + many_in owns) (sym is)
many_next (x ∷ owns) (suc i) o lt is = many_next owns i o (omega (arith, lt)) is ∙ ap (λ (k : ℕ). length o.entries + many_in (drop k (x ∷ owns))) {x = suc (i + 1)} {y = suc i + 1} (omega arith)

pub none_behind_end : (owns : List Own) (i : ℕ) → length owns ≤ i → many_in (drop i owns) ≡ 0
none_behind_end [] i le = by i
  where
    by : (i : ℕ) → many_in (drop i []) ≡ 0
    by zero = refl
    by (suc i) = refl
none_behind_end (x ∷ owns) zero le = absurd (omega (arith, le))
none_behind_end (x ∷ owns) (suc i) le = none_behind_end owns i (omega (arith, le))

one_of_many : (owns : List Own) (i : ℕ) → i < length owns → length (get_or owns i no_own).entries ≤ many_in owns
one_of_many [] i lt = absurd (omega (arith, lt))
one_of_many (o ∷ owns) zero lt = omega (arith, sum_by-cons (λ (y : Own). length y.entries) o owns)
one_of_many (o ∷ owns) (suc i) lt = omega (arith, one_of_many owns i (omega (arith, lt)), sum_by-cons (λ (y : Own). length y.entries) o owns)

pub few_all : (owns : List Own) → AreOwn owns → many_in owns ≤ 4096
few_all owns are = omega (arith, few_in 0 owns are.own, are.items)

pub few_one : (owns : List Own) → AreOwn owns → (i : ℕ) → i < length owns → length (get_or owns i no_own).entries ≤ 4096
few_one owns are i lt = omega (arith, one_of_many owns i lt, few_all owns are)

-- ---- a session without entries

module _ (plan : Plan) (owns : List Own) (runs_are : all_runs owns ≡ runs_of plan) (none : AllByRecursion (λ own. own.entries ≡ []) owns) (sound : IsSound plan) where
  no_entries : (os : List Own) → AllByRecursion (λ own. own.entries ≡ []) os → all_entries os ≡ []
  no_entries [] all = refl
  no_entries (o ∷ os) all = ap (λ (es : History). with_entries es (all_entries os)) all.0 ∙ no_entries os all.1

  short_ops : (items : List PlainItem) → AllByRecursion (IsFitItem plan) items → AllByRecursion IsShort (map ops_of items)
  short_ops [] fit = tt
  short_ops (Run ops ∷ items) fit = (sound_length ops fit.0.script, short_ops items fit.1)
  short_ops (Lose ∷ items) fit = (tt, short_ops items fit.1)

  all_short : (lists : List (List PlainItem)) → AllByRecursion (λ items. AllByRecursion (IsFitItem plan) items) lists → AllByRecursion (AllByRecursion IsShort) (map (map ops_of) lists)
  all_short [] fit = tt
  all_short (items ∷ lists) fit = (short_ops items fit.0, all_short lists fit.1)

  own_none : (k : ℕ) (os : List Own) → AllByRecursion (λ own. own.entries ≡ []) os → AllByRecursion (AllByRecursion IsShort) (all_runs os) → AreOwnFrom k os
  own_none k [] all short = tt
  own_none k (o ∷ os) all short = (
    record {
      by = subst (AllByRecursion (λ e. e.entry.client ≡ k)) (sym all.0) tt;
      items = subst (AllByRecursion (λ e. IsSome (ops_in o.ops e.entry.seq))) (sym all.0) tt;
      short = short.0;
      rising = subst IsRising (sym all.0) tt;
    },
    own_none (k + 1) os all.1 short.1,
  )

  fit_all : AllByRecursion (λ items. AllByRecursion (IsFitItem plan) items) plan.clients
  fit_all = all_of (All (IsFitItem plan)) _ plan.clients (λ items all. recursion_from_All (IsFitItem plan) items all) (recursion_from_All (All (IsFitItem plan)) plan.clients sound.items)

  counted : (lists : List (List PlainItem)) → sum_by length (map (map ops_of) lists) ≡ sum_by length lists
  counted [] = refl
  counted (items ∷ lists) =
      sum_by-cons (length {A = Option ℕ}) (map ops_of items) (map (map ops_of) lists)
      ∙ ap₂ (λ (a b : ℕ). a + b) (length-map items ops_of) (counted lists)
      ∙ sym (sum_by-cons (length {A = PlainItem}) items lists)

  pub opened : AreOwn owns
  opened = record {
    few = omega (arith, sound.limits.clients, length-map owns (λ own. own.ops), ap length runs_are, length-map plan.clients (map ops_of));
    items = omega (arith, sound.limits.items, counted plan.clients, ap (sum_by length) runs_are);
    own = own_none 0 owns none (subst (AllByRecursion (AllByRecursion IsShort)) (sym runs_are) (all_short plan.clients fit_all));
  }

  pub opened_view : recorded owns ≡ record { items = []; runs = runs_of plan }
  opened_view = ap₂ (λ (items : History) (r : List (List (Option ℕ))). record { items = items; runs = r }) (no_entries owns none) runs_are

-- ---- lists whose unanswered entries are taken out one list after another

pub drop_next : (init : List Own) (i : ℕ) (x y : Own) → i < length init → x ≡ get_or (map dropped (take i init) ++ drop i init) i x → y ≡ dropped x
    → set (map dropped (take i init) ++ drop i init) i y ≡ map dropped (take (i + 1) init) ++ drop (i + 1) init
drop_next [] i x y lt is becomes = absurd (omega (arith, lt))
drop_next (o ∷ init) zero x y lt is becomes = ap (λ (z : Own). z ∷ init) (becomes ∙ ap dropped is)
drop_next (o ∷ init) (suc i) x y lt is becomes =
    ap (λ (l : List Own). dropped o ∷ l) (drop_next init i x y (omega (arith, lt)) is becomes)
    ∙ ap (λ (k : ℕ). map dropped (take k (o ∷ init)) ++ drop k (o ∷ init)) {x = suc (i + 1)} {y = suc i + 1} (omega arith)

-- when all were visited, those are the lists
pub drop_all : (init later : List Own) (n i : ℕ) → later ≡ map dropped (take i init) ++ drop i init → length init ≤ i → n ≡ length init → length later ≡ length init → take n (later ++ drop (length later) init) ≡ map dropped init
drop_all init later n i is past_all n_is same =
    let is_all : later ≡ map dropped init =
    is ∙ ap₂ (λ (a b : List Own). map dropped a ++ b) (take_all i init past_all) (drop_of_length-le init past_all) ∙ append-nil (map dropped init)
    in
    ap (take n) (ap (λ (l : List Own). later ++ l) (drop_of_length-le init (omega (arith, same))) ∙ append-nil later) ∙ take_all n later (omega (arith, n_is, same)) ∙ is_all
