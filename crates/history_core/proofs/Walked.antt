-- Where a walk stands in the lists of entries.
use Rattle.std.proofs.Common.{◌≡◌, ◌≢◌, ℕ, zero, suc, ◌+◌, ◌-◌, ◌<◌, ◌≤◌, Bool, true, false, List, [], ◌∷◌, length, map, drop, set, get_or, slice_get, Option, Some, None, MatchOption, option_map, Bor, if◌then◌else◌, inl, inr, refl, sym, ap, subst, ◌∙◌, arith, Ordering, Less, Equal, Greater, is_lt}
use Rattle.std.specs.List.{AllByRecursion}
use Rattle.history_model.specs.History.{HistoryEntry, History, entry_cmp, with_entry}
use Rattle.history_core.specs.Own.{IsBefore, IsRising, IsOwn, AreOwnFrom, plain_kept}
use Rattle.history_core.specs.Plain.{Own}
use Rattle.history_core.specs.Merge.{with_entries, merged, all_entries, AreOwn}
use Rattle.history_core.specs.Cursors.{rests, left_of, head_of, IsFirstOf, IsFirst, earlier_of}
use Rattle.history_core.specs.declared.own_entries.Kept.{Kept}
use Rattle.history_core.proofs.WithEntry.{entry_cmp_total, less}
use Rattle.std.specs.Ordering.{ordering_reverse}
use Rattle.std.proofs.lemmas.Bool.{cases_lt}
use Rattle.history_core.proofs.Merged.{IsRun, AreRunsFrom, IsLeast, first_is}

abbrev pub no_own : Own
no_own = record { ops = []; entries = [] }

abbrev pub entries_at : List Own → ℕ → History
entries_at owns i = (get_or owns i no_own).entries

all-drop : (P : HistoryEntry → Type 0) (n : ℕ) (es : History) → AllByRecursion P es → AllByRecursion P (drop n es)
all-drop P zero es all = all
all-drop P (suc n) [] all = tt
all-drop P (suc n) (e ∷ es) all = all-drop P n es all.1

rising-drop : (n : ℕ) (es : History) → IsRising es → IsRising (drop n es)
rising-drop zero es rising = rising
rising-drop (suc n) [] rising = tt
rising-drop (suc n) (e ∷ es) rising = rising-drop n es rising.1

pub run_of : (client : ℕ) (own : Own) → IsOwn client own → IsRun client own.entries
run_of client own is = record { by = is.by; rising = is.rising }

run-drop : (client n : ℕ) (own : Own) → IsOwn client own → IsRun client (drop n own.entries)
run-drop client n own is = record { by = all-drop (λ e. e.entry.client ≡ client) n own.entries is.by; rising = rising-drop n own.entries is.rising }

pub runs_of_all : (client : ℕ) (owns : List Own) → AreOwnFrom client owns → AreRunsFrom client (map (λ own. own.entries) owns)
runs_of_all client [] are = tt
runs_of_all client (own ∷ owns) are = (run_of client own are.0, runs_of_all (client + 1) owns are.1)

pub runs_left : (client : ℕ) (owns : List Own) (given : List ℕ) → AreOwnFrom client owns → AreRunsFrom client (rests owns given)
runs_left client [] given are = tt
runs_left client (own ∷ owns) [] are = (run_of client own are.0, runs_left (client + 1) owns [] are.1)
runs_left client (own ∷ owns) (n ∷ given) are = (run-drop client n own are.0, runs_left (client + 1) owns given are.1)

-- at first all are left
pub all_left : (owns : List Own) (zeros : List ℕ) → AllByRecursion (λ n. n ≡ 0) zeros → rests owns zeros ≡ map (λ own. own.entries) owns
all_left [] zeros all = refl
all_left (own ∷ owns) [] all = ap (λ (l : List History). own.entries ∷ l) (all_left owns [] tt)
all_left (own ∷ owns) (n ∷ zeros) all = ap (λ (k : ℕ). drop k own.entries ∷ rests owns zeros) all.0 ∙ ap (λ (l : List History). own.entries ∷ l) (all_left owns zeros all.1)

get-drop : (n : ℕ) (es : History) → slice_get (drop n es) 0 ≡ slice_get es n
get-drop zero es = refl
get-drop (suc n) [] = refl
get-drop (suc n) (e ∷ es) = get-drop n es

some_same : {X : Type 0} (x y : X) → Some x ≡ Some y → x ≡ y
some_same x y e = cc

none_empty : (es : History) → slice_get es 0 ≡ None → es ≡ []
none_empty [] is = refl
none_empty (e ∷ es) is = cc

first_of : (n : ℕ) (es : History) (e : HistoryEntry) → slice_get es n ≡ Some e → drop n es ≡ e ∷ drop (n + 1) es
first_of n [] e is = by n is
  where
    by : (n : ℕ) → slice_get {X = HistoryEntry} [] n ≡ Some e → drop n [] ≡ e ∷ drop (n + 1) []
    by zero is = cc
    by (suc n) is = cc
first_of zero (f ∷ es) e is = ap (λ (g : HistoryEntry). g ∷ es) (some_same f e is)
first_of (suc n) (f ∷ es) e is = first_of n es e is ∙ ap (λ (k : ℕ). e ∷ drop k (f ∷ es)) {x = suc (n + 1)} {y = suc n + 1} (omega arith)

-- what is left of a list begins with its next entry
pub rest_at : (owns : List Own) (given : List ℕ) (i : ℕ) → i < length owns → slice_get (rests owns given) i ≡ Some (drop (get_or given i 0) (entries_at owns i))
rest_at [] given i lt = absurd (omega (arith, lt))
rest_at (own ∷ owns) [] zero lt = refl
rest_at (own ∷ owns) [] (suc i) lt = rest_at owns [] i (omega (arith, lt))
rest_at (own ∷ owns) (n ∷ given) zero lt = refl
rest_at (own ∷ owns) (n ∷ given) (suc i) lt = rest_at owns given i (omega (arith, lt))

length-rests : (owns : List Own) (given : List ℕ) → length (rests owns given) ≡ length owns
length-rests [] given = refl
length-rests (own ∷ owns) [] = ap suc (length-rests owns [])
length-rests (own ∷ owns) (n ∷ given) = ap suc (length-rests owns given)

inside : (lists : List History) (i : ℕ) (es : History) → slice_get lists i ≡ Some es → i < length lists
inside [] i es is = by i is
  where
    by : (i : ℕ) → slice_get {X = History} [] i ≡ Some es → i < 0
    by zero is = cc
    by (suc i) is = cc
inside (l ∷ lists) zero es is = omega arith
inside (l ∷ lists) (suc i) es is = omega (arith, inside lists i es is)

-- one more of a list is given
pub rests-set : (owns : List Own) (given : List ℕ) (i n : ℕ) → i < length owns → i < length given → rests owns (set given i n) ≡ set (rests owns given) i (drop n (entries_at owns i))
rests-set [] given i n lt in_given = absurd (omega (arith, lt))
rests-set (own ∷ owns) [] i n lt in_given = absurd (omega (arith, in_given))
rests-set (own ∷ owns) (m ∷ given) zero n lt in_given = refl
rests-set (own ∷ owns) (m ∷ given) (suc i) n lt in_given = ap (λ (l : List History). drop m own.entries ∷ l) (rests-set owns given i n (omega (arith, lt)) (omega (arith, in_given)))

-- the first of all that are left is the first of the list that begins with the least one
pub left_first : (owns : List Own) (given : List ℕ) (at : ℕ) (e : HistoryEntry) → AreOwnFrom 0 owns → at < length given → IsFirst owns given at e
    → left_of owns given ≡ e ∷ left_of owns (set given at (get_or given at 0 + 1))
left_first owns given at e are in_given first =
    let begins : drop (get_or given at 0) (entries_at owns at) ≡ e ∷ drop (get_or given at 0 + 1) (entries_at owns at) = first_of (get_or given at 0) (entries_at owns at) e first.head in
    first_is 0 (rests owns given) (runs_left 0 owns given are) at e (drop (get_or given at 0 + 1) (entries_at owns at)) (rest_at owns given at first.within ∙ ap (λ (l : History). Some l) begins) least
    ∙ ap (λ (l : List History). e ∷ merged l) (sym (rests-set owns given at (get_or given at 0 + 1) first.within in_given))
  where
    least : IsLeast e (rests owns given)
    least i f fs is =
        let lt : i < length owns = omega (arith, inside (rests owns given) i (f ∷ fs) is, length-rests owns given) in
        let same : drop (get_or given i 0) (entries_at owns i) ≡ f ∷ fs = some_same _ _ (sym (rest_at owns given i lt) ∙ is) in
        first.least i f lt (sym (get-drop (get_or given i 0) (entries_at owns i)) ∙ ap (λ (l : History). slice_get l 0) same)

-- none is left where each list has no next entry
pub none_left : (owns : List Own) (given : List ℕ) → ((i : ℕ) → i < length owns → head_of owns given i ≡ None) → left_of owns given ≡ []
none_left owns given none = by (rests owns given) all
  where
    all : (i : ℕ) (es : History) → slice_get (rests owns given) i ≡ Some es → es ≡ []
    all i es is =
        let lt : i < length owns = omega (arith, inside (rests owns given) i es is, length-rests owns given) in
        sym (some_same _ _ (sym (rest_at owns given i lt) ∙ is)) ∙ none_empty _ (get-drop (get_or given i 0) (entries_at owns i) ∙ none i lt)

    by : (lists : List History) → ((i : ℕ) (es : History) → slice_get lists i ≡ Some es → es ≡ []) → merged lists ≡ []
    by [] all = refl
    by (l ∷ lists) all = ap (λ (k : History). with_entries k (merged lists)) (all 0 l refl) ∙ by lists (λ i es is. all (suc i) es is)

-- ---- the least of the next entries, list by list

abbrev pub Borrowed : Type 0
Borrowed = ℕ × Bor Kept

abbrev plain_first : Borrowed → ℕ × HistoryEntry
plain_first x = (x.0, plain_kept x.1.now)

before_itself : (e : HistoryEntry) → is_lt (entry_cmp e.entry e.entry) ≡ false
before_itself e = by (entry_cmp e.entry e.entry) (entry_cmp_total.antisymm e.entry e.entry)
  where
    by : (r : Ordering) → r ≡ ordering_reverse r → is_lt r ≡ false
    by Less is = cc
    by Equal is = refl
    by Greater is = refl

not_both : (e f g : HistoryEntry) → is_lt (entry_cmp g.entry e.entry) ≡ false → is_lt (entry_cmp f.entry e.entry) ≡ true → is_lt (entry_cmp g.entry f.entry) ≡ false
not_both e f g later earlier = by (is_lt (entry_cmp g.entry f.entry)) refl
  where
    by : (b : Bool) → is_lt (entry_cmp g.entry f.entry) ≡ b → b ≡ false
    by false is = refl
    by true is = let both : is_lt (entry_cmp g.entry e.entry) ≡ true = ap is_lt (entry_cmp_total.trans g.entry f.entry e.entry (less _ is) (less _ earlier)) in cc

module _ (owns : List Own) (given : List ℕ) (n : ℕ) where
  -- none of the lists before this one has a next entry; or this is their least one
  abbrev pub Firsts : Option (ℕ × HistoryEntry) → Type 0
  Firsts first = MatchOption first ((k : ℕ) → k < n → head_of owns given k ≡ None) (λ x. IsFirstOf n owns given x.0 x.1)

module _ (owns : List Own) (given : List ℕ) (n : ℕ) where
  other_head : {P : Type 0} (k : ℕ) (f g : HistoryEntry) → head_of owns given n ≡ Some f → head_of owns given k ≡ Some g → k ≡ n → (g ≡ f → P) → P
  other_head k f g here there same onward = onward (let e : Some g ≡ Some f = sym there ∙ ap (head_of owns given) same ∙ here in cc)

  new_first : (x : ℕ × HistoryEntry) (f : HistoryEntry) → head_of owns given n ≡ Some f → IsFirstOf n owns given x.0 x.1 → (b : Bool) → is_lt (entry_cmp f.entry x.1.entry) ≡ b
      → Firsts owns given (n + 1) (if b then Some (n, f) else Some x)
  new_first x f here first true earlier = record {
    within = omega arith;
    head = here;
    least = λ k g lt is. elim (cases_lt k n) [
      | inl below ↦ not_both x.1 f g (first.least k g below is) earlier
      | inr above ↦ other_head k f g here is (omega (arith, lt, above)) (λ same. ap (λ (h : HistoryEntry). is_lt (entry_cmp h.entry f.entry)) same ∙ before_itself f)
    ];
  }
  new_first x f here first false later = record {
    within = omega (arith, first.within);
    head = first.head;
    least = λ k g lt is. elim (cases_lt k n) [
      | inl below ↦ first.least k g below is
      | inr above ↦ other_head k f g here is (omega (arith, lt, above)) (λ same. ap (λ (h : HistoryEntry). is_lt (entry_cmp h.entry x.1.entry)) same ∙ later)
    ];
  }

  one_more : (first : Option (ℕ × HistoryEntry)) (next : Option HistoryEntry) → Firsts owns given n first → head_of owns given n ≡ next → Firsts owns given (n + 1) (earlier_of first n next)
  one_more None None firsts here = λ k lt. elim (cases_lt k n) [
    | inl below ↦ firsts k below
    | inr above ↦ ap (head_of owns given) {x = k} {y = n} (omega (arith, lt, above)) ∙ here
  ]
  one_more None (Some f) firsts here = record {
    within = omega arith;
    head = here;
    least = λ k g lt is. elim (cases_lt k n) [
      | inl below ↦ let none = firsts k below in cc
      | inr above ↦ other_head k f g here is (omega (arith, lt, above)) (λ same. ap (λ (h : HistoryEntry). is_lt (entry_cmp h.entry f.entry)) same ∙ before_itself f)
    ];
  }
  one_more (Some x) None firsts here = record {
    within = omega (arith, firsts.within);
    head = firsts.head;
    least = λ k g lt is. elim (cases_lt k n) [
      | inl below ↦ firsts.least k g below is
      | inr above ↦ let none : head_of owns given k ≡ None = ap (head_of owns given) {x = k} {y = n} (omega (arith, lt, above)) ∙ here in cc
    ];
  }
  one_more (Some x) (Some f) firsts here = new_first x f here firsts (is_lt (entry_cmp f.entry x.1.entry)) refl

  to_plain : (m : ℕ) (first : Option Borrowed) → MatchOption first ((k : ℕ) → k < m → head_of owns given k ≡ None) (λ x. IsFirstOf m owns given x.0 (plain_kept x.1.now)) → Firsts owns given m (option_map plain_first first)
  to_plain m None firsts = firsts
  to_plain m (Some x) firsts = firsts

  from_plain : (m : ℕ) (first : Option Borrowed) → Firsts owns given m (option_map plain_first first) → MatchOption first ((k : ℕ) → k < m → head_of owns given k ≡ None) (λ x. IsFirstOf m owns given x.0 (plain_kept x.1.now))
  from_plain m None firsts = firsts
  from_plain m (Some x) firsts = firsts

  -- the least of one more list
  pub next_first : (first result : Option Borrowed) (next : Option HistoryEntry) → MatchOption first ((k : ℕ) → k < n → head_of owns given k ≡ None) (λ x. IsFirstOf n owns given x.0 (plain_kept x.1.now))
      → next ≡ head_of owns given n → option_map plain_first result ≡ earlier_of (option_map plain_first first) n next
      → MatchOption result ((k : ℕ) → k < n + 1 → head_of owns given k ≡ None) (λ x. IsFirstOf (n + 1) owns given x.0 (plain_kept x.1.now))
  next_first first result next firsts here is = from_plain (n + 1) result (subst (Firsts owns given (n + 1)) (sym is) (one_more (option_map plain_first first) next (to_plain n first firsts) (sym here)))

-- the least of all
pub all_first : (owns : List Own) (given : List ℕ) (n : ℕ) (first : Option Borrowed) → n ≡ length owns → MatchOption first ((k : ℕ) → k < n → head_of owns given k ≡ None) (λ x. IsFirstOf n owns given x.0 (plain_kept x.1.now))
    → MatchOption first (left_of owns given ≡ []) (λ x. IsFirst owns given x.0 (plain_kept x.1.now))
all_first owns given n None all firsts = none_left owns given (λ k lt. firsts k (omega (arith, lt, all)))
all_first owns given n (Some x) all firsts = subst (λ (m : ℕ). IsFirstOf m owns given x.0 (plain_kept x.1.now)) all firsts
