-- An entry that is put at its place in a history.
use Rattle.std.proofs.Common.{◌≡◌, ◌≢◌, ℕ, suc, Bool, true, false, [], ◌∷◌, length, filter, if◌then◌else◌, refl, sym, ap, ◌∙◌, Ordering, Less, Equal, Greater, is_lt}
use Rattle.std.specs.List.{AllByRecursion}
use Rattle.std.specs.Ordering.{ordering_reverse}
use Rattle.std.specs.Cmp.{IsTotalOrder, nat_cmp_total}
use Rattle.std.proofs.lemmas.Cmp.{on_total, then_total}
use Rattle.history_model.specs.History.{HistoryEntry, History, IsInStampOrder, entry_cmp, with_entry}
use Rattle.history_model.specs.declared.entry.Entry.{Entry}

pub entry_cmp_total : IsTotalOrder entry_cmp
entry_cmp_total = then_total (then_total (on_total (λ (e : Entry). e.stamp.number) nat_cmp_total) (on_total (λ (e : Entry). e.stamp.sub) nat_cmp_total)) (on_total (λ (e : Entry). e.client) nat_cmp_total)

pub less : (r : Ordering) → is_lt r ≡ true → r ≡ Less
less Less h = refl
less Equal h = cc
less Greater h = cc

-- it stands before each of these
abbrev pub IsBelowAll : HistoryEntry → History → Type 0
IsBelowAll e h = AllByRecursion (λ f. entry_cmp e.entry f.entry ≡ Less) h

-- it ties with none of these
abbrev pub IsApart : HistoryEntry → History → Type 0
IsApart e h = AllByRecursion (λ f. entry_cmp e.entry f.entry ≢ Equal) h

pub below_all : (e f : HistoryEntry) (h : History) → entry_cmp e.entry f.entry ≡ Less → IsBelowAll f h → IsBelowAll e h
below_all e f [] lt all = tt
below_all e f (g ∷ h) lt all = (entry_cmp_total.trans e.entry f.entry g.entry lt all.0, below_all e f h lt all.1)

module _ (e f : HistoryEntry) (h : History) where
  pub with_front : is_lt (entry_cmp e.entry f.entry) ≡ true → with_entry e (f ∷ h) ≡ e ∷ f ∷ h
  with_front is = ap (λ (b : Bool). if b then e ∷ f ∷ h else f ∷ with_entry e h) is

  pub with_later : is_lt (entry_cmp e.entry f.entry) ≡ false → with_entry e (f ∷ h) ≡ f ∷ with_entry e h
  with_later is = ap (λ (b : Bool). if b then e ∷ f ∷ h else f ∷ with_entry e h) is

pub before_all : (e : HistoryEntry) (h : History) → IsBelowAll e h → with_entry e h ≡ e ∷ h
before_all e [] all = refl
before_all e (f ∷ h) all = with_front e f h (ap is_lt all.0)

pub all-with_entry : (P : HistoryEntry → Type 0) (e : HistoryEntry) (h : History) → AllByRecursion P h → P e → AllByRecursion P (with_entry e h)
all-with_entry P e [] all here = (here, tt)
all-with_entry P e (f ∷ h) all here =
    elim (is_lt (entry_cmp e.entry f.entry)) as (λ b. AllByRecursion P (if b then e ∷ f ∷ h else f ∷ with_entry e h)) [
      | true ↦ (here, all)
      | false ↦ (all.0, all-with_entry P e h all.1 here)
    ]

pub length-with_entry : (e : HistoryEntry) (h : History) → length (with_entry e h) ≡ suc (length h)
length-with_entry e [] = refl
length-with_entry e (f ∷ h) =
    elim (is_lt (entry_cmp e.entry f.entry)) as (λ b. length (if b then e ∷ f ∷ h else f ∷ with_entry e h) ≡ suc (suc (length h))) [
      | true ↦ refl
      | false ↦ ap suc (length-with_entry e h)
    ]

-- a history stays in order where the new entry ties with none
pub sorted-with_entry : (e : HistoryEntry) (h : History) → IsInStampOrder h → IsApart e h → IsInStampOrder (with_entry e h)
sorted-with_entry e [] sorted new = (tt, tt)
sorted-with_entry e (f ∷ h) sorted new =
    elim (entry_cmp e.entry f.entry) as (λ r. entry_cmp e.entry f.entry ≡ r → IsInStampOrder (if is_lt r then e ∷ f ∷ h else f ∷ with_entry e h)) [
      | Less ↦ λ is. ((is, below_all e f h is sorted.0), sorted)
      | Equal ↦ λ is. absurd (new.0 is)
      | Greater ↦ λ is. (all-with_entry (λ g. entry_cmp f.entry g.entry ≡ Less) e h sorted.0 (entry_cmp_total.antisymm f.entry e.entry ∙ ap ordering_reverse is), sorted-with_entry e h sorted.1 new.1)
    ] refl

-- two entries that don't tie can be put in in either order
module _ (a b : HistoryEntry) (lt : entry_cmp a.entry b.entry ≡ Less) where
  not_back : is_lt (entry_cmp b.entry a.entry) ≡ false
  not_back = ap is_lt (entry_cmp_total.antisymm b.entry a.entry ∙ ap ordering_reverse lt)

  in_turn : (h : History) → with_entry a (with_entry b h) ≡ with_entry b (with_entry a h)
  in_turn [] = with_front a b [] (ap is_lt lt) ∙ sym (with_later b a [] not_back)
  in_turn (f ∷ h) = by (is_lt (entry_cmp a.entry f.entry)) (is_lt (entry_cmp b.entry f.entry)) (in_turn h) refl refl
    where
      by : (p q : Bool) → with_entry a (with_entry b h) ≡ with_entry b (with_entry a h) → is_lt (entry_cmp a.entry f.entry) ≡ p → is_lt (entry_cmp b.entry f.entry) ≡ q → with_entry a (with_entry b (f ∷ h)) ≡ with_entry b (with_entry a (f ∷ h))
      by true true rest p q =
          ap (with_entry a) (with_front b f h q) ∙ with_front a b (f ∷ h) (ap is_lt lt)
          ∙ sym (ap (with_entry b) (with_front a f h p) ∙ with_later b a (f ∷ h) not_back ∙ ap (λ (l : History). a ∷ l) (with_front b f h q))
      by true false rest p q =
          ap (with_entry a) (with_later b f h q) ∙ with_front a f (with_entry b h) p
          ∙ sym (ap (with_entry b) (with_front a f h p) ∙ with_later b a (f ∷ h) not_back ∙ ap (λ (l : History). a ∷ l) (with_later b f h q))
      by false true rest p q =
          let both : is_lt (entry_cmp a.entry f.entry) ≡ true = ap is_lt (entry_cmp_total.trans a.entry b.entry f.entry lt (less _ q)) in
          cc
      by false false rest p q =
          ap (with_entry a) (with_later b f h q) ∙ with_later a f (with_entry b h) p ∙ ap (λ (l : History). f ∷ l) rest
          ∙ sym (ap (with_entry b) (with_later a f h p) ∙ with_later b f (with_entry a h) q)

pub swapped : (a b : HistoryEntry) (h : History) → entry_cmp a.entry b.entry ≢ Equal → with_entry a (with_entry b h) ≡ with_entry b (with_entry a h)
swapped a b h apart =
    elim (entry_cmp a.entry b.entry) as (λ r. entry_cmp a.entry b.entry ≡ r → with_entry a (with_entry b h) ≡ with_entry b (with_entry a h)) [
      | Less ↦ λ is. in_turn a b is h
      | Equal ↦ λ is. absurd (apart is)
      | Greater ↦ λ is. sym (in_turn b a (entry_cmp_total.antisymm b.entry a.entry ∙ ap ordering_reverse is) h)
    ] refl

module _ (p : HistoryEntry → Bool) where
  pub all-filter : (P : HistoryEntry → Type 0) (h : History) → AllByRecursion P h → AllByRecursion P (filter p h)
  all-filter P [] all = tt
  all-filter P (f ∷ h) all =
      elim (p f) as (λ b. AllByRecursion P (if b then f ∷ filter p h else filter p h)) [
        | true ↦ (all.0, all-filter P h all.1)
        | false ↦ all-filter P h all.1
      ]

  -- of those that pass a test, the new one stands at its place too
  pub filter-with_entry : (e : HistoryEntry) (h : History) → IsInStampOrder h → filter p (with_entry e h) ≡ (if p e then with_entry e (filter p h) else filter p h)
  filter-with_entry e [] sorted = elim (p e) as (λ b. (if b then e ∷ [] else []) ≡ (if b then with_entry e [] else [])) [ true ↦ refl | false ↦ refl ]
  filter-with_entry e (f ∷ h) sorted = by (is_lt (entry_cmp e.entry f.entry)) (filter-with_entry e h sorted.1) refl
    where
      first : is_lt (entry_cmp e.entry f.entry) ≡ true → (b : Bool) → (if b then e ∷ filter p (f ∷ h) else filter p (f ∷ h)) ≡ (if b then with_entry e (filter p (f ∷ h)) else filter p (f ∷ h))
      first is true = sym (before_all e (filter p (f ∷ h)) (all-filter (λ g. entry_cmp e.entry g.entry ≡ Less) (f ∷ h) (less _ is, below_all e f h (less _ is) sorted.0)))
      first is false = refl

      later : is_lt (entry_cmp e.entry f.entry) ≡ false → (b d : Bool)
          → (if d then f ∷ (if b then with_entry e (filter p h) else filter p h) else (if b then with_entry e (filter p h) else filter p h))
          ≡ (if b then with_entry e (if d then f ∷ filter p h else filter p h) else (if d then f ∷ filter p h else filter p h))
      later is true true = sym (with_later e f (filter p h) is)
      later is true false = refl
      later is false true = refl
      later is false false = refl

      by : (b : Bool) → filter p (with_entry e h) ≡ (if p e then with_entry e (filter p h) else filter p h) → is_lt (entry_cmp e.entry f.entry) ≡ b → filter p (with_entry e (f ∷ h)) ≡ (if p e then with_entry e (filter p (f ∷ h)) else filter p (f ∷ h))
      by true rest is = ap (filter p) (with_front e f h is) ∙ first is (p e)
      by false rest is =
          ap (filter p) (with_later e f h is)
          ∙ ap (λ (l : History). if p f then f ∷ l else l) rest
          ∙ later is (p e) (p f)
