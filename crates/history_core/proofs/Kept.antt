-- A client's entries as they are kept.
use Rattle.std.proofs.Common.{◌≡◌, ◌≢◌, ℕ, zero, suc, ◌+◌, ◌-◌, ◌<◌, ◌≤◌, ◌==◌, Bool, true, false, List, [], ◌∷◌, ◌++◌, length, map, find, set, get_or, Option, Some, None, Result, Ok, Err, MatchResult, HoldsAt, is_some, if◌then◌else◌, inl, inr, refl, sym, ap, subst, ◌∙◌, arith, Ordering, Less, Equal, Greater}
use Rattle.std.specs.List.{AllByRecursion}
use Rattle.std.specs.List.Sorted.{IsBinarySearchResult, IsSearchInRange, IsPartitionPoint}
use Rattle.std.proofs.lemmas.Bool.{cases_lt}
use Rattle.std.specs.Ordering.{nat_cmp, ordering_index}
use Rattle.std.proofs.lemmas.Bool.Decides.{nat_tests}
use Rattle.std.proofs.lemmas.Map.Lookups.{exact_unsigned}
use Rattle.txn_model.specs.Listed.{Listed}
use Rattle.txn_model.specs.declared.pairs.Pair.{Pair}
use Rattle.history_model.specs.History.{HistoryEntry, History}
use Rattle.history_model.specs.declared.entry.Entry.{Entry}
use Rattle.history_core.specs.Own.{IsBefore, IsRising, plain_kept, without_open}
use Rattle.history_core.specs.declared.own_entries.Kept.{Kept}

-- ---- the last entry

pub answered_end : (kepts : List Kept) (m : ℕ) (k : Kept) (pairs : Listed Pair) (ps : List Pair) (before : History) (entry : Entry) → suc m ≡ length kepts → k ≡ get_or kepts m k → pairs.items ≡ ps
    → map plain_kept kepts ≡ before ++ record { entry = entry; pairs = None } ∷ []
    → map plain_kept (set kepts m (record { entry = k.entry; is_answered = true; pairs = pairs })) ≡ before ++ record { entry = entry; pairs = Some ps } ∷ []
answered_end [] m k pairs ps before entry len is items ends = absurd (omega (arith, len))
answered_end (x ∷ []) zero k pairs ps [] entry len is items ends =
    ap (λ (e : Entry). record { entry = e; pairs = Some pairs.items } ∷ []) (ap (λ (y : Kept). y.entry) is ∙ same) ∙ ap (λ (l : List Pair). record { entry = entry; pairs = Some l } ∷ []) items
  where
    same : x.entry ≡ entry
    same = let e : plain_kept x ≡ record { entry = entry; pairs = None } = cc in ap (λ (h : HistoryEntry). h.entry) e
answered_end (x ∷ []) zero k pairs ps (b ∷ bs) entry len is items ends = absurd (omega (arith, ap length ends, long bs))
  where
    long : (bs : History) → 1 ≤ length (bs ++ record { entry = entry; pairs = None } ∷ [])
    long [] = omega arith
    long (b ∷ bs) = omega arith
answered_end (x ∷ []) (suc m) k pairs ps before entry len is items ends = absurd (omega (arith, len))
answered_end (x ∷ y ∷ kepts) zero k pairs ps before entry len is items ends = absurd (omega (arith, len))
answered_end (x ∷ y ∷ kepts) (suc m) k pairs ps [] entry len is items ends = absurd (omega (arith, ap length ends))
answered_end (x ∷ y ∷ kepts) (suc m) k pairs ps (b ∷ bs) entry len is items ends =
    let first : plain_kept x ≡ b = cc in
    let rest : map plain_kept (y ∷ kepts) ≡ bs ++ record { entry = entry; pairs = None } ∷ [] = cc in
    ap (λ (e : HistoryEntry). e ∷ map plain_kept (set (y ∷ kepts) m (record { entry = k.entry; is_answered = true; pairs = pairs }))) first
    ∙ ap (λ (h : History). b ∷ h) (answered_end (y ∷ kepts) m k pairs ps bs entry (omega (arith, len)) is items rest)

module _ (k : Kept) where
  pub stays : (kepts : List Kept) → k.is_answered ≡ true → map plain_kept (kepts ++ k ∷ []) ≡ without_open (map plain_kept (kepts ++ k ∷ []))
  stays [] is = ap (λ (b : Bool). if is_some (if b then Some k.pairs.items else None) then plain_kept k ∷ [] else []) (sym is)
  stays (x ∷ []) is = ap (λ (h : History). plain_kept x ∷ h) (stays [] is)
  stays (x ∷ y ∷ kepts) is = ap (λ (h : History). plain_kept x ∷ h) (stays (y ∷ kepts) is)

  pub goes : (kepts : List Kept) → k.is_answered ≡ false → map plain_kept kepts ≡ without_open (map plain_kept (kepts ++ k ∷ []))
  goes [] is = ap (λ (b : Bool). if is_some (if b then Some k.pairs.items else None) then plain_kept k ∷ [] else []) (sym is)
  goes (x ∷ []) is = ap (λ (h : History). plain_kept x ∷ h) (goes [] is)
  goes (x ∷ y ∷ kepts) is = ap (λ (h : History). plain_kept x ∷ h) (goes (y ∷ kepts) is)

-- ---- the search by number

seq_later : (x : Kept) (kepts : List Kept) (j : ℕ) (d : Kept) → AllByRecursion (IsBefore (plain_kept x)) (map plain_kept kepts) → j < length kepts → x.entry.seq < (get_or kepts j d).entry.seq
seq_later x [] j d all lt = absurd (omega (arith, lt))
seq_later x (y ∷ kepts) zero d all lt = all.0.seq
seq_later x (y ∷ kepts) (suc j) d all lt = seq_later x kepts j d all.1 (omega (arith, lt))

seq_rises : (kepts : List Kept) (i j : ℕ) (d : Kept) → IsRising (map plain_kept kepts) → i ≤ j → j < length kepts → (get_or kepts i d).entry.seq ≤ (get_or kepts j d).entry.seq
seq_rises [] i j d rising le lt = absurd (omega (arith, lt))
seq_rises (x ∷ kepts) zero zero d rising le lt = omega arith
seq_rises (x ∷ kepts) zero (suc j) d rising le lt = omega (arith, seq_later x kepts j d rising.0 (omega (arith, lt)))
seq_rises (x ∷ kepts) (suc i) zero d rising le lt = absurd (omega (arith, le))
seq_rises (x ∷ kepts) (suc i) (suc j) d rising le lt = seq_rises kepts i j d rising.1 (omega (arith, le)) (omega (arith, lt))

index_rises : (a b s : ℕ) → a ≤ b → ordering_index (nat_cmp a s) ≤ ordering_index (nat_cmp b s)
index_rises a b s le = grind (arith, nat_tests)

equal_is : (a b : ℕ) → a ≡ b → (a == b) ≡ true
equal_is a b e = grind arith

other_is : (a b : ℕ) → a ≢ b → (a == b) ≡ false
other_is a b e = grind arith

tie_is : (a b : ℕ) → a ≡ b → nat_cmp a b ≡ Equal
tie_is a b e = grind (arith, nat_tests)

module _ (seq : ℕ) where
  abbrev is_its : HistoryEntry → Bool
  is_its e = e.entry.seq == seq

  at_place : (kepts : List Kept) (i : ℕ) (d : Kept) → IsRising (map plain_kept kepts) → i < length kepts → (get_or kepts i d).entry.seq ≡ seq → Some (plain_kept (get_or kepts i d)) ≡ find is_its (map plain_kept kepts)
  at_place [] i d rising lt is = absurd (omega (arith, lt))
  at_place (x ∷ kepts) zero d rising lt is = ap (λ (b : Bool). if b then Some (plain_kept x) else find is_its (map plain_kept kepts)) (sym (equal_is x.entry.seq seq is))
  at_place (x ∷ kepts) (suc i) d rising lt is =
      let before = seq_later x kepts i d rising.0 (omega (arith, lt)) in
      at_place kepts i d rising.1 (omega (arith, lt)) is
      ∙ ap (λ (b : Bool). if b then Some (plain_kept x) else find is_its (map plain_kept kepts)) (sym (other_is x.entry.seq seq (λ e. absurd (omega (arith, before, is, e)))))

  nowhere : (kepts : List Kept) → ((i : ℕ) (d : Kept) → i < length kepts → (get_or kepts i d).entry.seq ≢ seq) → None ≡ find is_its (map plain_kept kepts)
  nowhere [] none = refl
  nowhere (x ∷ kepts) none =
      nowhere kepts (λ i d lt. none (suc i) d (omega (arith, lt)))
      ∙ ap (λ (b : Bool). if b then Some (plain_kept x) else find is_its (map plain_kept kepts)) (sym (other_is x.entry.seq seq (none 0 x (omega arith))))

  module _ (kepts : List Kept) (rising : IsRising (map plain_kept kepts)) (r : Result ℕ ℕ) (range : IsSearchInRange r (length kepts)) (result : IsBinarySearchResult (λ (k : Kept). nat_cmp k.entry.seq seq) kepts r) where
    pub found : (at : ℕ) (k : Kept) → r ≡ Ok at → k ≡ get_or kepts at k → Some (plain_kept k) ≡ find is_its (map plain_kept kepts)
    found at k is here =
        let bound = subst (λ (x : Result ℕ ℕ). IsSearchInRange x (length kepts)) is range in
        let holds = subst (λ (x : Result ℕ ℕ). IsBinarySearchResult (λ (y : Kept). nat_cmp y.entry.seq seq) kepts x) is result in
        ap (λ (x : Kept). Some (plain_kept x)) here ∙ at_place kepts at k rising bound (exact_unsigned (get_or kepts at k).entry.seq seq (holds k))

    pub not_found : (place : ℕ) → r ≡ Err place → None ≡ find is_its (map plain_kept kepts)
    not_found place is =
        let point = subst (λ (x : Result ℕ ℕ). IsBinarySearchResult (λ (y : Kept). nat_cmp y.entry.seq seq) kepts x) is result (λ i j d le lt. index_rises (get_or kepts i d).entry.seq (get_or kepts j d).entry.seq seq (seq_rises kepts i j d rising le lt)) in
        nowhere kepts (λ i d lt same. clash i d lt same point)
      where
        clash : (i : ℕ) (d : Kept) → i < length kepts → (get_or kepts i d).entry.seq ≡ seq → IsPartitionPoint (λ (k : Kept). nat_cmp k.entry.seq seq ≡ Less) (λ (k : Kept). nat_cmp k.entry.seq seq ≡ Greater) kepts place → ⊥
        clash i d lt same point =
            let tied = tie_is (get_or kepts i d).entry.seq seq same in
            elim (cases_lt i place) [
              | inl below ↦ let l = point.0 i d (omega arith) below in cc
              | inr above ↦ let g = point.1 i d (omega (arith, above)) lt in cc
            ]
