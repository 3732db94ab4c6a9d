-- A client's present item, and the entries of its client.
use Rattle.std.proofs.Common.{◌≡◌, ◌≢◌, ℕ, zero, suc, ◌<◌, ◌≤◌, ◌==◌, ◌&&◌, Bool, true, false, List, [], ◌∷◌, ◌++◌, map, filter, length, Option, Some, None, unwrap_or, refl, ap, subst, ◌∙◌, arith, if◌then◌else◌}
use Rattle.std.specs.Prelude.{Contains, slice_index_or}
use Rattle.std.specs.List.{AllByRecursion}
use Rattle.std.proofs.lemmas.Bool.Decides.{nat_tests}
use Rattle.txn_model.specs.declared.op.Op.{Op}
use Rattle.txn_model.specs.declared.pairs.Pair.{Pair}
use Rattle.history_model.specs.History.{HistoryEntry, History}
use Rattle.history_model.specs.InOrder.{seqs_of}
use Rattle.history_core.specs.Answers.{entries_of, HasNone, with_reply}
use Rattle.history_core.specs.Runs.{ops_at, runs_of}
use Rattle.history_core.proofs.Callers.{ops_known}
use Rattle.catalogue.specs.Plan.{Plan, script_of, script_at}
use Rattle.core_model.specs.Laws.{IsAscending}

-- a script with an operation is that of an item
script_there : (o : Option (List Op)) (ops : List Op) → unwrap_or o [] ≡ ops → 1 ≤ length ops → o ≡ Some ops
script_there None ops is some = absurd (omega (arith, some, ap length is))
script_there (Some script) ops is some = ap (λ (l : List Op). Some l) is

-- and its item is a transaction of the session
pub ops_of_item : (plan : Plan) (c seq : ℕ) → 1 ≤ length (script_at plan c seq) → ops_at (runs_of plan) c seq ≡ Some (length (script_at plan c seq))
ops_of_item plan c seq some = ops_known plan c seq (script_at plan c seq) (script_there (script_of plan c seq) (script_at plan c seq) refl some)

equal : (a b : ℕ) → (a == b) ≡ true → a ≡ b
equal a b is = grind (arith, nat_tests)

itself : (n : ℕ) → (n == n) ≡ true
itself n = grind (arith, nat_tests)

below : (a b : ℕ) → a < b → (a == b) ≡ false
below a b lt = grind (arith, nat_tests)

apart : (n m : ℕ) → (n == m) ≡ false → n ≢ m
apart n m is same = let here : (n == m) ≡ true = grind arith in cc

-- what holds of the numbers of a client's entries holds of its entries
pub each_own : (P : ℕ → Type 0) (c : ℕ) (h : History) → AllByRecursion P (seqs_of c h) → AllByRecursion (λ e. e.entry.client ≡ c → P e.entry.seq) h
each_own P c [] all = tt
each_own P c (e ∷ h) all = by (e.entry.client == c) refl all (each_own P c h)
  where
    by : (b : Bool) → (e.entry.client == c) ≡ b → AllByRecursion P (map (λ f. f.entry.seq) (if b then e ∷ filter (λ f. f.entry.client == c) h else filter (λ f. f.entry.client == c) h))
        → (AllByRecursion P (seqs_of c h) → AllByRecursion (λ f. f.entry.client ≡ c → P f.entry.seq) h) → AllByRecursion (λ f. f.entry.client ≡ c → P f.entry.seq) (e ∷ h)
    by true is p rest = (λ own. p.0, rest p.1)
    by false is p rest = (λ own. absurd (apart e.entry.client c is own), rest p)

-- a history around one of its entries
pub record Around (h : History) (e : HistoryEntry) : Type 0 where
  pub before : History
  pub behind : History
  pub whole : h ≡ before ++ e ∷ behind

pub around : (h : History) (e : HistoryEntry) → Contains h e → Around h e
around h e there = at h there.0 there.1 there.2
  where
    at : (l : History) (i : ℕ) → i < length l → slice_index_or l i e ≡ e → Around l e
    at [] i lt is = absurd (omega arith)
    at (f ∷ l) zero lt is = record { before = []; behind = l; whole = ap (λ (g : HistoryEntry). g ∷ l) is }
    at (f ∷ l) (suc i) lt is = let rest = at l i (omega arith) is in record { before = f ∷ rest.before; behind = rest.behind; whole = ap (λ (k : History). f ∷ k) rest.whole }

module _ (c : ℕ) (e : HistoryEntry) (own : e.entry.client ≡ c) where
  mine : (e.entry.client == c) ≡ true
  mine = ap (λ (n : ℕ). n == c) own ∙ itself c

  -- the numbers of a client's entries around one of them
  seqs_around : (before behind : History) → seqs_of c (before ++ e ∷ behind) ≡ seqs_of c before ++ e.entry.seq ∷ seqs_of c behind
  seqs_around [] behind = ap (λ (b : Bool). map (λ f. f.entry.seq) (if b then e ∷ entries_of c behind else entries_of c behind)) mine
  seqs_around (f ∷ before) behind = by (f.entry.client == c) (seqs_around before behind)
    where
      by : (b : Bool) → seqs_of c (before ++ e ∷ behind) ≡ seqs_of c before ++ e.entry.seq ∷ seqs_of c behind
          → map (λ g. g.entry.seq) (if b then f ∷ entries_of c (before ++ e ∷ behind) else entries_of c (before ++ e ∷ behind)) ≡ map (λ g. g.entry.seq) (if b then f ∷ entries_of c before else entries_of c before) ++ e.entry.seq ∷ seqs_of c behind
      by true rest = ap (λ (l : List ℕ). f.entry.seq ∷ l) rest
      by false rest = rest

  entries_around : (before behind : History) → entries_of c (before ++ e ∷ behind) ≡ entries_of c before ++ e ∷ entries_of c behind
  entries_around [] behind = ap (λ (b : Bool). if b then e ∷ entries_of c behind else entries_of c behind) mine
  entries_around (f ∷ before) behind = by (f.entry.client == c) (entries_around before behind)
    where
      by : (b : Bool) → entries_of c (before ++ e ∷ behind) ≡ entries_of c before ++ e ∷ entries_of c behind
          → (if b then f ∷ entries_of c (before ++ e ∷ behind) else entries_of c (before ++ e ∷ behind)) ≡ (if b then f ∷ entries_of c before else entries_of c before) ++ e ∷ entries_of c behind
      by true rest = ap (λ (l : History). f ∷ l) rest
      by false rest = rest

  -- those before one in an ascending list are below it
  below_it : (l r : List ℕ) (n : ℕ) → IsAscending (l ++ n ∷ r) → AllByRecursion (λ m. m < n) l
  below_it [] r n up = tt
  below_it (m ∷ l) r n up = (first_of l up.0, below_it l r n up.1)
    where
      first_of : (k : List ℕ) → AllByRecursion (λ q. m < q) (k ++ n ∷ r) → m < n
      first_of [] all = all.0
      first_of (q ∷ k) all = first_of k all.1

  -- none stands behind one that is at least as large as all
  none_above : (l r : List ℕ) (n : ℕ) → IsAscending (l ++ n ∷ r) → AllByRecursion (λ m. m ≤ n) (l ++ n ∷ r) → r ≡ []
  none_above [] [] n up most = refl
  none_above [] (m ∷ r) n up most = absurd (omega (arith, up.0.0, most.1.0))
  none_above (q ∷ l) r n up most = none_above l r n up.1 most.1

  none_left : (l : History) → map (λ f. f.entry.seq) l ≡ [] → l ≡ []
  none_left [] is = refl
  none_left (f ∷ l) is = cc

  -- of entries that rise, and of which none is above this one, it is the client's last
  pub is_last : (before behind : History) → IsAscending (seqs_of c (before ++ e ∷ behind)) → AllByRecursion (λ m. m ≤ e.entry.seq) (seqs_of c (before ++ e ∷ behind)) → entries_of c (before ++ e ∷ behind) ≡ entries_of c before ++ e ∷ []
  is_last before behind up most =
      let here = seqs_around before behind in
      let none = none_above (seqs_of c before) (seqs_of c behind) e.entry.seq (subst IsAscending here up) (subst (AllByRecursion (λ m. m ≤ e.entry.seq)) here most) in
      entries_around before behind ∙ ap (λ (l : History). entries_of c before ++ e ∷ l) (none_left (entries_of c behind) none)

  none_before : (h : History) → AllByRecursion (λ f. f.entry.client ≡ c → f.entry.seq < e.entry.seq) h → HasNone c e.entry.seq h
  none_before [] all = tt
  none_before (f ∷ h) all = (by (f.entry.client == c) refl, none_before h all.1)
    where
      by : (b : Bool) → (f.entry.client == c) ≡ b → (b && (f.entry.seq == e.entry.seq)) ≡ false
      by true is = below f.entry.seq e.entry.seq (all.0 (equal f.entry.client c is))
      by false is = refl

  reply_front : (pairs : List Pair) (before behind : History) → HasNone c e.entry.seq before → with_reply c e.entry.seq pairs (before ++ e ∷ behind) ≡ before ++ record e { pairs = Some pairs } ∷ behind
  reply_front pairs [] behind none = ap (λ (b : Bool). if b then record e { pairs = Some pairs } ∷ behind else e ∷ with_reply c e.entry.seq pairs behind) (ap (λ (b : Bool). b && (e.entry.seq == e.entry.seq)) mine ∙ itself e.entry.seq)
  reply_front pairs (f ∷ before) behind none =
      ap (λ (b : Bool). if b then record { entry = f.entry; pairs = Some pairs } ∷ (before ++ e ∷ behind) else f ∷ with_reply c e.entry.seq pairs (before ++ e ∷ behind)) none.0
      ∙ ap (λ (l : History). f ∷ l) (reply_front pairs before behind none.1)

  -- to answer the item is to answer this entry
  pub replied_around : (pairs : List Pair) (before behind : History) → IsAscending (seqs_of c (before ++ e ∷ behind)) → with_reply c e.entry.seq pairs (before ++ e ∷ behind) ≡ before ++ record e { pairs = Some pairs } ∷ behind
  replied_around pairs before behind up =
      reply_front pairs before behind
      (none_before before (each_own (λ m. m < e.entry.seq) c before (below_it (seqs_of c before) (seqs_of c behind) e.entry.seq (subst IsAscending (seqs_around before behind) up))))
