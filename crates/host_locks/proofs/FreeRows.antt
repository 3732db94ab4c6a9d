-- The rows of a table without locks.
use Rattle.std.proofs.Common.{◌≡◌, ℕ, Bool, true, false, cond, ◌&&◌, ◌||◌, ◌==◌, T, IsTrue, List, [], ◌∷◌, map, Some, None, is_some, refl, sym, ap, subst, ◌∙◌, Less, is_lt}
use Rattle.std.specs.FinMap as fin
use Rattle.std.specs.FinMap.Entries.{below_all}
use Rattle.std.specs.Option.{option_and_then}
use Rattle.std.specs.List.{AllByRecursion, dedup, dedup_from, list_any}
use Rattle.std.specs.List.Sorted.{IsPermutation, IsSorted, IsStrictlySortedBy}
use Rattle.std.specs.Cmp.{unsigned_tied, unsigned_ties}
use Rattle.std.proofs.lemmas.Bool.{eqb-true}
use Rattle.std.proofs.lemmas.List.Kept.{IsStrictlySortedBy-dedup}
use Rattle.std.proofs.lemmas.List.Sorted.{list_any-IsPermutation}
use Rattle.txn_model.specs.Tuples.{tuple_cmp}
use Rattle.txn_model.specs.declared.op.TupleId.{TupleId}
use Rattle.txn_model.proofs.TupleOrder.{tuple_cmp_total}
use Rattle.host_locks.specs.Locks.{has_tuple, mode_held}
use Rattle.host_locks.specs.Words.{PlainWord, free_word, mode_in}
use Rattle.host_locks.proofs.WordLaws.{none_free}

abbrev rows_of : List TupleId → List (TupleId × PlainWord)
rows_of ts = map (λ t. (t, free_word)) ts

-- rows stand in order where their tuples do
rows_below : (t : TupleId) (ts : List TupleId) → AllByRecursion (λ u. tuple_cmp t u ≡ Less) ts → below_all tuple_cmp t (rows_of ts) ≡ true
rows_below t [] h = refl
rows_below t (u ∷ ts) h = λ i. is_lt (h.0 i) && rows_below t ts h.1 i

rows_sorted : (ts : List TupleId) → IsStrictlySortedBy tuple_cmp ts → fin.is_sorted tuple_cmp (rows_of ts) ≡ true
unfolding IsStrictlySortedBy
rows_sorted [] h = refl
rows_sorted (t ∷ ts) h = λ i. rows_below t ts h.0 i && rows_sorted ts h.1 i

named : TupleId → List TupleId → Bool
named q ts = list_any (λ (t : TupleId). q.0 == t.0) ts

found : (q : TupleId) (ts : List TupleId) → fin.find tuple_cmp q (rows_of ts) ≡ cond (named q ts) (Some free_word) None
unfolding named
found q [] = refl
found q (t ∷ ts) =
    ap (λ b. cond b (Some free_word) (fin.find tuple_cmp q (rows_of ts))) (unsigned_tied q.0 t.0)
    ∙ elim (q.0 == t.0) as (λ b. cond b (Some free_word) (fin.find tuple_cmp q (rows_of ts)) ≡ cond (b || named q ts) (Some free_word) None) [
      | true ↦ refl
      | false ↦ found q ts
    ]

-- what was dropped was named before
named_from : (q t : TupleId) (ts : List TupleId) → named q (dedup_from (λ x y. x.0 == y.0) t ts) ≡ ((q.0 == t.0) || named q ts)
unfolding named
named_from q t [] = refl
named_from q t (u ∷ ts) =
    elim (u.0 == t.0) as (λ b. (u.0 == t.0) ≡ b → named q (cond b (dedup_from (λ x y. x.0 == y.0) t ts) (t ∷ dedup_from (λ x y. x.0 == y.0) u ts)) ≡ ((q.0 == t.0) || ((q.0 == u.0) || named q ts))) [
      | true ↦ λ e.
          named_from q t ts
          ∙ subst (λ n. ((q.0 == t.0) || named q ts) ≡ ((q.0 == t.0) || ((q.0 == n) || named q ts))) (sym (eqb-true _ _ e)) (twice (q.0 == t.0) (named q ts))
      | false ↦ λ e. ap (λ b. (q.0 == t.0) || b) (named_from q u ts)
    ] refl
  where
    twice : (a b : Bool) → (a || b) ≡ (a || (a || b))
    twice true b = refl
    twice false b = refl

named_kept : (q : TupleId) (ts : List TupleId) → named q (dedup (λ x y. x.0 == y.0) ts) ≡ named q ts
unfolding named
named_kept q [] = refl
named_kept q (t ∷ ts) = named_from q t ts

-- the table of given tuples, in any order and some of them maybe more than once
module _ (given sorted unlike : List TupleId) (es : List (TupleId × PlainWord)) (moved : IsPermutation given sorted) (rises : IsSorted tuple_cmp sorted)
    (kept : unlike ≡ dedup (λ x y. x.0 == y.0) sorted) (made : es ≡ map (λ t. (t, free_word)) unlike) where
  pub free_sorted : IsTrue (fin.is_sorted tuple_cmp es)
  free_sorted =
      subst (λ l. IsTrue (fin.is_sorted tuple_cmp l)) (sym made)
      (rows_sorted unlike (subst (IsStrictlySortedBy tuple_cmp) (sym kept) (IsStrictlySortedBy-dedup tuple_cmp_total (λ x y. unsigned_ties x.0 y.0) sorted rises)))

  read : (q : TupleId) → fin.get (fin.from_sorted {R = tuple_cmp} es) q ≡ cond (named q given) (Some free_word) None
  unfolding named
  read q =
      fin.get-from_sorted tuple_cmp es q (subst T (sym free_sorted) tt)
      ∙ ap (fin.find tuple_cmp q) made
      ∙ found q unlike
      ∙ ap (λ b. cond b (Some free_word) None) (ap (named q) kept ∙ named_kept q sorted ∙ sym (list_any-IsPermutation (λ t. q.0 == t.0) given sorted moved))

  pub free_tuples : (q : TupleId) → has_tuple (fin.from_sorted es) q ≡ list_any (λ t. q.0 == t.0) given
  unfolding named
  free_tuples q = ap is_some (read q) ∙ elim (named q given) as (λ b. is_some (cond b (Some free_word) None) ≡ b) [ true ↦ refl | false ↦ refl ]

  pub none_held : (q : TupleId) (client : ℕ) → mode_held (fin.from_sorted es) q client ≡ None
  none_held q client =
      ap (option_and_then (λ (word : PlainWord). mode_in word client)) (read q)
      ∙ elim (named q given) as (λ b. option_and_then (λ (word : PlainWord). mode_in word client) (cond b (Some free_word) None) ≡ None) [ true ↦ none_free client | false ↦ refl ]
