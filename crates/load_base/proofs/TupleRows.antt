-- The tuples of a load: in order, all there, and as many as are asked for.
use Rattle.std.proofs.Common.{◌≡◌, ℕ, ℤ, zero, suc, ◌+◌, ◌<◌, ◌≤◌, Bool, true, false, T, IsTrue, List, [], ◌∷◌, ◌++◌, map, length, Some, inl, inr, refl, sym, ap, subst, ◌∙◌, arith, Less, Equal, Greater, is_lt, is_eq, eq-or-lt_of_le}
use Rattle.std.specs.Cmp.{nat_cmp_is}
use Rattle.std.specs.List.{range_with_len}
use Rattle.std.specs.Ordering.{nat_cmp}
use Rattle.std.specs.FinMap as fin
use Rattle.std.specs.FinMap.{find, is_sorted, len-entries, entries-from_sorted, get-from_sorted}
use Rattle.std.specs.FinMap.Entries.{below_all}
use Rattle.std.proofs.lemmas.List.FromFn.{length-map-range_with_len, map-range_with_len_more}
use Rattle.txn_model.specs.Tuples.{tuple_cmp}
use Rattle.txn_model.specs.declared.op.TupleId.{TupleId}
use Rattle.load_base.specs.Load.{tuple, first_rows, first_tuples}

is_less : (a b : ℕ) → a < b → is_lt (nat_cmp a b) ≡ true
is_less a b h = ap is_lt (sym (nat_cmp_is a b Less h))

is_other : (a b : ℕ) → b < a → is_eq (nat_cmp a b) ≡ false
is_other a b h = ap is_eq (sym (nat_cmp_is a b Greater h))

is_same : (a : ℕ) → is_eq (nat_cmp a a) ≡ true
is_same a = ap is_eq (sym (nat_cmp_is a a Equal refl))

all_above : (v : ℤ) (x a n : ℕ) → x < a → below_all tuple_cmp (tuple x) (map (λ id. (tuple id, v)) (range_with_len a n)) ≡ true
all_above v x a zero h = refl
all_above v x a (suc n) h = rw (is_less x a h, all_above v x (a + 1) n (omega arith)) refl

rising : (v : ℤ) (a n : ℕ) → is_sorted tuple_cmp (map (λ id. (tuple id, v)) (range_with_len a n)) ≡ true
rising v a zero = refl
rising v a (suc n) = rw (all_above v a (a + 1) n (omega arith), rising v (a + 1) n) refl

pub are_sorted : (n : ℕ) (v : ℤ) → IsTrue (is_sorted tuple_cmp (first_rows n v))
are_sorted n v = rising v 0 n

found : (v : ℤ) (q a n : ℕ) → a ≤ q → q < a + n → find tuple_cmp (tuple q) (map (λ id. (tuple id, v)) (range_with_len a n)) ≡ Some v
found v q a zero low high = absurd (omega arith)
found v q a (suc n) low high =
    elim (eq-or-lt_of_le low) [
      | inl same ↦ (let e : is_eq (nat_cmp q a) ≡ true = ap (λ k. is_eq (nat_cmp q k)) same ∙ is_same q in rw e refl)
      | inr less ↦ (let e : is_eq (nat_cmp q a) ≡ false = is_other q a less in rw e (found v q (a + 1) n (omega arith) (omega arith)))
    ]

holds : (b : Bool) → IsTrue b → T b
holds b h = subst T (sym h) tt

pub is_there : (n q : ℕ) (v : ℤ) → q < n → fin.get (first_tuples n v) (tuple q) ≡ Some v
is_there n q v h = get-from_sorted tuple_cmp (first_rows n v) (tuple q) (holds _ (are_sorted n v)) ∙ found v q 0 n (omega arith) (omega arith)

pub how_many : (n : ℕ) (v : ℤ) → fin.len (first_tuples n v) ≡ n
how_many n v =
    len-entries (first_tuples n v)
    ∙ ap length (entries-from_sorted tuple_cmp (first_rows n v) (holds _ (are_sorted n v)))
    ∙ length-map-range_with_len (λ id. (tuple id, v)) 0 n

pub one_more : (rows : List (TupleId × ℤ)) (n : ℕ) (v : ℤ) → rows ≡ first_rows n v → rows ++ (tuple n, v) ∷ [] ≡ first_rows (n + 1) v
one_more rows n v so = ap (λ rs. rs ++ (tuple n, v) ∷ []) so ∙ sym (map-range_with_len_more (λ id. (tuple id, v)) 0 n n (omega arith))
