-- What is read from the rows of a table, and what a write to one does to its locks.
use Rattle.std.proofs.Common.{◌≡◌, ℕ, ◌<◌, Bool, true, false, cond, eqb, ◌&&◌, T, IsTrue, List, length, get_or, set, Some, None, Option, IsSome, is_some, inl, inr, refl, sym, ap, subst, ◌∙◌, arith, Equal}
use Rattle.std.specs.FinMap as fin
use Rattle.std.specs.Cmp.{unsigned_tied}
use Rattle.std.specs.Option.{option_and_then}
use Rattle.std.proofs.lemmas.Bool.{cases_eq}
use Rattle.std.proofs.lemmas.Bool.Decides.{nat_tests}
use Rattle.txn_model.specs.Tuples.{tuple_cmp}
use Rattle.txn_model.specs.declared.op.TupleId.{TupleId}
use Rattle.txn_model.proofs.SortedRows.{get_at, get_absent, insert_at}
use Rattle.txn_model.proofs.TupleOrder.{tuple_cmp_total, tuple_cmp_exact}
use Rattle.host_locks.specs.Conflict.{stops, IsInTheWay}
use Rattle.host_locks.specs.Locks.{Locks, has_tuple, mode_held, in_the_way, IsWithLock}
use Rattle.host_locks.specs.Words.{PlainWord, mode_in, stands_in}
use Rattle.host_locks.specs.declared.mode.Mode.{Mode}

holds : {b : Bool} → IsTrue b → T b
holds h = subst T (sym h) tt

mode_from : ℕ → Option PlainWord → Option Mode
mode_from client o = option_and_then (λ (word : PlainWord). mode_in word client) o

-- the word of a tuple, as the table's clients see it
module _ (locks : Locks) (tuple : TupleId) (word : PlainWord) (is : fin.get locks tuple ≡ Some word) where
  pub mode_read : (client : ℕ) → mode_held locks tuple client ≡ mode_in word client
  unfolding mode_from
  mode_read client = ap (mode_from client) is

  pub way_read : (mode : Mode) (client : ℕ) (r : Option ℕ) → IsInTheWay (stands_in word mode) client r → IsInTheWay (in_the_way locks tuple mode) client r
  way_read mode client r way = subst (λ o. IsInTheWay (λ d. stops mode (option_and_then (λ (w : PlainWord). mode_in w d) o)) client r) (sym is) way

  -- another word there, in which one client's lock is another one
  module _ (new : PlainWord) (client : ℕ) (mode : Option Mode) (changed : (c : ℕ) → mode_in new c ≡ cond (eqb c client) mode (mode_in word c)) where
    at : (t : TupleId) → fin.get (fin.insert locks tuple new) t ≡ cond (eqb t.0 tuple.0) (Some new) (fin.get locks t)
    at t = fin.get-insert tuple_cmp_total locks tuple new t ∙ ap (λ b. cond b (Some new) (fin.get locks t)) (unsigned_tied t.0 tuple.0)

    there : (t : TupleId) → t.0 ≡ tuple.0 → fin.get locks t ≡ Some word
    there t e = subst (λ n. fin.get locks (record { 0 = n }) ≡ Some word) (sym e) is

    held : (t : TupleId) (c : ℕ) → mode_held (fin.insert locks tuple new) t c ≡ cond (eqb t.0 tuple.0 && eqb c client) mode (mode_held locks t c)
    unfolding mode_from
    held t c =
        elim (cases_eq t.0 tuple.0) [
          | inl e ↦
              let same : eqb t.0 tuple.0 ≡ true = grind (arith, nat_tests) in
              rw same (ap (mode_from c) (at t ∙ ap (λ b. cond b (Some new) (fin.get locks t)) same) ∙ changed c ∙ ap (λ o. cond (eqb c client) mode (mode_from c o)) (sym (there t e)))
          | inr ne ↦
              let apart : eqb t.0 tuple.0 ≡ false = grind (arith, nat_tests) in
              rw apart (ap (mode_from c) (at t ∙ ap (λ b. cond b (Some new) (fin.get locks t)) apart))
        ]

    pub with_lock : IsWithLock locks (fin.insert locks tuple new) tuple client mode
    with_lock = record {
      held = held;
      tuples = λ t. elim (cases_eq t.0 tuple.0) [
        | inl e ↦
            let same : eqb t.0 tuple.0 ≡ true = grind (arith, nat_tests) in
            ap is_some (at t ∙ ap (λ b. cond b (Some new) (fin.get locks t)) same) ∙ ap is_some (sym (there t e))
        | inr ne ↦
            let apart : eqb t.0 tuple.0 ≡ false = grind (arith, nat_tests) in
            ap is_some (at t ∙ ap (λ b. cond b (Some new) (fin.get locks t)) apart)
      ];
    }

module _ (es : List (TupleId × PlainWord)) (sorted : IsTrue (fin.is_sorted tuple_cmp es)) (locks : Locks) (view : fin.from_sorted es ≡ locks) (t : TupleId) where
  -- a tuple of the table is found in its rows
  pub is_found : (rows : List (TupleId × PlainWord)) → rows ≡ es → IsTrue (has_tuple locks t) → IsSome (fin.find tuple_cmp t rows)
  is_found rows same there = subst IsSome (ap (λ m. fin.get m t) (sym view) ∙ fin.get-from_sorted tuple_cmp es t (holds sorted) ∙ ap (fin.find tuple_cmp t) (sym same)) there

  pub read_absent : (rows : List (TupleId × PlainWord)) → rows ≡ es → fin.find tuple_cmp t rows ≡ None → fin.get locks t ≡ None
  read_absent rows same none = ap (λ m. fin.get m t) (sym view) ∙ get_absent tuple_cmp_total es sorted t (ap (fin.find tuple_cmp t) (sym same) ∙ none)

  module _ (at : ℕ) (row : TupleId × PlainWord) (lt : at < length es) (e : tuple_cmp (get_or es at row).0 t ≡ Equal) where
    pub read_at : row ≡ get_or es at row → fin.get locks t ≡ Some row.1
    read_at is_row = ap (λ m. fin.get m t) (sym view) ∙ get_at tuple_cmp_total es sorted t at row lt e is_row

    pub still_sorted : (new : PlainWord) → IsTrue (fin.is_sorted tuple_cmp (set es at (t, new)))
    still_sorted new = (insert_at tuple_cmp_total tuple_cmp_exact es sorted t new at row lt e).0

    pub written : (new : PlainWord) → fin.from_sorted (set es at (t, new)) ≡ fin.insert locks t new
    written new = (insert_at tuple_cmp_total tuple_cmp_exact es sorted t new at row lt e).1 ∙ ap (λ m. fin.insert m t new) view

-- a client with a lock is at a tuple of the table
pub held_there : (locks : Locks) (t : TupleId) (client : ℕ) → IsSome (mode_held locks t client) → IsTrue (has_tuple locks t)
held_there locks t client held = by (fin.get locks t) held
  where
    by : (o : Option PlainWord) → IsSome (option_and_then (λ (word : PlainWord). mode_in word client) o) → IsTrue (is_some o)
    by None h = h
    by (Some word) h = refl
