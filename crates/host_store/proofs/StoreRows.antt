-- The rows of a store, and what is read from them and written to them.
use Rattle.std.proofs.Common.{◌≡◌, ℕ, ℤ, Bool, true, false, ◌<◌, T, IsTrue, List, length, get_or, set, Some, None, IsSome, is_some, Option, MatchOption, HoldsAt, pos, unwrap_or, option_map, map, refl, sym, ap, subst, ◌∙◌, Equal}
use Rattle.std.specs.FinMap as fin
use Rattle.std.specs.Result.{is_ok}
use Rattle.txn_model.specs.Tuples.{Tuples, tuple_cmp}
use Rattle.txn_model.specs.declared.op.TupleId.{TupleId}
use Rattle.txn_model.specs.declared.stamp.Seen.{Seen}
use Rattle.txn_model.specs.declared.stamp.Stamp.{Stamp}
use Rattle.txn_model.proofs.SortedRows.{find_at, get_at, insert_at}
use Rattle.txn_model.proofs.TupleOrder.{tuple_cmp_total, tuple_cmp_exact}
use Rattle.history_model.specs.History.{greater}
use Rattle.host_store.specs.Store.{Store, first_seen, seen_at, installed}
use Rattle.host_store.proofs.MappedRows.{sorted-changed, find-changed}

holds : {b : Bool} → IsTrue b → T b
holds h = subst T (sym h) tt

true_from_T : (b : Bool) → T b → IsTrue b
true_from_T true h = refl
true_from_T false h = absurd h

-- the rows of a tuple map with their values changed make a store
module _ (tuples : Tuples) (es : List (TupleId × Seen)) (made : es ≡ map (λ (row : TupleId × ℤ). (row.0, first_seen row.1)) (fin.entries tuples)) where
  sorted : T (fin.is_sorted tuple_cmp es)
  sorted = subst (λ l. T (fin.is_sorted tuple_cmp l)) (sym made) (subst T (sym (sorted-changed tuple_cmp first_seen (fin.entries tuples))) (fin.entries_sorted tuples))

  pub first_sorted : IsTrue (fin.is_sorted tuple_cmp es)
  first_sorted = true_from_T _ sorted

  pub first_values : (t : TupleId) → fin.get (fin.from_sorted {R = tuple_cmp} es) t ≡ option_map first_seen (fin.get tuples t)
  first_values t =
      fin.get-from_sorted tuple_cmp es t sorted
      ∙ ap (fin.find tuple_cmp t) made
      ∙ find-changed tuple_cmp first_seen t (fin.entries tuples)
      ∙ ap (option_map first_seen) (sym (fin.get-entries tuples t))

module _ (es : List (TupleId × Seen)) (sorted : IsTrue (fin.is_sorted tuple_cmp es)) (store : Store) (view : fin.from_sorted es ≡ store) (t : TupleId) where
  -- what the search of the rows says of the store
  pub tested : (rows : List (TupleId × Seen)) → rows ≡ es → (r : Option ℕ)
      → MatchOption r (fin.find tuple_cmp t rows ≡ None) (λ i. (i < length rows) × HoldsAt (λ row. tuple_cmp row.0 t ≡ Equal) rows i)
      → is_some r ≡ is_some (fin.get store t)
  tested rows same (Some i) found =
      let row : TupleId × Seen = (t, first_seen (pos 0)) in
      let sorted' : IsTrue (fin.is_sorted tuple_cmp rows) = subst (λ l. IsTrue (fin.is_sorted tuple_cmp l)) (sym same) sorted in
      sym (ap is_some (ap (λ m. fin.get m t) (sym view) ∙ fin.get-from_sorted tuple_cmp es t (holds sorted) ∙ ap (fin.find tuple_cmp t) (sym same) ∙ find_at tuple_cmp_total rows sorted' t i row found.0 (found.1 row)))
  tested rows same None none =
      sym (ap is_some (ap (λ m. fin.get m t) (sym view) ∙ fin.get-from_sorted tuple_cmp es t (holds sorted) ∙ ap (fin.find tuple_cmp t) (sym same) ∙ none))

  -- a tuple that the store has is found in its rows
  pub is_found : (rows : List (TupleId × Seen)) → rows ≡ es → IsSome (fin.get store t) → IsSome (fin.find tuple_cmp t rows)
  is_found rows same there = subst IsSome (ap (λ m. fin.get m t) (sym view) ∙ fin.get-from_sorted tuple_cmp es t (holds sorted) ∙ ap (fin.find tuple_cmp t) (sym same)) there

  module _ (at : ℕ) (row : TupleId × Seen) (lt : at < length es) (e : tuple_cmp (get_or es at row).0 t ≡ Equal) (is_row : row ≡ get_or es at row) where
    pub read_at : fin.get store t ≡ Some row.1
    read_at = ap (λ m. fin.get m t) (sym view) ∙ get_at tuple_cmp_total es sorted t at row lt e is_row

    pub install_at : (value value' : ℤ) → value' ≡ value → (stamp stamp' : Stamp) → stamp' ≡ greater row.1.stamp stamp
        → fin.from_sorted (set es at (t, record { value = value'; stamp = stamp' })) ≡ installed store t value stamp
    install_at value value' same stamp stamp' later =
        let written : Seen = record { value = value'; stamp = stamp' } in
        let wanted : Seen = record { value = value; stamp = greater (seen_at store t).stamp stamp } in
        let later' : stamp' ≡ greater (seen_at store t).stamp stamp =
        later ∙ ap (λ o. greater (unwrap_or o (first_seen (pos 0))).stamp stamp) (sym read_at) in
        let is_wanted : written ≡ wanted = λ i. record { value = same i; stamp = later' i } in
        (insert_at tuple_cmp_total tuple_cmp_exact es sorted t written at row lt e).1
        ∙ ap (fin.insert (fin.from_sorted es) t) is_wanted
        ∙ ap (λ m. fin.insert m t wanted) view
