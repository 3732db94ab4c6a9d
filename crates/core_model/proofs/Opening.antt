-- The store of a session before its first move.
use Rattle.std.proofs.Common.{◌≡◌, ℤ, Bool, true, false, List, [], ◌∷◌, Option, Some, option_map, cond, refl, ◌∙◌}
use Rattle.std.specs.FinMap as fin
use Rattle.std.specs.Ordering.{eq_by_cmp}
use Rattle.txn_model.specs.Tuples.{tuple_cmp}
use Rattle.txn_model.specs.declared.op.TupleId.{TupleId}
use Rattle.txn_model.proofs.TupleOrder.{tuple_cmp_total}
use Rattle.core_model.specs.State.{first_seen}
use Rattle.core_model.specs.Run.{first_rows}

-- each tuple has its first value
pub first_value : (rows : List (TupleId × ℤ)) (t : TupleId) → fin.get (first_rows rows) t ≡ option_map first_seen (fin.find tuple_cmp t rows)
first_value [] t = fin.get-empty tuple_cmp t
first_value (row ∷ rows) t =
    fin.get-insert tuple_cmp_total (first_rows rows) row.0 (first_seen row.1) t
    ∙ by (eq_by_cmp tuple_cmp t row.0) (fin.find tuple_cmp t rows) (first_value rows t)
  where
    by : (b : Bool) (o : Option ℤ) → fin.get (first_rows rows) t ≡ option_map first_seen o → cond b (Some (first_seen row.1)) (fin.get (first_rows rows) t) ≡ option_map first_seen (cond b (Some row.1) o)
    by true o e = refl
    by false o e = e
