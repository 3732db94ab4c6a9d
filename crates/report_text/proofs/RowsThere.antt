-- Each row of a tuple map has its tuple in it.
use Rattle.std.proofs.Common.{◌≡◌, ℕ, ℤ, zero, suc, ◌<◌, true, false, List, [], ◌∷◌, length, get_or, IsSome, Some, cond, arith, refl, sym, ap, subst}
use Rattle.std.specs.Cmp.{tied_itself}
use Rattle.std.specs.Ordering.{eq_by_cmp, is_eq}
use Rattle.std.specs.FinMap as fin
use Rattle.txn_model.specs.declared.op.TupleId.{TupleId}
use Rattle.txn_model.specs.Tuples.{Tuples, tuple_cmp}
use Rattle.txn_model.proofs.TupleOrder.{tuple_cmp_total}

found_at : (es : List (TupleId × ℤ)) (i : ℕ) (none : TupleId × ℤ) → i < length es → IsSome (fin.find tuple_cmp (get_or es i none).0 es)
found_at [] i none lt = absurd (omega arith)
found_at (e ∷ es) zero none lt = subst (λ b. IsSome (cond b (Some e.1) (fin.find tuple_cmp e.0 es))) (sym (ap is_eq (tied_itself tuple_cmp_total e.0))) refl
found_at (e ∷ es) (suc i) none lt =
    elim (eq_by_cmp tuple_cmp (get_or es i none).0 e.0) as (λ b. IsSome (cond b (Some e.1) (fin.find tuple_cmp (get_or es i none).0 es))) [
      | true ↦ refl
      | false ↦ found_at es i none (omega (arith, lt))
    ]

pub row_there : (m : Tuples) (rows : List (TupleId × ℤ)) (i : ℕ) (none : TupleId × ℤ) → rows ≡ fin.entries m → i < length rows → IsSome (fin.get m (get_or rows i none).0)
row_there m rows i none are lt = subst IsSome (sym (fin.get-entries m (get_or rows i none).0)) (subst (λ (es : List (TupleId × ℤ)). IsSome (fin.find tuple_cmp (get_or rows i none).0 es)) are (found_at rows i none lt))
