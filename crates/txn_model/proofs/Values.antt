-- What a write makes of a tuple map's values.
use Rattle.std.proofs.Common.{◌≡◌, ℕ, ℤ, pos, Bool, true, false, cond, Option, Some, unwrap_or, if◌then◌else◌, ◌==◌, refl, ap, ◌∙◌, arith, nat_cmp, is_eq}
use Rattle.std.specs.FinMap as fin
use Rattle.std.proofs.lemmas.Bool.Decides.{nat_tests}
use Rattle.txn_model.specs.Tuples.{Tuples, value_at}
use Rattle.txn_model.specs.declared.op.TupleId.{TupleId}
use Rattle.txn_model.proofs.TupleOrder.{tuple_cmp_total}

same_number : (a b : ℕ) → is_eq (nat_cmp a b) ≡ (b == a)
same_number a b = grind (arith, nat_tests)

-- the value at a tuple after a write
pub value_at-insert : (m : Tuples) (k : TupleId) (v : ℤ) (t : TupleId) → value_at (fin.insert m k v) t ≡ (if k.0 == t.0 then v else value_at m t)
value_at-insert m k v t =
    ap (λ (o : Option ℤ). unwrap_or o (pos 0)) (fin.get-insert tuple_cmp_total m k v t)
    ∙ ap (λ (b : Bool). unwrap_or (cond b (Some v) (fin.get m t)) (pos 0)) (same_number t.0 k.0)
    ∙ choose (k.0 == t.0) (fin.get m t)
  where
    choose : (b : Bool) (o : Option ℤ) → unwrap_or (cond b (Some v) o) (pos 0) ≡ (if b then v else unwrap_or o (pos 0))
    choose true o = refl
    choose false o = refl
