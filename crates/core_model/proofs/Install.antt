-- A store in which a tuple has a new value.
use Rattle.std.proofs.Common.{◌≡◌, ℕ, pos, ◌==◌, Bool, true, false, unwrap_or, Option, Some, cond, refl, ap, ◌∙◌, arith, nat_cmp, is_eq, if◌then◌else◌}
use Rattle.std.specs.FinMap as fin
use Rattle.std.proofs.lemmas.Bool.Decides.{nat_tests}
use Rattle.txn_model.specs.declared.op.TupleId.{TupleId}
use Rattle.txn_model.specs.declared.stamp.Seen.{Seen}
use Rattle.txn_model.proofs.TupleOrder.{tuple_cmp_total}
use Rattle.core_model.specs.State.{Store, seen_at, first_seen}

-- what the store has at a tuple after a write
pub seen_at-insert : (store : Store) (k : TupleId) (seen : Seen) (t : TupleId) → seen_at (fin.insert store k seen) t ≡ (if k.0 == t.0 then seen else seen_at store t)
seen_at-insert store k seen t =
    ap (λ (o : Option Seen). unwrap_or o (first_seen (pos 0))) (fin.get-insert tuple_cmp_total store k seen t)
    ∙ ap (λ (b : Bool). unwrap_or (cond b (Some seen) (fin.get store t)) (first_seen (pos 0))) (same_number t.0 k.0)
    ∙ choose (k.0 == t.0) (fin.get store t)
  where
    same_number : (a b : ℕ) → is_eq (nat_cmp a b) ≡ (b == a)
    same_number a b = grind (arith, nat_tests)

    choose : (b : Bool) (o : Option Seen) → unwrap_or (cond b (Some seen) o) (first_seen (pos 0)) ≡ (if b then seen else unwrap_or o (first_seen (pos 0)))
    choose true o = refl
    choose false o = refl
