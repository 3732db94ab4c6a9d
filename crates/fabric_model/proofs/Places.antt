-- Operations of a script by their places, and entries' scripts of joined histories.
use Rattle.std.proofs.Common.{◌≡◌, ℕ, zero, suc, ◌<◌, ◌==◌, ◌||◌, Bool, true, false, List, [], ◌∷◌, ◌++◌, slice_get, unwrap_or, Some, refl, sym, ap, subst, ◌∙◌, arith}
use Rattle.std.proofs.lemmas.Bool.Decides.{nat_tests}
use Rattle.txn_model.specs.ScriptCheck.{names}
use Rattle.txn_model.specs.declared.op.Op.{Op}
use Rattle.txn_model.specs.declared.op.TupleId.{TupleId}
use Rattle.history_model.specs.Chain.{Answered}
use Rattle.history_model.specs.History.{History}
use Rattle.catalogue.specs.Plan.{Plan}
use Rattle.core_model.specs.Facts.{script_of_entry, answered}
use Rattle.core_model.proofs.Decided.{IsDistinct}

pub answered-append : (plan : Plan) (a b : History) → answered plan (a ++ b) ≡ answered plan a ++ answered plan b
answered-append plan [] b = refl
answered-append plan (e ∷ a) b = ap (λ (l : List Answered). (script_of_entry plan e, unwrap_or e.pairs []) ∷ l) (answered-append plan a b)

-- two operations of a script with distinct tuples
named_at : (ops : List Op) (t : TupleId) (k : ℕ) (b : Op) → names ops t ≡ false → slice_get ops k ≡ Some b → (b.tuple.0 == t.0) ≡ false
named_at [] t k b none is = cc
named_at (o ∷ ops) t zero b none is = let same : o ≡ b = cc in ap (λ (x : Op). x.tuple.0 == t.0) (sym same) ∙ (either (o.tuple.0 == t.0) (names ops t) none).0
  where
    either : (x y : Bool) → (x || y) ≡ false → (x ≡ false) × (y ≡ false)
    either true y e = cc
    either false y e = (refl, e)
named_at (o ∷ ops) t (suc k) b none is = named_at ops t k b (other (o.tuple.0 == t.0) (names ops t) none) is
  where
    other : (x y : Bool) → (x || y) ≡ false → y ≡ false
    other true y e = cc
    other false y e = e

pub distinct_places : (ops : List Op) (i k : ℕ) (a b : Op) → IsDistinct ops → i < k → slice_get ops i ≡ Some a → slice_get ops k ≡ Some b → (a.tuple.0 == b.tuple.0) ≡ false
distinct_places [] i k a b distinct lt ia ib = cc
distinct_places (o ∷ ops) i zero a b distinct lt ia ib = absurd (omega arith)
distinct_places (o ∷ ops) zero (suc k) a b distinct lt ia ib =
    let same : o ≡ a = cc in
    turned b.tuple.0 a.tuple.0 (subst (λ (x : Op). (b.tuple.0 == x.tuple.0) ≡ false) same (named_at ops o.tuple k b distinct.0 ib))
  where
    turned : (m n : ℕ) → (m == n) ≡ false → (n == m) ≡ false
    turned m n e = grind (arith, nat_tests)
distinct_places (o ∷ ops) (suc i) (suc k) a b distinct lt ia ib = distinct_places ops i k a b distinct.1 (omega arith) ia ib
