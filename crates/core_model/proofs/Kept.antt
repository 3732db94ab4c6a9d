-- Items at places of lists.
use Rattle.std.proofs.Common.{◌≡◌, ℕ, zero, suc, ◌≤◌, List, [], ◌∷◌, length, slice_get, Some, None, ap, arith}
use Rattle.txn_model.specs.declared.op.Op.{Op}
use Rattle.txn_model.specs.declared.pairs.Pair.{Pair}
use Rattle.history_model.specs.Chain.{Step, steps_of}

-- a place without an item is past the end
pub past_none : {X : Type 0} (xs : List X) (k : ℕ) → slice_get xs k ≡ None → length xs ≤ k
past_none [] k is = omega arith
past_none (x ∷ xs) zero is = cc
past_none (x ∷ xs) (suc k) is = omega (arith, past_none xs k is)

-- the operation at a place of the steps is that of the script
pub op_at : (ops : List Op) (reply : List Pair) (k : ℕ) (step : Step) → slice_get (steps_of ops reply) k ≡ Some step → slice_get ops k ≡ Some step.0
op_at [] reply k step e = cc
op_at (o ∷ ops) [] k step e = cc
op_at (o ∷ ops) (p ∷ reply) zero step e = ap Some (first (o, p) step e)
  where
    first : (a b : Step) → Some a ≡ Some b → a.0 ≡ b.0
    first a b e = let same : a ≡ b = cc in ap (λ (x : Step). x.0) same
op_at (o ∷ ops) (p ∷ reply) (suc k) step e = op_at ops reply k step e
