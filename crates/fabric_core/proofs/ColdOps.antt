-- The operations of a script on tuples of hosts.
use Rattle.std.proofs.Common.{◌≡◌, ℕ, zero, suc, not, Bool, true, false, List, [], ◌∷◌, slice_get, Some, IsSome, refl, sym, ap, ◌∙◌, if◌then◌else◌}
use Rattle.std.specs.FinMap as fin
use Rattle.txn_model.specs.declared.op.Op.{Op}
use Rattle.txn_model.specs.declared.pairs.Pair.{Pair}
use Rattle.history_model.specs.Chain.{Step}
use Rattle.stage_layout.specs.Late.{is_hot}
use Rattle.stage_layout.specs.declared.layout.LayoutRow.{LayoutRow}
use Rattle.catalogue.specs.Plan.{Plan, script_at}
use Rattle.catalogue.specs.Sound.{IsSound}
use Rattle.core_model.specs.Decision.{cold_steps}
use Rattle.core_model.specs.Locks.{cold_ops}
use Rattle.core_model.proofs.Stored.{tuple_is_there}

-- the operation is one of these, and its tuple is on a host
pub record IsCold (rows : List LayoutRow) (ops : List Op) (op : Op) : Type 0 where
  pub place : ℕ
  pub there : slice_get ops place ≡ Some op
  pub host : is_hot rows op.tuple ≡ false

pub cold_there : (rows : List LayoutRow) (ops : List Op) (k : ℕ) (op : Op) → slice_get (cold_ops rows ops) k ≡ Some op → IsCold rows ops op
cold_there rows [] k op at = cc
cold_there rows (o ∷ ops) k op at = by (is_hot rows o.tuple) refl k at (λ i there. cold_there rows ops i op there)
  where
    later : IsCold rows ops op → IsCold rows (o ∷ ops) op
    later is = record { place = suc is.place; there = is.there; host = is.host }

    by : (b : Bool) → is_hot rows o.tuple ≡ b → (j : ℕ) → slice_get (if not b then o ∷ cold_ops rows ops else cold_ops rows ops) j ≡ Some op → ((i : ℕ) → slice_get (cold_ops rows ops) i ≡ Some op → IsCold rows ops op) → IsCold rows (o ∷ ops) op
    by true hot j there rest = later (rest j there)
    by false cold zero there rest = let same : o ≡ op = cc in record { place = 0; there = there; host = ap (λ (p : Op). is_hot rows p.tuple) (sym same) ∙ cold }
    by false cold (suc j) there rest = later (rest j there)

-- the operation of the step that is installed next
pub cold_op_at : (rows : List LayoutRow) (ops : List Op) (reply : List Pair) (k : ℕ) (step : Step) → slice_get (cold_steps rows ops reply) k ≡ Some step → slice_get (cold_ops rows ops) k ≡ Some step.0
cold_op_at rows [] reply k step at = cc
cold_op_at rows (op ∷ ops) [] k step at = cc
cold_op_at rows (op ∷ ops) (p ∷ reply) k step at = by (is_hot rows op.tuple) k (λ i. cold_op_at rows ops reply i step) at
  where
    first : (a b : Step) → Some a ≡ Some b → a.0 ≡ b.0
    first a b e = let same : a ≡ b = cc in ap (λ (x : Step). x.0) same

    by : (b : Bool) (i : ℕ) → ((j : ℕ) → slice_get (cold_steps rows ops reply) j ≡ Some step → slice_get (cold_ops rows ops) j ≡ Some step.0)
        → slice_get (if not b then (op, p) ∷ cold_steps rows ops reply else cold_steps rows ops reply) i ≡ Some step
        → slice_get (if not b then op ∷ cold_ops rows ops else cold_ops rows ops) i ≡ Some step.0
    by true i rest e = rest i e
    by false zero rest e = ap Some (first (op, p) step e)
    by false (suc i) rest e = rest i e

-- its tuple is one of the session's
pub in_session : (plan : Plan) (c seq : ℕ) (op : Op) → IsSound plan → IsCold plan.layout (script_at plan c seq) op → IsSome (fin.get plan.tuples op.tuple)
in_session plan c seq op sound is = tuple_is_there plan c seq is.place op sound is.there
