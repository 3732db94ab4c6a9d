-- Pairs of a script's operations, of which some have been executed.
use Rattle.std.specs.Prelude.{◌≡◌, ℕ, true, List, [], ◌∷◌, ◌++◌, length, slice_get, Some, if◌then◌else◌}
use Rattle.txn_model.specs.Serial.{pair_at, pair_of}
use Rattle.txn_model.specs.declared.op.Op.{Op}
use Rattle.txn_model.specs.declared.pairs.Pair.{Pair}
use Rattle.warm_split.specs.OpSet.{contains}
use Rattle.warm_split.specs.declared.op_set.OpSet.{OpSet}

-- the pairs of a script's operations, behind the pairs in done: one of the set leaves the effect of what it found, and the others
-- keep their pairs
abbrev pub executed_from : OpSet → List Pair → List Op → List Pair → List Pair
executed_from set done [] pairs = []
executed_from set done (op ∷ ops) [] = []
executed_from set done (op ∷ ops) (p ∷ ps) =
    let pair = if contains set (length done) then pair_of op done p.was else p in
    pair ∷ executed_from set (done ++ pair ∷ []) ops ps

-- the pairs of a script, once the operations of the set are executed in script order on what they found
abbrev pub executed : OpSet → List Op → List Pair → List Pair
executed set ops pairs = executed_from set [] ops pairs

-- there is a pair for each operation, and each of the set has left the effect of what it found and of the pairs
pub record AreExecuted (set : OpSet) (ops : List Op) (pairs : List Pair) : Type 0 where
  pub size : length pairs ≡ length ops
  pub each : (k : ℕ) (op : Op) → contains set k ≡ true → slice_get ops k ≡ Some op → pair_at pairs k ≡ pair_of op pairs (pair_at pairs k).was
