-- Local pairs: what each operation leaves follows from what the script's own operations found.
use Rattle.std.specs.Prelude.{◌≡◌, pos, List, [], ◌∷◌, ◌++◌, ⊤}
use Rattle.txn_model.specs.Needs.{needs_list}
use Rattle.txn_model.specs.Serial.{operand, effect}
use Rattle.txn_model.specs.declared.op.Op.{Op}
use Rattle.txn_model.specs.declared.pairs.Pair.{Pair}

-- behind the pairs in done, there is a pair for each operation, and what it leaves is the effect of what it found and of
-- the script's own pairs
abbrev pub IsLocalFrom : List Pair → List Op → List Pair → Type 0
IsLocalFrom done [] [] = ⊤
IsLocalFrom done [] (p ∷ ps) = ⊥
IsLocalFrom done (op ∷ ops) [] = ⊥
IsLocalFrom done (op ∷ ops) (p ∷ ps) = (p.now ≡ effect op.act p.was (operand (needs_list op.needs) (pos 0) done)) × IsLocalFrom (done ++ p ∷ []) ops ps
