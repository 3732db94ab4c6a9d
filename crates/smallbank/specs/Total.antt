-- The total of all tuples, and by how much a script changes it.
use Rattle.std.specs.Prelude.{◌≡◌, ℤ, ◌+ℤ◌, pos, List, [], ◌∷◌}
use Rattle.std.specs.FinMap.{entries}
use Rattle.txn_model.specs.Number.{wrap}
use Rattle.txn_model.specs.Serial.{serial}
use Rattle.txn_model.specs.Tuples.{Tuples}
use Rattle.txn_model.specs.declared.op.Op.{Op}
use Rattle.txn_model.specs.declared.op.TupleId.{TupleId}

abbrev pub sum_of : List (TupleId × ℤ) → ℤ
sum_of [] = pos 0
sum_of (row ∷ rows) = row.1 +ℤ sum_of rows

-- modulo 2^64
abbrev pub total : Tuples → ℤ
total m = wrap (sum_of (entries m))

-- the script, run serially on these tuples, changes their total by so much, modulo 2^64
abbrev pub ChangesTotal : List Op → Tuples → ℤ → Type 0
ChangesTotal ops m change = total (serial ops m).after ≡ wrap (total m +ℤ change)
