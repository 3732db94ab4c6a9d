-- What becomes of one who asks to enter the pipeline.
use Rattle.std.specs.Prelude.{◌≡◌, ℕ, nat_le, Some, None, if◌then◌else◌}
use Rattle.pipeline_locks.specs.Holders.{Holders, first_held, given}
use Rattle.pipeline_locks.specs.declared.halves.Admission.{Admission}
use Rattle.pipeline_locks.specs.declared.halves.Admission.TheVariants.{Entered, Taken}

-- it entered where all its halves are free, and with two or more passes they are now its own; else nothing changed, and the answer
-- is the holder of the first of them that is held
abbrev pub IsTried : (before now : Holders) → (halves passes client : ℕ) → Admission → Type 0
IsTried before now halves passes client Entered =
    (first_held halves before ≡ None) × (now ≡ (if nat_le 2 passes then given halves client before else before))
IsTried before now halves passes client (Taken holder) = (first_held halves before ≡ Some holder) × (now ≡ before)
