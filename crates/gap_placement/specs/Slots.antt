-- What is put at its number, and what fills free slots.
use Rattle.std.specs.Prelude.{ℕ, ◌-◌, ◌&&◌, nat_lt, nat_le, List, [], ◌∷◌, length, set, slice_index_or, Option, None, Some, is_none, if◌then◌else◌}

-- it is put in the slot with this number, which counts from 1; None where there is none, or another one has it
abbrev pub put_at : {X : Type 0} → ℕ → X → List (Option X) → Option (List (Option X))
put_at number x slots = if nat_lt 0 number && (nat_le number (length slots) && is_none (slice_index_or slots (number - 1) None)) then Some (set slots (number - 1) (Some x)) else None

-- the slots in order, with these in the free ones
abbrev pub merge : {X : Type 0} → List (Option X) → List X → List X
merge [] free = []
merge (Some x ∷ slots) free = x ∷ merge slots free
merge (None ∷ slots) [] = merge slots []
merge (None ∷ slots) (x ∷ free) = x ∷ merge slots free

-- what is there, as a list
abbrev pub one_or_none : {X : Type 0} → Option X → List X
one_or_none None = []
one_or_none (Some x) = x ∷ []
