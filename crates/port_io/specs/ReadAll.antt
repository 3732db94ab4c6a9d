-- What reading a source to its end, or to a limit, takes of what was left in it.
use Rattle.std.specs.Prelude.{◌≡◌, ℕ, ◌+◌, ◌≤◌, List, Option, length}
use Rattle.std.specs.Io.KnownBytes.{Consumes, IsAtEnd}
use Rattle.port_io.specs.declared.whole.ReadAllFault.{ReadAllFault}
use Rattle.port_io.specs.declared.whole.ReadAllFault.TheVariants.{Failed, TooLong, NoMemory}

-- these bytes were taken, no more than the limit, and the source is at its end
pub record TakesAll (most : ℕ) (old new : Option (List ℕ)) (bytes : List ℕ) : Type 0 where
  pub taken : Consumes old new bytes
  pub within : length bytes ≤ most
  pub ended : IsAtEnd new

-- some bytes were taken, no more than the limit
abbrev pub TakesWithin : ℕ → Option (List ℕ) → Option (List ℕ) → Type 0
TakesWithin most old new = (bytes : List ℕ) × (length bytes ≤ most) × Consumes old new bytes

-- as many bytes as the limit were taken, and one more
abbrev pub TakesBeyond : ℕ → Option (List ℕ) → Option (List ℕ) → Type 0
TakesBeyond most old new = (bytes : List ℕ) × (length bytes ≡ most + 1) × Consumes old new bytes

-- what was taken when the reading stopped before the end
abbrev pub StopsAfter : ReadAllFault → ℕ → Option (List ℕ) → Option (List ℕ) → Type 0
StopsAfter Failed most old new = TakesWithin most old new
StopsAfter TooLong most old new = TakesBeyond most old new
StopsAfter NoMemory most old new = TakesWithin most old new
