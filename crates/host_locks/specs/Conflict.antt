-- Which locks can't stand together, and who stands in the way of one who asks.
use Rattle.std.specs.Prelude.{◌≡◌, ◌≢◌, ◌<◌, ℕ, Bool, true, false, Option, Some, None}
use Rattle.host_locks.specs.declared.mode.Mode.{Mode}
use Rattle.host_locks.specs.declared.mode.Mode.TheVariants.{Shared, Exclusive}

-- one of the two is exclusive
abbrev pub conflicts : Mode → Mode → Bool
conflicts Shared Shared = false
conflicts Shared Exclusive = true
conflicts Exclusive other = true

abbrev pub stops : Mode → Option Mode → Bool
stops mode None = false
stops mode (Some held) = conflicts mode held

-- The client is another one than the asker, and it stands in the way; no lower client but the asker does.
pub record IsLeastInTheWay (stands : ℕ → Bool) (asker other : ℕ) : Type 0 where
  pub another : other ≢ asker
  pub conflict : stands other ≡ true
  pub least : (d : ℕ) → d < other → d ≢ asker → stands d ≡ false

-- no client but the asker stands in the way
abbrev pub IsFree : (ℕ → Bool) → ℕ → Type 0
IsFree stands asker = (d : ℕ) → d ≢ asker → stands d ≡ false

-- who stands in the way of the asker: the least such client, or no one
abbrev pub IsInTheWay : (ℕ → Bool) → ℕ → Option ℕ → Type 0
IsInTheWay stands asker None = IsFree stands asker
IsInTheWay stands asker (Some other) = IsLeastInTheWay stands asker other
