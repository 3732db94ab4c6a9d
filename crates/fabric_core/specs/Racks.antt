-- What contracts see of a rack of logs.
use Rattle.std.specs.Prelude.{◌≡◌, ℕ, ◌≤◌, Bool, List, Option}

-- what its reads give of each client's log, where it tells that; whether it keeps; and how many failures it has counted
pub record Rack : Type 0 where
  pub told : ℕ → Option (List ℕ)
  pub keeps : Bool
  pub faults : ℕ

abbrev pub seen : (ℕ → Option (List ℕ)) → Bool → ℕ → Rack
seen told keeps faults = record { told = told; keeps = keeps; faults = faults }

-- each log from this client's on is told as it was
abbrev pub StaysFrom : ℕ → (old new : Rack) → Type 0
StaysFrom client old new = (other : ℕ) → client ≤ other → new.told other ≡ old.told other

-- all is as it was
pub record Stays (old new : Rack) : Type 0 where
  pub told : (client : ℕ) → new.told client ≡ old.told client
  pub faults : new.faults ≡ old.faults
