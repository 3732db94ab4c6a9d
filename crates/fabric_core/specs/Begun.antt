-- What became of the logs when a run could not begin.
use Rattle.std.specs.Prelude.{◌≡◌, ◌⊎◌, ℕ, ◌<◌, [], IsTrue, Some}
use Rattle.port_io.specs.Cause.{Rose}
use Rattle.fabric_core.specs.Racks.{Rack, StaysFrom}

-- The log of this client, which is one of so many, could not be emptied. In a rack that keeps, those of the clients before it are
-- empty, and its own is as it was, or empty. In each rack, those of the clients behind it are as they were.
pub record IsNotReset (clients : ℕ) (old new : Rack) (c : ℕ) : Type 0 where
  pub within : c < clients
  pub rose : Rose old.faults new.faults
  pub before : IsTrue old.keeps → (d : ℕ) → d < c → new.told d ≡ Some []
  pub own : IsTrue old.keeps → (new.told c ≡ old.told c) ⊎ (new.told c ≡ Some [])
  pub behind : (d : ℕ) → c < d → new.told d ≡ old.told d

-- The logs of the clients below this one were emptied: in a rack that keeps, they are empty, and it keeps still. Those of all
-- others are as they were, and no failure was counted.
pub record IsReset (clients : ℕ) (old new : Rack) : Type 0 where
  pub empty : IsTrue old.keeps → (d : ℕ) → d < clients → new.told d ≡ Some []
  pub keeps : IsTrue old.keeps → IsTrue new.keeps
  pub beyond : StaysFrom clients old new
  pub faults : new.faults ≡ old.faults
