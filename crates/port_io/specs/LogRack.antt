-- What the calls of a rack do to the logs that it tells.
use Rattle.std.specs.Prelude.{◌≡◌, ◌≢◌, ℕ, ◌<◌, ◌≤◌, List, [], Option, None, length, take, drop, slice_index_or}

-- each log is told as it was
abbrev pub AllStay : (ℕ → Option (List ℕ)) → (ℕ → Option (List ℕ)) → Type 0
AllStay old new = (client : ℕ) → new client ≡ old client

-- each log but this client's is told as it was
abbrev pub OthersStay : ℕ → (ℕ → Option (List ℕ)) → (ℕ → Option (List ℕ)) → Type 0
OthersStay client old new = (other : ℕ) → other ≢ client → new other ≡ old other

-- no log is told
abbrev pub told_nothing : ℕ → Option (List ℕ)
told_nothing client = None

-- the first n bytes of the buffer are the log's from this place on; none come only at the end, or where the buffer has no room
pub record GivesFrom (log : List ℕ) (at n : ℕ) (buf : List ℕ) : Type 0 where
  pub bytes : take n buf ≡ take n (drop at log)
  pub ended : n ≡ 0 → 0 < length buf → length log ≤ at

-- a client's log among the logs of all, which begin with that of client 0
abbrev pub log_of : List (List ℕ) → ℕ → List ℕ
log_of logs client = slice_index_or logs client []
