-- What is asked of the intents that the search handles.
use Rattle.std.specs.Prelude.{◌≡◌, ℕ, true, List, slice_get, Option, None, Some, is_some, ⊤}
use Rattle.txn_model.specs.Places.{Places}
use Rattle.switch_packet.specs.Packets.{PlainLog}
use Rattle.gap_placement.specs.Replays.{CanReplay}
use Rattle.gap_placement.specs.Spots.{task_of, IsSpot}
use Rattle.gap_placement.specs.declared.spot.Spot.{Spot}

-- so is each item
abbrev pub Each : {X : Type 0} → (X → Type 0) → List X → Type 0
Each {X} P xs = (i : ℕ) (x : X) → slice_get xs i ≡ Some x → P x

-- what is there is so
abbrev pub IfThere : {X : Type 0} → (X → Type 0) → Option X → Type 0
IfThere P None = ⊤
IfThere P (Some x) = P x

-- an answered intent stands there
pub record IsAnswered (logs : List PlainLog) (spot : Spot) : Type 0 where
  pub stands : IsSpot logs spot
  pub answered : is_some (task_of logs spot).outcome ≡ true

-- an intent stands there whose packet can be replayed on the map
pub record IsUsable (logs : List PlainLog) (m : Places) (spot : Spot) : Type 0 where
  pub stands : IsSpot logs spot
  pub replay : CanReplay m (task_of logs spot).intent.packet
