-- The regions of the pipeline: the stages below the split, and the others. A packet's regions as one
-- number are the sum of 2^r over those that it touches.
use Rattle.std.specs.Prelude.{ℕ, ◌+◌, ◌^◌, ◌==◌, Bool, List, nat_lt, if◌then◌else◌}
use Rattle.std.specs.List.{list_any}
use Rattle.txn_model.specs.declared.place.Place.{Place}
use Rattle.stage_layout.specs.declared.shape.Shape.{Shape}

-- the region of a stage: 0 is the left half, and 1 the right one
abbrev pub region_of : Shape → ℕ → ℕ
region_of shape stage = if nat_lt stage shape.split then 0 else 1

-- one of the places is at a stage of the region
abbrev pub touches : Shape → List Place → ℕ → Bool
touches shape places region = list_any (λ place. region_of shape place.stage == region) places

-- 2^r where region r is touched, and else 0
abbrev pub share_of : Shape → List Place → ℕ → ℕ
share_of shape places region = if touches shape places region then 2 ^ region else 0

-- the halves that operations at these places touch: 1 for the left one, 2 for the right one, 3 for both
abbrev pub halves_of : Shape → List Place → ℕ
halves_of shape places = share_of shape places 0 + share_of shape places 1
