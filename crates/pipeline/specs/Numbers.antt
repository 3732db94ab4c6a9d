-- The places of a switch, and a number at each of them.
use Rattle.std.specs.Prelude.{ℕ, zero, suc, ℤ, List, [], ◌∷◌, ◌++◌, map}
use Rattle.std.specs.FinMap as fin
use Rattle.txn_model.specs.Places.{Places}
use Rattle.txn_model.specs.declared.place.Place.{Place}
use Rattle.stage_layout.specs.declared.shape.Shape.{Shape}

-- the places in so many cells of an array
unfoldable pub array_places : (stage array cells : ℕ) → List Place
array_places stage array zero = []
array_places stage array (suc cell) = record { stage = stage; array = array; cell = cell } ∷ array_places stage array cell

-- the places in so many arrays of a stage
unfoldable pub stage_places : (stage arrays cells : ℕ) → List Place
stage_places stage zero cells = []
stage_places stage (suc array) cells = array_places stage array cells ++ stage_places stage array cells

-- the places in so many stages
unfoldable pub places_in : (stages arrays cells : ℕ) → List Place
places_in zero arrays cells = []
places_in (suc stage) arrays cells = stage_places stage arrays cells ++ places_in stage arrays cells

-- all places of a switch of this shape
abbrev pub all_places : Shape → List Place
all_places shape = places_in shape.stages shape.arrays shape.cells

-- the number that f gives at each place of the switch, and nothing else
unfoldable pub numbers_of : Shape → (Place → ℤ) → Places
numbers_of shape f = fin.from_entries (map (λ place. (place, f place)) (all_places shape))
