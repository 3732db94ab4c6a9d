-- The register arrays of a switch by number: those of a stage one after the other, and the stages in order.
use Rattle.std.specs.Prelude.{ℕ, ◌+◌, ◌*◌, ◌/◌, ◌%◌}
use Rattle.txn_model.specs.declared.place.Place.{Place}
use Rattle.stage_layout.specs.declared.shape.Shape.{Shape}

-- how many there are
abbrev pub array_count : Shape → ℕ
array_count shape = shape.stages * shape.arrays

-- the array of a place
abbrev pub array_of : Shape → Place → ℕ
array_of shape place = place.stage * shape.arrays + place.array

-- the place of this cell of an array
abbrev pub place_in : Shape → ℕ → ℕ → Place
place_in shape array cell = record { stage = array / shape.arrays; array = array % shape.arrays; cell = cell }
