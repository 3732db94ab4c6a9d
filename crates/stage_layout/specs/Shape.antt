-- The shape of a switch: which places it has, and its limits.
use Rattle.std.specs.Prelude.{Bool, ◌&&◌, ◌≤◌, nat_lt}
use Rattle.txn_model.specs.declared.place.Place.{Place}
use Rattle.stage_layout.specs.declared.shape.Shape.{Shape}

-- the place is one of the switch
abbrev pub has_place : Shape → Place → Bool
has_place shape place = nat_lt place.stage shape.stages && (nat_lt place.array shape.arrays && nat_lt place.cell shape.cells)

-- each number of the shape is within its limits
pub record IsShape (shape : Shape) : Type 0 where
  pub stages : (1 ≤ shape.stages) × (shape.stages ≤ 12)
  pub arrays : (1 ≤ shape.arrays) × (shape.arrays ≤ 4)
  pub cells : (1 ≤ shape.cells) × (shape.cells ≤ 4096)
  pub split : shape.split ≤ shape.stages
  pub hosts : (1 ≤ shape.hosts) × (shape.hosts ≤ 8)
