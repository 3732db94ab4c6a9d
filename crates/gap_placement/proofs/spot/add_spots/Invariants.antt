use Rattle.std.proofs.Common.{◌≡◌, ◌++◌, ◌-◌}
use Rattle.gap_placement.specs.Spots.{spots_from}
use Rattle.gap_placement.proofs.spot.add_spots.Given as goal

abbrev pub invariant-loop-index : goal.invariant-loop-index
invariant-loop-index l = l.to.items ++ spots_from l.client l.index (l.count - l.index) ≡ l.fn.to.items ++ spots_from l.client 0 l.count
