use Rattle.std.proofs.Common.{◌≡◌, drop}
use Rattle.gap_placement.specs.Changes.{walk}
use Rattle.gap_placement.specs.Replays.{HasPlaces}
use Rattle.gap_placement.proofs.change.walk.Given as goal

abbrev pub invariant-loop-change : goal.invariant-loop-change
invariant-loop-change l = record {
  walked : walk (drop l.change-index l.changes) l.map ≡ walk l.changes l.fn.map;
  places : HasPlaces l.map (drop l.change-index l.changes);
}
