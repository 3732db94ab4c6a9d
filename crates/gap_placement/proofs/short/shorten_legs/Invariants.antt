use Rattle.std.proofs.Common.{take, map}
use Rattle.gap_placement.proofs.Nearing.{AreShort}
use Rattle.gap_placement.specs.Facts.{Each}
use Rattle.gap_placement.specs.Legs.{plain_leg}
use Rattle.gap_placement.specs.Replays.{HasPlaces, SamePlaces}
use Rattle.gap_placement.proofs.short.shorten_legs.Given as goal

abbrev pub invariant-loop-i : goal.invariant-loop-i
invariant-loop-i l = record {
  short : AreShort l.near l.first (map plain_leg (take l.i l.legs)) l.known (map plain_leg l.short.items);
  places : Each (λ leg. HasPlaces l.near leg.changes.items) l.short.items;
  same : SamePlaces l.first l.known;
}
