use Rattle.std.proofs.Common.{◌≡◌, ◌++◌, drop, map}
use Rattle.std.specs.Option.{option_map}
use Rattle.switch_packet.specs.Packets.{plain_log}
use Rattle.placement_model.specs.FirstOrder.{open_ones}
use Rattle.gap_placement.specs.Facts.{Each, IfThere}
use Rattle.gap_placement.specs.Spots.{task_of, IsSpot}
use Rattle.gap_placement.proofs.slots.open_spots.Given as goal

abbrev pub invariant-loop-spot : goal.invariant-loop-spot
invariant-loop-spot l = record {
  standing : map (option_map (task_of (map plain_log l.views))) l.standing.items ++ open_ones (map (task_of (map plain_log l.views)) (drop l.spot-index l.spots))
      ≡ open_ones (map (task_of (map plain_log l.views)) l.spots);
  spots : Each (IfThere (IsSpot (map plain_log l.views))) l.standing.items;
}
