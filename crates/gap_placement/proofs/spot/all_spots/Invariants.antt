use Rattle.std.proofs.Common.{◌≡◌, ◌++◌, drop, map}
use Rattle.switch_packet.specs.Packets.{plain_log}
use Rattle.gap_placement.specs.Spots.{spots_behind}
use Rattle.gap_placement.proofs.spot.all_spots.Given as goal

abbrev pub invariant-loop-client : goal.invariant-loop-client
invariant-loop-client l = l.spots.items ++ spots_behind l.client (map plain_log (drop l.client l.views)) ≡ spots_behind 0 (map plain_log l.views)
