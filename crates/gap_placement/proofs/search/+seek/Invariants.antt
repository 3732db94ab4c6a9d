use Rattle.std.proofs.Common.{◌≡◌, ◌-◌, length, map, drop}
use Rattle.std.specs.Option.{option_map}
use Rattle.switch_packet.specs.Packets.{plain_log}
use Rattle.placement_model.specs.FirstOrder.{first_some}
use Rattle.gap_placement.specs.Legs.{plain_leg, seek}
use Rattle.gap_placement.specs.Spots.{task_of}
use Rattle.gap_placement.proofs.Seeking.{candidate}
use Rattle.gap_placement.proofs.search.+seek.Given as goal

abbrev pub decreases-seek : goal.decreases-seek
decreases-seek l = length l.legs.now

abbrev pub invariant-loop-k : goal.invariant-loop-k
invariant-loop-k l = record {
  same : l.standing.items ≡ l.initial.standing.items;
  left : first_some (candidate (map plain_log l.views) (plain_leg l.leg) (map plain_leg (drop 1 l.legs)) l.registers l.initial.standing.items) l.k (length l.initial.standing.items - l.k)
      ≡ seek (map plain_leg l.legs) l.registers (map (option_map (task_of (map plain_log l.views))) l.initial.standing.items);
}
