use Rattle.std.proofs.Common.{◌≡◌, drop, map}
use Rattle.std.specs.Option.{option_map}
use Rattle.switch_packet.specs.Packets.{plain_log}
use Rattle.placement_model.specs.FirstOrder.{put_all}
use Rattle.gap_placement.specs.Facts.{Each, IfThere, IsAnswered}
use Rattle.gap_placement.specs.Spots.{task_of}
use Rattle.gap_placement.proofs.slots.put_answered.Given as goal

abbrev pub invariant-loop-spot : goal.invariant-loop-spot
invariant-loop-spot l = record {
  put : put_all (map (task_of (map plain_log l.views)) (drop l.spot-index l.spots)) (map (option_map (task_of (map plain_log l.views))) l.slots.items)
      ≡ put_all (map (task_of (map plain_log l.views)) l.spots) (map (option_map (task_of (map plain_log l.views))) l.fn.slots.items);
  slots : Each (IfThere (IsAnswered (map plain_log l.views))) l.slots.items;
}
