use Rattle.std.proofs.Common.{◌≡◌, ◌+◌, ◌++◌, drop, map}
use Rattle.switch_packet.specs.Packets.{plain_log}
use Rattle.switch_packet.specs.Replay.{replay_all}
use Rattle.placement_model.specs.Placements.{packets_of, rows_from, rows_of}
use Rattle.gap_placement.specs.Answers.{plain_slotted}
use Rattle.gap_placement.specs.Replays.{SamePlaces}
use Rattle.gap_placement.specs.Spots.{task_of}
use Rattle.gap_placement.proofs.rows.rows.Given as goal

abbrev pub invariant-loop-i : goal.invariant-loop-i
invariant-loop-i l = record {
  rows : map plain_slotted l.rows.items ++ rows_from (l.i + 1) l.registers (map (task_of (map plain_log l.views)) (drop l.i l.order)) ≡ rows_of l.first (map (task_of (map plain_log l.views)) l.order);
  registers : (replay_all (packets_of (map (task_of (map plain_log l.views)) (drop l.i l.order))) l.registers).after ≡ (replay_all (packets_of (map (task_of (map plain_log l.views)) l.order)) l.first).after;
  same : SamePlaces l.first l.registers;
}
