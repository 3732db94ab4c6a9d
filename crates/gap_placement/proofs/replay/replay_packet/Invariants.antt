use Rattle.std.proofs.Common.{◌≡◌, ◌≤◌, ◌+◌, [], drop, length}
use Rattle.switch_packet.specs.Packets.{plain}
use Rattle.switch_packet.specs.Replay.{always, execute, replay}
use Rattle.gap_placement.specs.Replays.{SamePlaces}
use Rattle.gap_placement.proofs.replay.replay_packet.Given as goal

abbrev pub invariant-loop-i : goal.invariant-loop-i
invariant-loop-i l = record {
  count : length l.pairs.items ≡ l.i;
  room : length l.packet.ops.items ≤ l.i + l.pairs.spare;
  same : SamePlaces l.fn.map l.map;
  run : execute always (drop l.i l.packet.ops.items) l.pairs.items [] l.map ≡ replay (plain l.packet) l.fn.map;
}
