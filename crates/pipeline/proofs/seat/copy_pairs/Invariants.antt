use Rattle.std.proofs.Common.{◌≡◌, ◌≤◌, length, take}
use Rattle.switch_packet.specs.Packets.{room_of}
use Rattle.pipeline.proofs.seat.copy_pairs.Given as goal

abbrev pub invariant-loop-pair : goal.invariant-loop-pair
invariant-loop-pair l = record {
  all : l.pair-items ≡ l.from.items;
  items : l.to.items ≡ take l.pair-index l.from.items;
  few : length l.from.items ≤ 255;
  count : length l.to.items ≡ l.pair-index;
  room : room_of l.to ≡ room_of l.fn.to;
}
