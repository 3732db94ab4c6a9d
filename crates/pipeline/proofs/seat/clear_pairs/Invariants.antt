use Rattle.std.proofs.Common.{◌≡◌, length, map, take}
use Rattle.switch_model.specs.Flight.{zero_pair}
use Rattle.switch_packet.specs.Packets.{room_of}
use Rattle.pipeline.proofs.seat.clear_pairs.Given as goal

abbrev pub invariant-loop-op : goal.invariant-loop-op
invariant-loop-op l = record {
  all : l._op-items ≡ l.packet.ops.items;
  items : l.pairs.items ≡ map (λ op. zero_pair) (take l._op-index l.packet.ops.items);
  count : length l.pairs.items ≡ l._op-index;
  room : room_of l.pairs ≡ room_of l.fn.pairs;
}
