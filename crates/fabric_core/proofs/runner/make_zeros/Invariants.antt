use Rattle.std.proofs.Common.{◌≡◌, replicate}
use Rattle.client_phase.specs.Shown.{zero_pair}
use Rattle.switch_packet.specs.Packets.{room_of}
use Rattle.fabric_core.proofs.runner.make_zeros.Given as goal

-- so many zeros so far, in the room that there was
abbrev pub invariant-loop : goal.invariant-loop
invariant-loop l = record {
  zeros : l.pairs.items ≡ replicate l.counter zero_pair;
  room : room_of l.pairs ≡ room_of l.fn.pairs;
}
