use Rattle.std.proofs.Common.{◌≡◌, take}
use Rattle.switch_packet.specs.Packets.{room_of}
use Rattle.fabric_core.proofs.draft.copy_pairs.Given as goal

-- the pairs so far were added, in the room that there was
abbrev pub invariant-loop-pair : goal.invariant-loop-pair
invariant-loop-pair l = record {
  items : l.to.items ≡ take l.pair-index l.pair-items;
  room : room_of l.to ≡ room_of l.fn.to;
}
