use Rattle.std.proofs.Common.{◌≡◌, ◌≤◌, length, vec_capacity}
use Rattle.std.specs.List.{All}
use Rattle.log_records.specs.Room.{IsBlank}
use Rattle.log_records.proofs.room.blank_packets.Given as goal

abbrev pub invariant-loop : goal.invariant-loop
invariant-loop l = record {
  many : length l.packets.items ≡ l.counter;
  room : l.many ≤ vec_capacity l.packets;
  blank : All IsBlank l.packets.items;
}
