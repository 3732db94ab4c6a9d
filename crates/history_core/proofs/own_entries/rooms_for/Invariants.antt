use Rattle.std.proofs.Common.{◌≡◌, ◌≤◌, length, vec_capacity}
use Rattle.std.specs.List.{All}
use Rattle.history_core.specs.Own.{room_in}
use Rattle.history_core.proofs.own_entries.rooms_for.Given as goal

abbrev pub invariant-loop : goal.invariant-loop
invariant-loop l = record {
  many : length l.rooms.items ≡ l.counter;
  room : l.replies ≤ vec_capacity l.rooms;
  wide : All (λ room. 16 ≤ room_in room) l.rooms.items;
}
