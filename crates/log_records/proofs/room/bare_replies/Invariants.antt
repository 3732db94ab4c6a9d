use Rattle.std.proofs.Common.{◌≡◌, ◌≤◌, length, vec_capacity}
use Rattle.std.specs.List.{All}
use Rattle.log_records.specs.Room.{IsBare}
use Rattle.log_records.proofs.room.bare_replies.Given as goal

abbrev pub invariant-loop : goal.invariant-loop
invariant-loop l = record {
  many : length l.replies.items ≡ l.counter;
  room : l.many ≤ vec_capacity l.replies;
  bare : All IsBare l.replies.items;
}
