use Rattle.std.proofs.Common.{◌≡◌, ◌≤◌, ◌+◌, take, length}
use Rattle.log_records.proofs.room.fill.Given as goal

abbrev pub invariant-loop-pair : goal.invariant-loop-pair
invariant-loop-pair l = record {
  items : l.to.items ≡ take l.pair-index l.pair-items;
  room : 16 ≤ length l.to.items + l.to.spare;
}
