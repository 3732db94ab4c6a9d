use Rattle.std.proofs.Common.{◌≡◌, ◌≤◌, None, length, replicate, vec_capacity}
use Rattle.gap_placement.proofs.slots.free_slots.Given as goal

abbrev pub invariant-loop : goal.invariant-loop
invariant-loop l = record {
  many : length l.slots.items ≡ l.counter;
  items : l.slots.items ≡ replicate l.counter None;
  room : l.count ≤ vec_capacity l.slots;
}
