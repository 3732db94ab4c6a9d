use Rattle.std.proofs.Common.{◌≡◌, take}
use Rattle.history_core.specs.Own.{room_in}
use Rattle.history_core.proofs.own_entries.refill.Given as goal

abbrev pub invariant-loop-pair : goal.invariant-loop-pair
invariant-loop-pair l = record {
  items : l.to.items ≡ take l.pair-index l.pair-items;
  room : room_in l.to ≡ room_in l.fn.to;
}
