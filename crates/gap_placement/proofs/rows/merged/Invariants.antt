use Rattle.std.proofs.Common.{◌≡◌, ◌++◌, drop, reverse}
use Rattle.gap_placement.specs.Slots.{merge}
use Rattle.gap_placement.proofs.rows.merged.Given as goal

abbrev pub invariant-loop-i : goal.invariant-loop-i
invariant-loop-i l = l.order.items ++ merge (drop l.i l.slots) (reverse l.found.items) ≡ merge l.slots (reverse l.fn.found.items)
