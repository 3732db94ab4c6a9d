use Rattle.std.proofs.Common.{◌≡◌, ◌+◌}
use Rattle.warm_split.specs.OpSet.{members}
use Rattle.fabric_core.proofs.room.others.Given as goal

-- those so far are not in the set, and no more than the numbers
abbrev pub invariant-loop-number : goal.invariant-loop-number
invariant-loop-number l = l.others + members l.set l.number ≡ l.number
