use Rattle.std.proofs.Common.{◌≡◌, ◌++◌, map}
use Rattle.std.specs.List.{range_with_len}
use Rattle.fabric_core.specs.Running.{state_in}
use Rattle.report_text.specs.Summary.{ended}
use Rattle.report_text.proofs.summary.push_ends.Given as goal

abbrev pub invariant-loop-i : goal.invariant-loop-i
invariant-loop-i g l = l.ends.items ≡ l.initial.ends.items ++ map (ended l.world.plan (state_in l.world) l.client) (range_with_len 1 l.i)
