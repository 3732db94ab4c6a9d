use Rattle.std.proofs.Common.{take, drop}
use Rattle.gap_placement.proofs.Shortening.{IsUnderWay}
use Rattle.gap_placement.proofs.short.shorten.Given as goal

abbrev pub invariant-loop-change : goal.invariant-loop-change
invariant-loop-change l = IsUnderWay l.near l.fn.known l.known l.demands.items l.touched (take l.change-index l.changes) (drop l.change-index l.changes)
