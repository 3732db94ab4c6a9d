use Rattle.std.proofs.Common.{◌≡◌, ◌+ℤ◌, drop, map}
use Rattle.txn_model.specs.Number.{wrap}
use Rattle.fabric_model.specs.Laws.{tuple_now}
use Rattle.fabric_core.specs.Running.{state_in}
use Rattle.report_text.specs.RunReport.{tuples_told}
use Rattle.report_text.specs.Summary.{sum_of}
use Rattle.report_text.proofs.summary.total.Given as goal

-- the sum so far and that of the tuples that are left make the whole
abbrev pub invariant-loop-tuple : goal.invariant-loop-tuple
invariant-loop-tuple g l = wrap (l.total +ℤ sum_of (map (λ row. (row.0, tuple_now l.world.plan (state_in l.world) row.0)) (drop l.tuple-index l.tuple-items))) ≡ wrap (sum_of (tuples_told l.world.plan (state_in l.world)))
