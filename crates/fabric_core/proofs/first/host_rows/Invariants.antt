use Rattle.std.proofs.Common.{◌≡◌, ◌++◌, drop, filter, not}
use Rattle.std.specs.FinMap as fin
use Rattle.stage_layout.specs.Late.{is_hot}
use Rattle.fabric_core.proofs.first.host_rows.Given as goal

-- the rows so far and those on hosts that are left make the whole
abbrev pub invariant-loop-row : goal.invariant-loop-row
invariant-loop-row l = l.rows.items ++ filter (λ row. not (is_hot l.session.layout row.0)) (drop l.row-index (fin.entries l.session.tuples)) ≡ filter (λ row. not (is_hot l.fn.session.layout row.0)) (fin.entries l.fn.session.tuples)
