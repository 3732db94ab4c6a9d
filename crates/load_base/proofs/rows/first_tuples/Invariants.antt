use Rattle.std.proofs.Common.{◌≡◌, ◌≤◌}
use Rattle.load_base.specs.Load.{first_rows}
use Rattle.load_base.proofs.rows.first_tuples.Given as goal

abbrev pub invariant-loop-id : goal.invariant-loop-id
invariant-loop-id l = record { bound : l.id ≤ l.size.tuples; rows : l.rows.items ≡ first_rows l.id l.size.value }
