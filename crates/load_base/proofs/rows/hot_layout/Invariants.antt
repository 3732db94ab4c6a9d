use Rattle.std.proofs.Common.{◌≡◌, ◌≤◌, map}
use Rattle.std.specs.List.{range_with_len}
use Rattle.load_base.specs.Load.{hot_row}
use Rattle.load_base.proofs.rows.hot_layout.Given as goal

abbrev pub invariant-loop-id : goal.invariant-loop-id
invariant-loop-id l = record { bound : l.id ≤ l.hot; rows : l.rows.items ≡ map hot_row (range_with_len 0 l.id) }
