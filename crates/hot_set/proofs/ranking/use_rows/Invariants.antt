use Rattle.std.proofs.Common.{◌≡◌, map, take}
use Rattle.hot_set.specs.Hottest.{use_row}
use Rattle.hot_set.proofs.ranking.use_rows.Given as goal

-- a row for each tuple so far
abbrev pub invariant-loop-tuple : goal.invariant-loop-tuple
invariant-loop-tuple l = l.rows.items ≡ map (λ row. use_row l.used row.0) (take l.tuple-index l.tuples)
