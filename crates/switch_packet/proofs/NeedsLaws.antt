-- Needs of operation 0.
use Rattle.std.proofs.Common.{◌≤◌, ◌<◌, List, [], ◌∷◌, length, arith}
use Rattle.std.specs.List.{AllByRecursion}
use Rattle.txn_model.specs.declared.op.Need.{Need}

-- operation 0 needs nothing
pub none_below : (ns : List Need) → AllByRecursion (λ n. n.from < 0) ns → length ns ≤ 0
none_below [] v = omega arith
none_below (n ∷ ns) v = absurd (omega (arith, v.0))
