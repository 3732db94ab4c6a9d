use Rattle.std.proofs.Common.{◌≡◌, ℕ, ◌<◌, ◌≤◌, true, false, length}
use Rattle.txn_model.specs.Serial.{pair_at}
use Rattle.warm_split.specs.OpSet.{contains, members}
use Rattle.warm_split.proofs.Placing.{PlacesTo}
use Rattle.warm_split.proofs.pairs.place.Given as goal

abbrev pub invariant-loop-op : goal.invariant-loop-op
invariant-loop-op l = record {
  spare : l.pairs.spare ≡ l.fn.pairs.spare;
  so_far : PlacesTo l.set l.hot.items l.fn.pairs.items l.op l.next l.pairs.items;
}
