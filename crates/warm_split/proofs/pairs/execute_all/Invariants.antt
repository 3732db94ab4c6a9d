use Rattle.std.proofs.Common.{◌≡◌}
use Rattle.warm_split.specs.Filled.{executed}
use Rattle.warm_split.proofs.FilledLaws.{FillsTo}
use Rattle.warm_split.proofs.pairs.execute_all.Given as goal

abbrev pub invariant-loop-op : goal.invariant-loop-op
invariant-loop-op l = record {
  spare : l.pairs.spare ≡ l.fn.pairs.spare;
  so_far : FillsTo l.set l.script.items l.op l.pairs.items (executed l.set l.script.items l.fn.pairs.items);
}
