use Rattle.std.proofs.Common.{◌≡◌, drop}
use Rattle.std.specs.BTreeMap as tree
use Rattle.txn_model.specs.Tuples.{tuple_cmp}
use Rattle.txn_model.specs.declared.op.TupleId.{TupleId}
use Rattle.stage_layout.specs.Layout.{place_of}
use Rattle.stage_layout.proofs.layout.sorted_places.Given as goal

-- the map answers as the rows from i on do
abbrev pub invariant-loop-i : goal.invariant-loop-i
invariant-loop-i l = (t : TupleId) → tree.get tuple_cmp l.places t ≡ place_of (drop l.i l.rows) t
