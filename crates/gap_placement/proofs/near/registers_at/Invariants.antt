use Rattle.std.proofs.Common.{◌≡◌, drop, ◌++◌}
use Rattle.std.specs.BTreeSet as set
use Rattle.std.specs.FinMap.Entries.{where_key}
use Rattle.txn_model.specs.Places.{place_cmp}
use Rattle.gap_placement.proofs.near.registers_at.Given as goal

abbrev pub invariant-loop-row : goal.invariant-loop-row
invariant-loop-row l = l.rows.items ++ where_key place_cmp (set.contains place_cmp l.places) (drop l.row-index l.all) ≡ where_key place_cmp (set.contains place_cmp l.places) l.all
