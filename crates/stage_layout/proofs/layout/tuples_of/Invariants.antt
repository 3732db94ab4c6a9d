use Rattle.std.proofs.Common.{◌≡◌, true, drop, IsTrue}
use Rattle.std.specs.BTreeMap as tree
use Rattle.txn_model.specs.Places.{place_cmp}
use Rattle.txn_model.specs.declared.place.Place.{Place}
use Rattle.stage_layout.specs.Index.{have_own_places}
use Rattle.stage_layout.specs.Layout.{tuple_at}
use Rattle.stage_layout.proofs.layout.tuples_of.Given as goal

-- the map answers as the rows from i on do, and where these are said to differ, each has a place of its own
abbrev pub invariant-loop-i : goal.invariant-loop-i
invariant-loop-i l = record {
  by_place : (p : Place) → tree.get place_cmp l.tuples p ≡ tuple_at (drop l.i l.rows) p;
  own : l.differ ≡ true → IsTrue (have_own_places (drop l.i l.rows));
}
