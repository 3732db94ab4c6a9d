use Rattle.std.proofs.Common.{◌≡◌, ℕ, ◌<◌, false, get_or, take}
use Rattle.std.specs.BTreeSet as set
use Rattle.txn_model.specs.Places.{place_cmp}
use Rattle.txn_model.specs.Tuples.{tuple_cmp}
use Rattle.txn_model.specs.declared.op.TupleId.{TupleId}
use Rattle.txn_model.specs.declared.place.Place.{Place}
use Rattle.stage_layout.specs.Layout.{names_tuple, names_place, repeats}
use Rattle.stage_layout.proofs.NoRow.{no_row}
use Rattle.stage_layout.proofs.layout.first_repeat.Given as goal

-- the sets have what the rows so far name, and none of these repeats an earlier one
abbrev pub invariant-loop-i : goal.invariant-loop-i
invariant-loop-i l = record {
  tuples : (t : TupleId) → set.contains tuple_cmp l.tuples t ≡ names_tuple (take l.i l.rows) t;
  places : (p : Place) → set.contains place_cmp l.places p ≡ names_place (take l.i l.rows) p;
  fresh : (k : ℕ) → k < l.i → repeats (take k l.rows) (get_or l.rows k no_row) ≡ false;
}
