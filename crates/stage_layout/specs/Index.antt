-- What a layout is searched by.
use Rattle.std.specs.Prelude.{◌≡◌, ◌<◌, ◌^◌, ◌&&◌, Bool, true, not, List, [], ◌∷◌, length, None, IsTrue}
use Rattle.std.specs.BTreeMap as tree
use Rattle.std.specs.BTreeMap.{BTreeMap}
use Rattle.std.specs.FinMap as fin
use Rattle.txn_model.specs.Places.{place_cmp}
use Rattle.txn_model.specs.Tuples.{tuple_cmp}
use Rattle.txn_model.specs.declared.op.TupleId.{TupleId}
use Rattle.txn_model.specs.declared.place.Place.{Place}
use Rattle.stage_layout.specs.declared.layout.LayoutRow.{LayoutRow}
use Rattle.stage_layout.specs.Layout.{place_of, tuple_at, names_place, first_repeat}

-- a row, as a tuple and what stands behind it
abbrev pub tuple_and_place : LayoutRow → TupleId × Place
tuple_and_place row = (row.tuple, row.place)

-- no row has the place of another one
abbrev pub have_own_places : List LayoutRow → Bool
have_own_places [] = true
have_own_places (row ∷ rows) = not (names_place rows row.place) && have_own_places rows

-- the list and the map answer for each tuple and each place as the rows do, and where the rows are known to be apart none is a repeat
pub record IsIndexed (rows : List LayoutRow) (places : List (TupleId × Place)) (tuples : BTreeMap Place TupleId) (is_apart : Bool) : Type 0 where
  pub few : length rows < 2 ^ 32
  pub sorted : IsTrue (fin.is_sorted tuple_cmp places)
  pub by_tuple : (t : TupleId) → fin.find tuple_cmp t places ≡ place_of rows t
  pub by_place : (p : Place) → tree.get place_cmp tuples p ≡ tuple_at rows p
  pub apart : is_apart ≡ true → first_repeat rows ≡ None
