-- Layouts as lists of rows: the place of a tuple, the tuple at a place, and what makes a layout unfit.
use Rattle.std.specs.Prelude.{ℕ, ◌==◌, ◌&&◌, ◌||◌, Bool, not, List, [], ◌∷◌, take, position, Option, Some, None, is_some, if◌then◌else◌}
use Rattle.std.specs.FinMap as fin
use Rattle.std.specs.List.{list_any, enumerate_from}
use Rattle.txn_model.specs.Places.{Places}
use Rattle.txn_model.specs.Tuples.{Tuples, value_at}
use Rattle.txn_model.specs.declared.op.TupleId.{TupleId}
use Rattle.txn_model.specs.declared.place.Place.{Place}
use Rattle.stage_layout.specs.declared.layout.LayoutFault.{LayoutFault}
use Rattle.stage_layout.specs.declared.layout.LayoutFault.TheVariants.{BadPlace, PlaceTwice}
use Rattle.stage_layout.specs.declared.layout.LayoutRow.{LayoutRow}
use Rattle.stage_layout.specs.declared.shape.Shape.{Shape}
use Rattle.stage_layout.specs.Shape.{has_place}

abbrev pub same_tuple : TupleId → TupleId → Bool
same_tuple a b = a.0 == b.0

abbrev pub same_place : Place → Place → Bool
same_place a b = a.stage == b.stage && (a.array == b.array && a.cell == b.cell)

-- the place of a tuple: that of the first row with the tuple
abbrev pub place_of : List LayoutRow → TupleId → Option Place
place_of [] t = None
place_of (row ∷ rows) t = if same_tuple row.tuple t then Some row.place else place_of rows t

-- the tuple at a place: that of the first row with the place
abbrev pub tuple_at : List LayoutRow → Place → Option TupleId
tuple_at [] p = None
tuple_at (row ∷ rows) p = if same_place row.place p then Some row.tuple else tuple_at rows p

-- the first values of the hot tuples, by their places
abbrev pub first_cells : Tuples → List LayoutRow → Places
first_cells tuples [] = fin.empty
first_cells tuples (row ∷ rows) = fin.insert (first_cells tuples rows) row.place (value_at tuples row.tuple)

-- the row names a tuple that isn't in the map, or a place outside the switch
abbrev pub is_bad_row : Shape → Tuples → LayoutRow → Bool
is_bad_row shape tuples row = not (is_some (fin.get tuples row.tuple)) || not (has_place shape row.place)

-- the number of the first such row
abbrev pub first_bad_row : Shape → Tuples → List LayoutRow → Option ℕ
first_bad_row shape tuples rows = position (is_bad_row shape tuples) rows

-- one of the rows has the tuple
abbrev pub names_tuple : List LayoutRow → TupleId → Bool
names_tuple rows t = list_any (λ row. same_tuple row.tuple t) rows

-- one of the rows has the place
abbrev pub names_place : List LayoutRow → Place → Bool
names_place rows p = list_any (λ row. same_place row.place p) rows

-- one of the earlier rows has the row's tuple or its place
abbrev pub repeats : List LayoutRow → LayoutRow → Bool
repeats earlier row = names_tuple earlier row.tuple || names_place earlier row.place

-- the number of the first row that repeats one of those before it
abbrev pub first_repeat : List LayoutRow → Option ℕ
first_repeat rows = position (λ row. repeats (take row.0 rows) row.1) (enumerate_from 0 rows)

abbrev pub first_of : Option ℕ → (ℕ → LayoutFault) → Option LayoutFault → Option LayoutFault
first_of None fault other = other
first_of (Some k) fault other = Some (fault k)

-- what is wrong with a layout, the first in this order
unfoldable pub layout_fault : Shape → Tuples → List LayoutRow → Option LayoutFault
layout_fault shape tuples rows = first_of (first_bad_row shape tuples rows) BadPlace (first_of (first_repeat rows) PlaceTwice None)
