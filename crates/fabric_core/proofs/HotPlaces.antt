-- The places of a script's operations in the switch.
use Rattle.std.proofs.Common.{◌≡◌, ◌≢◌, ℕ, ◌||◌, not, Bool, true, false, List, [], ◌∷◌, get_or, is_some, unwrap_or, Option, Some, None, IsTrue, refl, ap, subst, if◌then◌else◌}
use Rattle.std.specs.FinMap as fin
use Rattle.std.specs.List.{AllByRecursion, list_any}
use Rattle.std.proofs.lemmas.List.Elements.{recursion_from_All}
use Rattle.txn_model.specs.Tuples.{Tuples}
use Rattle.txn_model.specs.declared.op.Op.{Op}
use Rattle.txn_model.specs.declared.op.TupleId.{TupleId}
use Rattle.txn_model.specs.declared.place.Place.{Place}
use Rattle.stage_layout.specs.Late.{is_hot}
use Rattle.stage_layout.specs.Layout.{same_tuple, place_of, is_bad_row, first_bad_row, first_repeat, first_of, layout_fault}
use Rattle.stage_layout.specs.Shape.{has_place}
use Rattle.stage_layout.specs.declared.layout.LayoutFault.TheVariants.{BadPlace, PlaceTwice}
use Rattle.stage_layout.specs.declared.layout.LayoutRow.{LayoutRow}
use Rattle.stage_layout.specs.declared.shape.Shape.{Shape}
use Rattle.stage_layout.proofs.Firsts.{fails_at}
use Rattle.warm_split.specs.Sides.{HasPlaces, hot_ops, hot_place}

none_bad : (shape : Shape) (tuples : Tuples) (rows : List LayoutRow) → layout_fault shape tuples rows ≡ None → first_bad_row shape tuples rows ≡ None
unfolding layout_fault
none_bad shape tuples rows e = by (first_bad_row shape tuples rows) (first_repeat rows) e
  where
    by : (a b : Option ℕ) → first_of a BadPlace (first_of b PlaceTwice None) ≡ None → a ≡ None
    by None b e = refl
    by (Some k) b e = cc

good_row : (there has : Bool) → (not there || not has) ≡ false → has ≡ true
good_row true true e = refl
good_row true false e = cc
good_row false has e = cc

have_places : (shape : Shape) (tuples : Tuples) (rows : List LayoutRow) → first_bad_row shape tuples rows ≡ None → AllByRecursion (λ row. has_place shape row.place ≡ true) rows
have_places shape tuples rows none =
    recursion_from_All (λ (row : LayoutRow). has_place shape row.place ≡ true) rows (λ k d lt.
    let row = get_or rows k d in good_row (is_some (fin.get tuples row.tuple)) (has_place shape row.place) (fails_at (is_bad_row shape tuples) d rows k none lt))

pub rows_have_places : (shape : Shape) (tuples : Tuples) (rows : List LayoutRow) → layout_fault shape tuples rows ≡ None → AllByRecursion (λ row. has_place shape row.place ≡ true) rows
rows_have_places shape tuples rows none = have_places shape tuples rows (none_bad shape tuples rows none)

-- a tuple with a place has it in the switch
placed : (shape : Shape) (rows : List LayoutRow) (t : TupleId) → AllByRecursion (λ row. has_place shape row.place ≡ true) rows → is_hot rows t ≡ true → has_place shape (hot_place rows t) ≡ true
placed shape [] t all e = cc
placed shape (row ∷ rows) t all e = by (same_tuple row.tuple t) e (placed shape rows t all.1)
  where
    by : (b : Bool) → is_some (if b then Some row.place else place_of rows t) ≡ true → (is_hot rows t ≡ true → has_place shape (hot_place rows t) ≡ true)
        → has_place shape (unwrap_or (if b then Some row.place else place_of rows t) (record { stage = 0; array = 0; cell = 0 })) ≡ true
    by true at rest = all.0
    by false at rest = rest at

pub has_places : (shape : Shape) (tuples : Tuples) (rows : List LayoutRow) (ops : List Op) → layout_fault shape tuples rows ≡ None → HasPlaces shape rows ops
has_places shape tuples rows ops none = each ops
  where
    all : AllByRecursion (λ row. has_place shape row.place ≡ true) rows
    all = have_places shape tuples rows (none_bad shape tuples rows none)

    each : (l : List Op) → HasPlaces shape rows l
    each [] = tt
    each (op ∷ l) = by (is_hot rows op.tuple) refl (each l)
      where
        by : (b : Bool) → is_hot rows op.tuple ≡ b → HasPlaces shape rows l → AllByRecursion (λ o. IsTrue (has_place shape (hot_place rows o.tuple))) (if b then op ∷ hot_ops rows l else hot_ops rows l)
        by true e rest = (placed shape rows op.tuple all e, rest)
        by false e rest = rest

-- a script with an operation in the switch
pub some_hot_op : (rows : List LayoutRow) (ops : List Op) → list_any (λ op. is_hot rows op.tuple) ops ≡ true → hot_ops rows ops ≢ []
some_hot_op rows [] e = cc
some_hot_op rows (op ∷ ops) e = by (is_hot rows op.tuple) e (some_hot_op rows ops)
  where
    by : (b : Bool) → (b || list_any (λ o. is_hot rows o.tuple) ops) ≡ true → (list_any (λ o. is_hot rows o.tuple) ops ≡ true → hot_ops rows ops ≢ []) → (if b then op ∷ hot_ops rows ops else hot_ops rows ops) ≢ []
    by true is rest = λ none. cc
    by false is rest = rest is

-- the place of a tuple in the switch is one of the switch
pub place_is_there : (shape : Shape) (tuples : Tuples) (rows : List LayoutRow) (t : TupleId) (place : Place) → layout_fault shape tuples rows ≡ None → place_of rows t ≡ Some place → has_place shape place ≡ true
place_is_there shape tuples rows t place none is =
    subst (λ (p : Place). has_place shape p ≡ true) (ap (λ (o : Option Place). unwrap_or o (record { stage = 0; array = 0; cell = 0 })) is)
    (placed shape rows t (have_places shape tuples rows (none_bad shape tuples rows none)) (ap is_some is))
