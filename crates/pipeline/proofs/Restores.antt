-- An erased pipeline gets numbers.
use Rattle.std.proofs.Common.{◌≡◌, ℕ, ◌||◌, not, ℤ, pos, Bool, true, false, cond, List, [], ◌∷◌, get_or, Option, Some, None, IsSome, IsTrue, is_some, unwrap_or, refl, sym, ap, subst, ◌∙◌}
use Rattle.std.specs.FinMap as fin
use Rattle.std.specs.FinMap.{find, get-entries, get-insert, get-empty}
use Rattle.std.specs.List.{AllByRecursion}
use Rattle.std.specs.Ordering.{eq_by_cmp}
use Rattle.std.proofs.lemmas.List.Elements.{recursion_from_All}
use Rattle.txn_model.proofs.PlaceOrder.{place_cmp_total}
use Rattle.txn_model.specs.Places.{Places, place_cmp}
use Rattle.txn_model.specs.Tuples.{Tuples, value_at}
use Rattle.txn_model.specs.declared.place.Place.{Place}
use Rattle.stage_layout.proofs.Firsts.{fails_at}
use Rattle.stage_layout.specs.Layout.{first_cells, layout_fault, first_bad_row, first_repeat, is_bad_row, first_of}
use Rattle.stage_layout.specs.Shape.{has_place}
use Rattle.stage_layout.specs.declared.layout.LayoutFault.TheVariants.{BadPlace, PlaceTwice}
use Rattle.stage_layout.specs.declared.layout.LayoutRow.{LayoutRow}
use Rattle.stage_layout.specs.declared.shape.Shape.{Shape}
use Rattle.switch_packet.proofs.ExecuteLaws.{is_itself}
use Rattle.switch_packet.specs.Replay.{register_at}
use Rattle.register_stage.proofs.FullMap.{same, same_by_cmp, same_is, get-full_map}
use Rattle.register_stage.specs.Registers.{Registers, is_inside}
use Rattle.pipeline.specs.Keeps.{IsStage, AreStages}
use Rattle.pipeline.specs.Numbers.{numbers_of}
use Rattle.pipeline.specs.Seating.{AreFresh}
use Rattle.pipeline.specs.Seats.{number_in}
use Rattle.pipeline.proofs.Numbered.{register-numbers_of, numbers_of-same}
use Rattle.pipeline.proofs.Stages.{stage_below}

-- ---- which places a map has

later : (q : Place) (row : Place × ℤ) (rows : List (Place × ℤ)) → is_some (find place_cmp q rows) ≡ true → (b : Bool) → is_some (cond b (Some row.1) (find place_cmp q rows)) ≡ true
later q row rows there true = refl
later q row rows there false = there

-- what holds of each place that the map has
pub all_entries : (P : Place → Type 0) (m : Places) → ((q : Place) → IsSome (fin.get m q) → P q) → AllByRecursion (λ row. P row.0) (fin.entries m)
all_entries P m h = go (fin.entries m) (λ q there. h q (ap is_some (get-entries m q) ∙ there))
  where
    itself : (q : Place) → eq_by_cmp place_cmp q q ≡ true
    itself q = is_itself q

    go : (rows : List (Place × ℤ)) → ((q : Place) → is_some (find place_cmp q rows) ≡ true → P q) → AllByRecursion (λ row. P row.0) rows
    go [] h = tt
    go (row ∷ rows) h = (
      h row.0 (ap (λ (b : Bool). is_some (cond b (Some row.1) (find place_cmp row.0 rows))) (itself row.0)),
      go rows (λ q there. h q (later q row rows there (eq_by_cmp place_cmp q row.0))),
    )

-- ---- restoring

-- all numbers of an erased pipeline are 0
pub zero_in : (shape : Shape) (stages : List Registers) → numbers_of shape (number_in stages) ≡ numbers_of shape (λ _. pos 0) → (q : Place) → has_place shape q ≡ true → number_in stages q ≡ pos 0
zero_in shape stages e q there = sym (register-numbers_of shape (number_in stages) q there) ∙ ap (λ (m : Places). register_at m q) e ∙ register-numbers_of shape (λ _. pos 0) q there

-- the registers then have the numbers of the map
pub restored_numbers : (shape : Shape) (old now : List Registers) (m : Places) (rows : List (Place × ℤ)) → rows ≡ fin.entries m → numbers_of shape (number_in old) ≡ numbers_of shape (λ _. pos 0)
    → ((q : Place) → IsTrue (has_place shape q) → number_in now q ≡ unwrap_or (find place_cmp q rows) (number_in old q)) → numbers_of shape (number_in now) ≡ numbers_of shape (register_at m)
restored_numbers shape old now m rows are zeros is =
    numbers_of-same shape (number_in now) (register_at m)
    (λ q there.
    is q there
    ∙ ap (λ (v : ℤ). unwrap_or (find place_cmp q rows) v) (zero_in shape old zeros q there)
    ∙ ap (λ (l : List (Place × ℤ)). unwrap_or (find place_cmp q l) (pos 0)) are
    ∙ ap (λ (o : Option ℤ). unwrap_or o (pos 0)) (sym (get-entries m q)))

-- ---- fresh stages

pub fresh_stages : (shape : Shape) (stages : List Registers) → AreFresh shape shape.stages stages → AreStages shape stages
fresh_stages shape stages fresh = record {
  count = fresh.size;
  each = λ x lt.
      let P : Registers → Type 0 = λ r. IsStage shape x r in
      subst P (sym (fresh.each x lt)) (record { is = refl; inside = λ q. ap is_some (get-full_map x (λ _. pos 0) shape.arrays shape.cells q) ∙ by (is_inside x shape.arrays shape.cells q) });
}
  where
    by : (b : Bool) → is_some (cond b (Some (pos 0)) None) ≡ b
    by true = refl
    by false = refl

pub fresh_numbers : (shape : Shape) (stages : List Registers) → AreFresh shape shape.stages stages → numbers_of shape (number_in stages) ≡ numbers_of shape (λ _. pos 0)
fresh_numbers shape stages fresh =
    numbers_of-same shape (number_in stages) (λ _. pos 0)
    (λ q there.
    ap (λ (r : Registers). register_at r.numbers q) (fresh.each q.stage (stage_below shape q there))
    ∙ ap (λ (o : Option ℤ). unwrap_or o (pos 0)) (get-full_map q.stage (λ _. pos 0) shape.arrays shape.cells q)
    ∙ by (is_inside q.stage shape.arrays shape.cells q))
  where
    by : (b : Bool) → unwrap_or (cond b (Some (pos 0)) None) (pos 0) ≡ pos 0
    by true = refl
    by false = refl

-- ---- places of a layout

none_bad : (shape : Shape) (tuples : Tuples) (rows : List LayoutRow) → layout_fault shape tuples rows ≡ None → first_bad_row shape tuples rows ≡ None
unfolding layout_fault
none_bad shape tuples rows e = by (first_bad_row shape tuples rows) (first_repeat rows) e
  where
    by : (a b : Option ℕ) → first_of a BadPlace (first_of b PlaceTwice None) ≡ None → a ≡ None
    by None b e = refl
    by (Some k) b e = cc

good_row : (there has : Bool) → (not there || not has) ≡ false → has ≡ true
good_row true true e = refl
good_row true false e = cc
good_row false has e = cc

-- the places of a layout without a fault are those of the switch
pub have_places : (shape : Shape) (tuples : Tuples) (rows : List LayoutRow) → layout_fault shape tuples rows ≡ None → AllByRecursion (λ row. has_place shape row.place ≡ true) rows
have_places shape tuples rows e =
    recursion_from_All (λ (row : LayoutRow). has_place shape row.place ≡ true) rows (λ k d lt.
    let row = get_or rows k d in good_row (is_some (fin.get tuples row.tuple)) (has_place shape row.place) (fails_at (is_bad_row shape tuples) d rows k (none_bad shape tuples rows e) lt))

nowhere : (q : Place) → IsSome (fin.get (fin.empty {X = ℤ} {R = place_cmp}) q) → ⊥
nowhere q there = let no : true ≡ false = sym there ∙ ap is_some (get-empty place_cmp q) in absurd cc

by_row : (shape : Shape) (row : LayoutRow) (q : Place) (v : ℤ) (m : Places) → has_place shape row.place ≡ true → (IsSome (fin.get m q) → has_place shape q ≡ true)
    → (b : Bool) → same q row.place ≡ b → is_some (cond b (Some v) (fin.get m q)) ≡ true → has_place shape q ≡ true
by_row shape row q v m there below true e h = ap (has_place shape) (same_is q row.place e) ∙ there
by_row shape row q v m there below false e h = below h

-- a place that has a first value is that of a row, and so one of the switch
pub first_places : (shape : Shape) (tuples : Tuples) (rows : List LayoutRow) → AllByRecursion (λ row. has_place shape row.place ≡ true) rows → (q : Place) → IsSome (fin.get (first_cells tuples rows) q) → has_place shape q ≡ true
first_places shape tuples [] all q there = absurd (nowhere q there)
first_places shape tuples (row ∷ rows) all q there =
    by_row shape row q (value_at tuples row.tuple) (first_cells tuples rows) all.0 (first_places shape tuples rows all.1 q)
    (same q row.place) refl
    (ap is_some (sym (get-insert place_cmp_total (first_cells tuples rows) row.place (value_at tuples row.tuple) q
    ∙ ap (λ (b : Bool). cond b (Some (value_at tuples row.tuple)) (fin.get (first_cells tuples rows) q)) (same_by_cmp row.place q))) ∙ there)
