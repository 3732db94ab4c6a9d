-- The layout of a load has no fault: its places are in the switch, and no two rows share a tuple or a place.
use Rattle.std.proofs.Common.{◌≡◌, ℕ, ℤ, ◌/◌, ◌%◌, ◌<◌, ◌≤◌, ◌&&◌, Bool, true, false, length, take, get_or, None, nat_eq, nat_lt, refl, ap, ◌∙◌, arith}
use Rattle.std.specs.List.{list_any}
use Rattle.std.proofs.lemmas.Bool.Decides.{nat_tests}
use Rattle.std.proofs.lemmas.List.Folds.{list_any_none}
use Rattle.std.proofs.lemmas.List.FromFn.{length-map-range_with_len, get_or-map-range_with_len, take-map-range_with_len}
use Rattle.stage_layout.specs.Layout.{is_bad_row, first_bad_row, first_repeat, repeats, same_tuple, same_place, layout_fault}
use Rattle.stage_layout.specs.Shape.{has_place}
use Rattle.stage_layout.specs.declared.layout.LayoutRow.{LayoutRow}
use Rattle.stage_layout.proofs.Firsts.{position_none, first_none}
use Rattle.load_base.specs.Load.{load_shape, hot_row, hot_rows, first_tuples}
use Rattle.load_base.proofs.TupleRows.{is_there}

row_at : (n k : ℕ) (d : LayoutRow) → k < length (hot_rows n) → get_or (hot_rows n) k d ≡ hot_row k
row_at n k d lt = let h : k < n = omega (arith, length-map-range_with_len hot_row 0 n) in get_or-map-range_with_len hot_row 0 n k k d h (omega arith)

none_of : (p : LayoutRow → Bool) (n : ℕ) → ((i : ℕ) → i < n → p (hot_row i) ≡ false) → list_any p (hot_rows n) ≡ false
none_of p n h = list_any_none p (hot_rows n) (λ k d lt. ap p (row_at n k d lt) ∙ h k (omega (arith, length-map-range_with_len hot_row 0 n)))

other_tuple : (j i : ℕ) → j < i → same_tuple (hot_row j).tuple (hot_row i).tuple ≡ false
other_tuple j i h = grind (arith, nat_tests)

apart : (j i : ℕ) → j < i → j % 12 ≡ i % 12 → j / 12 % 4 ≡ i / 12 % 4 → j / 48 ≡ i / 48 → ⊥
apart j i h s a c = omega arith

other_place : (j i : ℕ) → j < i → same_place (hot_row j).place (hot_row i).place ≡ false
other_place j i h =
    elim (nat_eq (j % 12) (i % 12)) as (λ b. nat_eq (j % 12) (i % 12) ≡ b → (b && (nat_eq (j / 12 % 4) (i / 12 % 4) && nat_eq (j / 48) (i / 48))) ≡ false) [
      | false ↦ λ _. refl
      | true ↦ λ s. elim (nat_eq (j / 12 % 4) (i / 12 % 4)) as (λ b. nat_eq (j / 12 % 4) (i / 12 % 4) ≡ b → (b && nat_eq (j / 48) (i / 48)) ≡ false) [
        | false ↦ λ _. refl
        | true ↦ λ a. elim (nat_eq (j / 48) (i / 48)) as (λ b. nat_eq (j / 48) (i / 48) ≡ b → b ≡ false) [
          | false ↦ λ _. refl
          | true ↦ λ c. absurd (apart j i h (grind (arith, nat_tests)) (grind (arith, nat_tests)) (grind (arith, nat_tests)))
        ] refl
      ] refl
    ] refl

no_repeat : (n i : ℕ) → i < n → repeats (take i (hot_rows n)) (hot_row i) ≡ false
no_repeat n i h =
    let earlier : take i (hot_rows n) ≡ hot_rows i = take-map-range_with_len hot_row 0 n i (omega arith) in
    let tuples = none_of (λ row. same_tuple row.tuple (hot_row i).tuple) i (λ j lt. other_tuple j i lt) in
    let places = none_of (λ row. same_place row.place (hot_row i).place) i (λ j lt. other_place j i lt) in
    ap (λ rows. repeats rows (hot_row i)) earlier ∙ rw (tuples, places) refl

in_switch : (i : ℕ) → i < 65536 → has_place load_shape (hot_row i).place ≡ true
in_switch i h =
    let s : nat_lt (i % 12) 12 ≡ true = grind (arith, nat_tests) in
    let a : nat_lt (i / 12 % 4) 4 ≡ true = grind (arith, nat_tests) in
    let c : nat_lt (i / 48) 4096 ≡ true = grind (arith, nat_tests) in
    rw (s, a, c) refl

no_bad_row : (n i : ℕ) (v : ℤ) → i < n → n ≤ 65536 → is_bad_row load_shape (first_tuples n v) (hot_row i) ≡ false
no_bad_row n i v h few = rw (is_there n i v h, in_switch i (omega arith)) refl

pub has_no_fault : (n hot : ℕ) (v : ℤ) → n ≤ 65536 → hot ≤ n → layout_fault load_shape (first_tuples n v) (hot_rows hot) ≡ None
unfolding layout_fault
has_no_fault n hot v few hots =
    let d : LayoutRow = hot_row 0 in
    let size = length-map-range_with_len hot_row 0 hot in
    let good : first_bad_row load_shape (first_tuples n v) (hot_rows hot) ≡ None = position_none (is_bad_row load_shape (first_tuples n v)) d (hot_rows hot) (λ k lt. ap (is_bad_row load_shape (first_tuples n v)) (row_at hot k d lt) ∙ no_bad_row n k v (omega (arith, size)) few) in
    let once : first_repeat (hot_rows hot) ≡ None = first_none (λ k row. repeats (take k (hot_rows hot)) row) d (hot_rows hot) (λ k lt. ap (repeats (take k (hot_rows hot))) (row_at hot k d lt) ∙ no_repeat hot k (omega (arith, size))) in
    rw (good, once) refl
