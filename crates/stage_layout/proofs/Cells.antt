-- The map from the places of a layout to the values of their tuples, from an ordered map of the places.
use Rattle.std.proofs.Common.{◌≡◌, true, false, cond, T, IsTrue, List, [], ◌∷◌, map, Some, refl, sym, ap, subst, ◌∙◌, arith, Ordering, Less, is_eq}
use Rattle.std.specs.BTreeMap as tree
use Rattle.std.specs.BTreeMap.{BTreeMap, IsOrdered, is_at}
use Rattle.std.specs.FinMap as fin
use Rattle.std.specs.FinMap.{is_sorted, find, same_map, get-from_sorted, get-empty, get-insert}
use Rattle.std.specs.FinMap.Entries.{below_all}
use Rattle.std.specs.List.{AllByRecursion}
use Rattle.std.specs.List.Sorted.{IsStrictlySortedBy}
use Rattle.std.specs.Map.{lookup, keys_of}
use Rattle.std.specs.Option.{option_map}
use Rattle.std.specs.Ordering.{eq_by_cmp}
use Rattle.std.proofs.lemmas.Grind.{common_steps}
use Rattle.txn_model.proofs.PlaceOrder.{place_cmp_total, place_cmp_exact}
use Rattle.txn_model.specs.Places.{place_cmp}
use Rattle.txn_model.specs.Tuples.{Tuples, value_at}
use Rattle.txn_model.specs.declared.op.TupleId.{TupleId}
use Rattle.txn_model.specs.declared.place.Place.{Place}
use Rattle.stage_layout.specs.declared.layout.LayoutRow.{LayoutRow}
use Rattle.stage_layout.specs.Layout.{same_place, tuple_at, first_cells}

module _ {K A X : Type 0} (R : K → K → Ordering) (g : A → X) where
  abbrev with_values : List (K × A) → List (K × X)
  with_values es = map (λ e. (e.0, g e.1)) es

  below_map : (k : K) (es : List (K × A)) → AllByRecursion (λ y. R k y ≡ Less) (keys_of es) → IsTrue (below_all R k (with_values es))
  below_map k [] h = refl
  below_map k (e ∷ es) h = rw (h.0, below_map k es h.1) refl

  -- other values leave the rows in order
  pub is_sorted-map : (es : List (K × A)) → IsStrictlySortedBy R (keys_of es) → IsTrue (is_sorted R (with_values es))
  unfolding IsStrictlySortedBy
  is_sorted-map [] h = refl
  is_sorted-map (e ∷ es) h = rw (below_map e.0 es h.0, is_sorted-map es h.1) refl

  find-map : (q : K) (es : List (K × A)) → find R q (with_values es) ≡ option_map g (lookup (is_at (R q)) es)
  find-map q [] = refl
  find-map q (e ∷ es) = elim (is_eq (R q e.0)) as (λ b. cond b (Some (g e.1)) (find R q (with_values es)) ≡ option_map g (cond b (Some e.1) (lookup (is_at (R q)) es))) [ true ↦ refl | false ↦ find-map q es ]

module _ {K A : Type 0} (R : K → K → Ordering) where
  -- the rows of a map are searched as the map is
  pub find-same : (q : K) (es : List (K × A)) → find R q (map (λ e. (e.0, e.1)) es) ≡ lookup (is_at (R q)) es
  find-same q [] = refl
  find-same q (e ∷ es) = ap (cond (is_eq (R q e.0)) (Some e.1)) (find-same q es)

same_place_by_cmp : (p q : Place) → eq_by_cmp place_cmp q p ≡ same_place p q
same_place_by_cmp p q = grind (arith, common_steps)

get-first_cells : (tuples : Tuples) (rows : List LayoutRow) (q : Place) → fin.get (first_cells tuples rows) q ≡ option_map (value_at tuples) (tuple_at rows q)
get-first_cells tuples [] q = get-empty place_cmp q
get-first_cells tuples (row ∷ rows) q =
    get-insert place_cmp_total (first_cells tuples rows) row.place (value_at tuples row.tuple) q
    ∙ ap (λ b. cond b (Some (value_at tuples row.tuple)) (fin.get (first_cells tuples rows) q)) (same_place_by_cmp row.place q)
    ∙ elim (same_place row.place q) as (λ b. cond b (Some (value_at tuples row.tuple)) (fin.get (first_cells tuples rows) q) ≡ option_map (value_at tuples) (cond b (Some row.tuple) (tuple_at rows q))) [ true ↦ refl | false ↦ get-first_cells tuples rows q ]

-- a map that answers as the rows do gives the first cells
pub first_cells-from_map : (tuples : Tuples) (rows : List LayoutRow) (cells : BTreeMap Place TupleId) → ((p : Place) → tree.get place_cmp cells p ≡ tuple_at rows p)
    → IsOrdered place_cmp cells → fin.from_sorted (map (λ cell. (cell.0, value_at tuples cell.1)) cells.entries) ≡ first_cells tuples rows
first_cells-from_map tuples rows cells same ordered =
    same_map place_cmp_total place_cmp_exact _ _ (λ q.
    get-from_sorted place_cmp _ q (subst T (sym (is_sorted-map place_cmp (value_at tuples) cells.entries ordered)) tt)
    ∙ find-map place_cmp (value_at tuples) q cells.entries
    ∙ ap (option_map (value_at tuples)) (same q)
    ∙ sym (get-first_cells tuples rows q))
