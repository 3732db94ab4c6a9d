-- The hot operations of a script: whether there are any, and their places.
use Rattle.std.proofs.Common.{◌≡◌, ◌≢◌, ℕ, Bool, true, false, cond, ◌||◌, List, [], ◌∷◌, length, map, refl, sym, ap, subst, ◌∙◌}
use Rattle.std.specs.Prelude.{IsTrue, Option, Some, None, unwrap_or}
use Rattle.std.specs.List.{list_any, AllByRecursion}
use Rattle.txn_model.specs.declared.op.Op.{Op}
use Rattle.txn_model.specs.declared.op.TupleId.{TupleId}
use Rattle.txn_model.specs.declared.place.Place.{Place}
use Rattle.stage_layout.specs.Late.{is_hot, parts_of}
use Rattle.stage_layout.specs.Layout.{place_of, same_tuple}
use Rattle.stage_layout.specs.Passes.{plan_of, greatest}
use Rattle.stage_layout.specs.Shape.{has_place}
use Rattle.stage_layout.specs.declared.layout.LayoutRow.{LayoutRow}
use Rattle.stage_layout.specs.declared.shape.Shape.{Shape}
use Rattle.catalogue.specs.Plan.{Run}
use Rattle.warm_split.specs.Resolved.{planned_op}
use Rattle.warm_split.specs.Sides.{hot_ops, hot_place, HasPlaces}
use Rattle.declust.specs.Total.{passes_of, AreInside}

none_hot : (rows : List LayoutRow) (ops : List Op) → list_any (λ op. is_hot rows op.tuple) ops ≡ false → hot_ops rows ops ≡ []
none_hot rows [] e = refl
none_hot rows (op ∷ ops) e =
    let go : (b : Bool) → (b || list_any (λ o. is_hot rows o.tuple) ops) ≡ false → cond b (op ∷ hot_ops rows ops) (hot_ops rows ops) ≡ [] =
    λ b. elim b as (λ b. (b || list_any (λ o. is_hot rows o.tuple) ops) ≡ false → cond b (op ∷ hot_ops rows ops) (hot_ops rows ops) ≡ []) [ true ↦ λ wrong. cc wrong | false ↦ λ rest. none_hot rows ops rest ] in
    go (is_hot rows op.tuple) e

pub some_hot : (rows : List LayoutRow) (ops : List Op) → list_any (λ op. is_hot rows op.tuple) ops ≡ true → hot_ops rows ops ≢ []
some_hot rows [] e = λ _. cc e
some_hot rows (op ∷ ops) e =
    let go : (b : Bool) → (b || list_any (λ o. is_hot rows o.tuple) ops) ≡ true → cond b (op ∷ hot_ops rows ops) (hot_ops rows ops) ≢ [] =
    λ b. elim b as (λ b. (b || list_any (λ o. is_hot rows o.tuple) ops) ≡ true → cond b (op ∷ hot_ops rows ops) (hot_ops rows ops) ≢ []) [ true ↦ λ _ wrong. cc wrong | false ↦ λ rest. some_hot rows ops rest ] in
    go (is_hot rows op.tuple) e

no_passes : (shape : Shape) → greatest (plan_of shape []).passes ≡ 0
unfolding plan_of
no_passes shape = refl

-- a script without hot operations needs no pass
pub cold_passes : (shape : Shape) (rows : List LayoutRow) (ops : List Op) → list_any (λ op. is_hot rows op.tuple) ops ≡ false → passes_of shape rows (Run ops) ≡ 0
cold_passes shape rows ops e = ap (λ (hot : List Op). greatest (plan_of shape (map (planned_op rows (parts_of rows ops)) hot)).passes) (none_hot rows ops e) ∙ no_passes shape

place_inside : (shape : Shape) (rows : List LayoutRow) (t : TupleId) → AreInside shape rows → is_hot rows t ≡ true → IsTrue (has_place shape (hot_place rows t))
place_inside shape [] t h e = cc e
place_inside shape (row ∷ rows) t h e =
    let go : (b : Bool) → same_tuple row.tuple t ≡ b → IsTrue (has_place shape (hot_place (row ∷ rows) t)) = λ b. elim b as (λ b. same_tuple row.tuple t ≡ b → IsTrue (has_place shape (hot_place (row ∷ rows) t))) [
      | true ↦ λ same. rw same h.0
      | false ↦ λ apart. rw apart (place_inside shape rows t h.1 (rw apart at e))
    ] in
    go (same_tuple row.tuple t) refl

pub has_places : (shape : Shape) (rows : List LayoutRow) (ops : List Op) → AreInside shape rows → HasPlaces shape rows ops
has_places shape rows [] h = tt
has_places shape rows (op ∷ ops) h =
    let P : Op → Type 0 = λ o. IsTrue (has_place shape (hot_place rows o.tuple)) in
    let go : (b : Bool) → is_hot rows op.tuple ≡ b → AllByRecursion P (cond b (op ∷ hot_ops rows ops) (hot_ops rows ops)) = λ b. elim b as (λ b. is_hot rows op.tuple ≡ b → AllByRecursion P (cond b (op ∷ hot_ops rows ops) (hot_ops rows ops))) [
      | true ↦ λ hot. (place_inside shape rows op.tuple h hot, has_places shape rows ops h)
      | false ↦ λ _. has_places shape rows ops h
    ] in
    go (is_hot rows op.tuple) refl
