-- Numbers at all places of a switch.
use Rattle.std.proofs.Common.{◌≡◌, ℕ, zero, suc, ◌==◌, ◌&&◌, ◌||◌, Bool, true, false, cond, nat_lt, ℤ, pos, List, [], ◌∷◌, map, Option, Some, None, unwrap_or, refl, sym, ap, ap₂, ◌∙◌, arith}
use Rattle.std.specs.FinMap as fin
use Rattle.std.specs.FinMap.{same_map, get-from_entries, find}
use Rattle.std.specs.List.{list_any}
use Rattle.std.proofs.lemmas.Bool.Decides.{nat_tests}
use Rattle.std.proofs.lemmas.List.Folds.{list_any-append}
use Rattle.txn_model.proofs.PlaceOrder.{place_cmp_total, place_cmp_exact}
use Rattle.txn_model.specs.Places.{Places, place_cmp}
use Rattle.txn_model.specs.declared.place.Place.{Place}
use Rattle.stage_layout.specs.Shape.{has_place}
use Rattle.stage_layout.specs.declared.shape.Shape.{Shape}
use Rattle.switch_packet.specs.Replay.{register_at}
use Rattle.register_stage.proofs.FullMap.{same, same_by_cmp, same_is}
use Rattle.pipeline.specs.Numbers.{array_places, stage_places, places_in, all_places, numbers_of}

-- ---- which places there are

in_array : (stage array cells : ℕ) → Place → Bool
in_array stage array cells q = q.stage == stage && (q.array == array && nat_lt q.cell cells)

abbrev place : (stage array cell : ℕ) → Place
place stage array cell = record { stage = stage; array = array; cell = cell }

array_none : (stage array : ℕ) (q : Place) → false ≡ q.stage == stage && (q.array == array && nat_lt q.cell zero)
array_none stage array q = grind (arith, nat_tests)

array_more : (stage array cell : ℕ) (q : Place) → same q (place stage array cell) || (q.stage == stage && (q.array == array && nat_lt q.cell cell)) ≡ q.stage == stage && (q.array == array && nat_lt q.cell (suc cell))
array_more stage array cell q = grind (arith, nat_tests)

in_array_places : (stage array cells : ℕ) (q : Place) → list_any (same q) (array_places stage array cells) ≡ q.stage == stage && (q.array == array && nat_lt q.cell cells)
unfolding array_places
in_array_places stage array zero q = array_none stage array q
in_array_places stage array (suc cell) q = ap (λ (b : Bool). same q (place stage array cell) || b) (in_array_places stage array cell q) ∙ array_more stage array cell q

stage_none : (stage cells : ℕ) (q : Place) → false ≡ q.stage == stage && (nat_lt q.array zero && nat_lt q.cell cells)
stage_none stage cells q = grind (arith, nat_tests)

stage_more : (stage array cells : ℕ) (q : Place) → (q.stage == stage && (q.array == array && nat_lt q.cell cells)) || (q.stage == stage && (nat_lt q.array array && nat_lt q.cell cells)) ≡ q.stage == stage && (nat_lt q.array (suc array) && nat_lt q.cell cells)
stage_more stage array cells q = grind (arith, nat_tests)

in_stage_places : (stage arrays cells : ℕ) (q : Place) → list_any (same q) (stage_places stage arrays cells) ≡ q.stage == stage && (nat_lt q.array arrays && nat_lt q.cell cells)
unfolding stage_places
in_stage_places stage zero cells q = stage_none stage cells q
in_stage_places stage (suc array) cells q =
    list_any-append (same q) (array_places stage array cells) (stage_places stage array cells)
    ∙ ap₂ (λ (a b : Bool). a || b) (in_array_places stage array cells q) (in_stage_places stage array cells q)
    ∙ stage_more stage array cells q

places_none : (arrays cells : ℕ) (q : Place) → false ≡ nat_lt q.stage zero && (nat_lt q.array arrays && nat_lt q.cell cells)
places_none arrays cells q = grind (arith, nat_tests)

places_more : (stage arrays cells : ℕ) (q : Place) → (q.stage == stage && (nat_lt q.array arrays && nat_lt q.cell cells)) || (nat_lt q.stage stage && (nat_lt q.array arrays && nat_lt q.cell cells)) ≡ nat_lt q.stage (suc stage) && (nat_lt q.array arrays && nat_lt q.cell cells)
places_more stage arrays cells q = grind (arith, nat_tests)

in_places : (stages arrays cells : ℕ) (q : Place) → list_any (same q) (places_in stages arrays cells) ≡ nat_lt q.stage stages && (nat_lt q.array arrays && nat_lt q.cell cells)
unfolding places_in
in_places zero arrays cells q = places_none arrays cells q
in_places (suc stage) arrays cells q =
    list_any-append (same q) (stage_places stage arrays cells) (places_in stage arrays cells)
    ∙ ap₂ (λ (a b : Bool). a || b) (in_stage_places stage arrays cells q) (in_places stage arrays cells q)
    ∙ places_more stage arrays cells q

-- all places of a switch are its own, and no others
pub in_all_places : (shape : Shape) (q : Place) → list_any (same q) (all_places shape) ≡ has_place shape q
in_all_places shape q = in_places shape.stages shape.arrays shape.cells q

-- ---- what stands there

find_numbered : (f : Place → ℤ) (q : Place) (ps : List Place) → find place_cmp q (map (λ p. (p, f p)) ps) ≡ cond (list_any (same q) ps) (Some (f q)) None
find_numbered f q [] = refl
find_numbered f q (p ∷ ps) =
    ap (λ (b : Bool). cond b (Some (f p)) (find place_cmp q (map (λ p. (p, f p)) ps))) (same_by_cmp p q)
    ∙ ap (λ (o : Option ℤ). cond (same q p) (Some (f p)) o) (find_numbered f q ps)
    ∙ go (same q p) refl
  where
    go : (b : Bool) → same q p ≡ b → cond b (Some (f p)) (cond (list_any (same q) ps) (Some (f q)) None) ≡ cond (b || list_any (same q) ps) (Some (f q)) None
    go true e = ap (λ (x : Place). Some (f x)) (sym (same_is q p e))
    go false e = refl

-- at each place of the switch stands the number that f gives, and elsewhere none
pub get-numbers_of : (shape : Shape) (f : Place → ℤ) (q : Place) → fin.get (numbers_of shape f) q ≡ cond (has_place shape q) (Some (f q)) None
unfolding numbers_of
get-numbers_of shape f q =
    get-from_entries place_cmp_total (map (λ p. (p, f p)) (all_places shape)) q
    ∙ find_numbered f q (all_places shape)
    ∙ ap (λ (b : Bool). cond b (Some (f q)) None) (in_all_places shape q)

pub register-numbers_of : (shape : Shape) (f : Place → ℤ) (q : Place) → has_place shape q ≡ true → register_at (numbers_of shape f) q ≡ f q
register-numbers_of shape f q there =
    ap (λ (o : Option ℤ). unwrap_or o (pos 0)) (get-numbers_of shape f q ∙ ap (λ (b : Bool). cond b (Some (f q)) None) there)

-- a map with these numbers at the places of the switch, and no others
pub is-numbers_of : (shape : Shape) (f : Place → ℤ) (m : Places) → ((q : Place) → fin.get m q ≡ cond (has_place shape q) (Some (f q)) None) → m ≡ numbers_of shape f
is-numbers_of shape f m h = same_map place_cmp_total place_cmp_exact m (numbers_of shape f) (λ q. h q ∙ sym (get-numbers_of shape f q))

-- equal numbers at the places of the switch make equal maps
pub numbers_of-same : (shape : Shape) (f g : Place → ℤ) → ((q : Place) → has_place shape q ≡ true → f q ≡ g q) → numbers_of shape f ≡ numbers_of shape g
numbers_of-same shape f g h = is-numbers_of shape g (numbers_of shape f) (λ q. get-numbers_of shape f q ∙ go q (has_place shape q) refl)
  where
    go : (q : Place) (b : Bool) → has_place shape q ≡ b → cond b (Some (f q)) None ≡ cond b (Some (g q)) None
    go q true e = ap Some (h q e)
    go q false e = refl
