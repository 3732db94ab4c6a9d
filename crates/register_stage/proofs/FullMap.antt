-- What stands in a map that is full, and what a write into the list of its numbers does.
use Rattle.std.proofs.Common.{◌≡◌, ℕ, zero, suc, ◌*◌, ◌<◌, ◌&&◌, ◌==◌, Bool, true, false, cond, nat_lt, ℤ, pos, T, List, [], ◌∷◌, map, set, length, get_or-set_same, get_or-set_other, ◌/◌, ◌%◌, Option, Some, None, IsSome, is_some, refl, sym, ap, subst, ◌∙◌, arith, is_lt, replicate}
use Rattle.std.specs.FinMap as fin
use Rattle.std.specs.FinMap.{same_map, get-empty, get-insert, get-from_sorted, is_sorted, find}
use Rattle.std.specs.FinMap.Entries.{below_all}
use Rattle.std.specs.Ordering.{eq_by_cmp}
use Rattle.std.proofs.lemmas.Bool.Decides.{nat_tests}
use Rattle.std.proofs.lemmas.Grind.{common_steps}
use Rattle.std.proofs.lemmas.List.{get_or-replicate}
use Rattle.std.proofs.lemmas.Nat.{div-mul-add, mod-mul-add, mul-add-lt}
use Rattle.txn_model.proofs.PlaceOrder.{place_cmp_total, place_cmp_exact}
use Rattle.txn_model.specs.Places.{Places, place_cmp}
use Rattle.txn_model.specs.declared.place.Place.{Place}
use Rattle.register_stage.specs.Registers.{place_in, is_inside, with_array, full_map, renumbered}
use Rattle.register_stage.specs.Flat.{index_of, number_at}

abbrev pub same : Place → Place → Bool
same a b = a.stage == b.stage && (a.array == b.array && a.cell == b.cell)

pub same_by_cmp : (p q : Place) → eq_by_cmp place_cmp q p ≡ same q p
same_by_cmp p q = grind (arith, common_steps)

-- two places with the same numbers are one
pub same_is : (a b : Place) → same a b ≡ true → a ≡ b
same_is a b h =
    let stage : a.stage ≡ b.stage = grind (arith, nat_tests) in
    let array : a.array ≡ b.array = grind (arith, nat_tests) in
    let cell : a.cell ≡ b.cell = grind (arith, nat_tests) in
    λ i. record { stage = stage i; array = array i; cell = cell i }

abbrev in_array : (stage array cells : ℕ) → Place → Bool
in_array stage array cells q = q.stage == stage && (q.array == array && nat_lt q.cell cells)

in_array_more : (stage array cell : ℕ) (q : Place) → same q (place_in stage array cell) ≡ true → in_array stage array (suc cell) q ≡ true
in_array_more stage array cell q h = grind (arith, nat_tests)

in_array_same : (stage array cell : ℕ) (q : Place) → same q (place_in stage array cell) ≡ false → in_array stage array cell q ≡ in_array stage array (suc cell) q
in_array_same stage array cell q h = grind (arith, nat_tests)

in_none : (stage array : ℕ) (q : Place) → in_array stage array zero q ≡ false
in_none stage array q = grind (arith, nat_tests)

get-with_array : (stage : ℕ) (f : Place → ℤ) (array cells : ℕ) (m : Places) (q : Place) → fin.get (with_array stage f array cells m) q ≡ cond (in_array stage array cells q) (Some (f q)) (fin.get m q)
unfolding with_array
get-with_array stage f array zero m q = sym (ap (λ (b : Bool). cond b (Some (f q)) (fin.get m q)) (in_none stage array q))
get-with_array stage f array (suc cell) m q =
    let k = place_in stage array cell in
    let below = with_array stage f array cell m in
    get-insert place_cmp_total below k (f k) q
    ∙ ap (λ (b : Bool). cond b (Some (f k)) (fin.get below q)) (same_by_cmp k q)
    ∙ ap (λ (o : Option ℤ). cond (same q k) (Some (f k)) o) (get-with_array stage f array cell m q)
    ∙ go (same q k) refl
  where
    go : (b : Bool) → same q (place_in stage array cell) ≡ b
        → cond b (Some (f (place_in stage array cell))) (cond (in_array stage array cell q) (Some (f q)) (fin.get m q)) ≡ cond (in_array stage array (suc cell) q) (Some (f q)) (fin.get m q)
    go true h =
        ap (λ (p : Place). Some (f p)) (sym (same_is q (place_in stage array cell) h))
        ∙ sym (ap (λ (b : Bool). cond b (Some (f q)) (fin.get m q)) (in_array_more stage array cell q h))
    go false h = ap (λ (b : Bool). cond b (Some (f q)) (fin.get m q)) (in_array_same stage array cell q h)

inside_none : (stage cells : ℕ) (q : Place) → is_inside stage zero cells q ≡ false
inside_none stage cells q = grind (arith, nat_tests)

inside_more : (stage array cells : ℕ) (q : Place) (x y : Option ℤ) → cond (in_array stage array cells q) x (cond (is_inside stage array cells q) x y) ≡ cond (is_inside stage (suc array) cells q) x y
inside_more stage array cells q x y = grind (arith, nat_tests)

-- a full map has a number at the places inside, and nowhere else
pub get-full_map : (stage : ℕ) (f : Place → ℤ) (arrays cells : ℕ) (q : Place) → fin.get (full_map stage f arrays cells) q ≡ cond (is_inside stage arrays cells q) (Some (f q)) None
unfolding full_map
get-full_map stage f zero cells q = get-empty place_cmp q ∙ sym (ap (λ (b : Bool). cond b (Some (f q)) None) (inside_none stage cells q))
get-full_map stage f (suc array) cells q =
    get-with_array stage f array cells (full_map stage f array cells) q
    ∙ ap (λ (o : Option ℤ). cond (in_array stage array cells q) (Some (f q)) o) (get-full_map stage f array cells q)
    ∙ inside_more stage array cells q (Some (f q)) None

-- what is there is inside
pub inside_of_some : (stage : ℕ) (f : Place → ℤ) (arrays cells : ℕ) (q : Place) → IsSome (fin.get (full_map stage f arrays cells) q) → is_inside stage arrays cells q ≡ true
inside_of_some stage f arrays cells q h = go (is_inside stage arrays cells q) refl (subst IsSome (get-full_map stage f arrays cells q) h)
  where
    go : (b : Bool) → is_inside stage arrays cells q ≡ b → IsSome (cond b (Some (f q)) None) → is_inside stage arrays cells q ≡ true
    go true e t = e
    go false e t = cc

-- and its number is what f gives
pub full_map_at : (stage : ℕ) (f : Place → ℤ) (arrays cells : ℕ) (q : Place) → is_inside stage arrays cells q ≡ true → fin.get (full_map stage f arrays cells) q ≡ Some (f q)
full_map_at stage f arrays cells q h = get-full_map stage f arrays cells q ∙ ap (λ (b : Bool). cond b (Some (f q)) None) h

-- maps of numbers that agree inside are one
pub full_map_same : (stage : ℕ) (f g : Place → ℤ) (arrays cells : ℕ) → ((q : Place) → is_inside stage arrays cells q ≡ true → f q ≡ g q) → full_map stage f arrays cells ≡ full_map stage g arrays cells
full_map_same stage f g arrays cells h =
    same_map place_cmp_total place_cmp_exact _ _ (λ q. get-full_map stage f arrays cells q ∙ go q (is_inside stage arrays cells q) refl ∙ sym (get-full_map stage g arrays cells q))
  where
    go : (q : Place) (b : Bool) → is_inside stage arrays cells q ≡ b → cond b (Some (f q)) None ≡ cond b (Some (g q)) None
    go q true e = ap Some (h q e)
    go q false e = refl

-- a full map with a new number at a place inside is the map of what f gives, but for this place
pub full_map-insert : (stage : ℕ) (f g : Place → ℤ) (arrays cells : ℕ) (p : Place) (v : ℤ) → is_inside stage arrays cells p ≡ true → g p ≡ v
    → ((q : Place) → is_inside stage arrays cells q ≡ true → same q p ≡ false → g q ≡ f q)
    → full_map stage g arrays cells ≡ fin.insert (full_map stage f arrays cells) p v
full_map-insert stage f g arrays cells p v there at others =
    same_map place_cmp_total place_cmp_exact _ _
    (λ q.
    get-full_map stage g arrays cells q
    ∙ go q (same q p) refl (is_inside stage arrays cells q) refl
    ∙ sym
    (get-insert place_cmp_total (full_map stage f arrays cells) p v q
    ∙ ap (λ (b : Bool). cond b (Some v) (fin.get (full_map stage f arrays cells) q)) (same_by_cmp p q)
    ∙ ap (λ (o : Option ℤ). cond (same q p) (Some v) o) (get-full_map stage f arrays cells q)))
  where
    go : (q : Place) (b : Bool) → same q p ≡ b → (i : Bool) → is_inside stage arrays cells q ≡ i → cond i (Some (g q)) None ≡ cond b (Some v) (cond i (Some (f q)) None)
    go q true e true i = ap Some (ap g (same_is q p e) ∙ at)
    go q true e false i = let now : is_inside stage arrays cells p ≡ false = ap (is_inside stage arrays cells) (sym (same_is q p e)) ∙ i in cc
    go q false e true i = ap Some (others q i e)
    go q false e false i = refl

-- ---- the list of the numbers

inside_parts : (stage arrays cells : ℕ) (q : Place) → is_inside stage arrays cells q ≡ true → (q.stage ≡ stage) × ((q.array < arrays) × (q.cell < cells))
inside_parts stage arrays cells q h = (grind (arith, nat_tests), (grind (arith, nat_tests), grind (arith, nat_tests)))

-- the number of a place inside stands in the list
pub index_lt : (stage arrays cells : ℕ) (q : Place) → is_inside stage arrays cells q ≡ true → index_of cells q < arrays * cells
index_lt stage arrays cells q h =
    let parts = inside_parts stage arrays cells q h in
    subst (λ (n : ℕ). index_of cells q < n) (grind arith) (mul-add-lt q.array cells q.cell arrays parts.1.0 parts.1.1)

-- two places inside stand at two indices
index_apart : (stage arrays cells : ℕ) (p q : Place) → is_inside stage arrays cells p ≡ true → is_inside stage arrays cells q ≡ true → same q p ≡ false → index_of cells q ≡ index_of cells p → ⊥
index_apart stage arrays cells p q hp hq apart e =
    let a = inside_parts stage arrays cells p hp in
    let b = inside_parts stage arrays cells q hq in
    let array : q.array ≡ p.array = sym (div-mul-add q.array cells q.cell b.1.1) ∙ ap (λ (n : ℕ). n / cells) e ∙ div-mul-add p.array cells p.cell a.1.1 in
    let cell : q.cell ≡ p.cell = sym (mod-mul-add q.array cells q.cell b.1.1) ∙ ap (λ (n : ℕ). n % cells) e ∙ mod-mul-add p.array cells p.cell a.1.1 in
    let stages : q.stage ≡ p.stage = b.0 ∙ sym a.0 in
    all_same q p stages array cell apart
  where
    all_same : (x y : Place) → x.stage ≡ y.stage → x.array ≡ y.array → x.cell ≡ y.cell → same x y ≡ false → ⊥
    all_same x y s r c h = grind (arith, nat_tests)

-- a write into the list is a write at its place
pub full_map-set : (stage arrays cells : ℕ) (numbers : List ℤ) (p : Place) (v : ℤ) → is_inside stage arrays cells p ≡ true → length numbers ≡ arrays * cells
    → full_map stage (number_at cells (set numbers (index_of cells p) v)) arrays cells ≡ fin.insert (full_map stage (number_at cells numbers) arrays cells) p v
full_map-set stage arrays cells numbers p v there len =
    let within : index_of cells p < length numbers = subst (λ (n : ℕ). index_of cells p < n) (sym len) (index_lt stage arrays cells p there) in
    full_map-insert stage (number_at cells numbers) (number_at cells (set numbers (index_of cells p) v)) arrays cells p v there
    (get_or-set_same numbers (index_of cells p) v (pos 0) within)
    (λ q inside apart. get_or-set_other numbers (index_of cells p) (index_of cells q) v (pos 0) (λ e. index_apart stage arrays cells p q there inside apart e))

-- ---- other numbers at the same places

abbrev numbered : (Place → ℤ) → List (Place × ℤ) → List (Place × ℤ)
numbered f es = map (λ e. (e.0, f e.0)) es

below_numbered : (f : Place → ℤ) (k : Place) (es : List (Place × ℤ)) → below_all place_cmp k (numbered f es) ≡ below_all place_cmp k es
below_numbered f k [] = refl
below_numbered f k (e ∷ es) = ap (λ (b : Bool). is_lt (place_cmp k e.0) && b) (below_numbered f k es)

sorted_numbered : (f : Place → ℤ) (es : List (Place × ℤ)) → is_sorted place_cmp (numbered f es) ≡ is_sorted place_cmp es
sorted_numbered f [] = refl
sorted_numbered f (e ∷ es) =
    ap (λ (b : Bool). b && is_sorted place_cmp (numbered f es)) (below_numbered f e.0 es) ∙ ap (λ (b : Bool). below_all place_cmp e.0 es && b) (sorted_numbered f es)

found : (f : Place → ℤ) (q : Place) (e : Place × ℤ) (x y : Option ℤ) → x ≡ cond (is_some y) (Some (f q)) None → (b : Bool) → eq_by_cmp place_cmp q e.0 ≡ b
    → cond b (Some (f e.0)) x ≡ cond (is_some (cond b (Some e.1) y)) (Some (f q)) None
found f q e x y h true is = ap (λ (p : Place). Some (f p)) (sym (same_is q e.0 (sym (same_by_cmp e.0 q) ∙ is)))
found f q e x y h false is = h

find_numbered : (f : Place → ℤ) (q : Place) (es : List (Place × ℤ)) → find place_cmp q (numbered f es) ≡ cond (is_some (find place_cmp q es)) (Some (f q)) None
find_numbered f q [] = refl
find_numbered f q (e ∷ es) = found f q e (find place_cmp q (numbered f es)) (find place_cmp q es) (find_numbered f q es) (eq_by_cmp place_cmp q e.0) refl

pub get-renumbered : (f : Place → ℤ) (m : Places) (q : Place) → fin.get (renumbered f m) q ≡ cond (is_some (fin.get m q)) (Some (f q)) None
get-renumbered f m q =
    get-from_sorted place_cmp (numbered f (fin.entries m)) q (subst T (sym (sorted_numbered f (fin.entries m))) (fin.entries_sorted m))
    ∙ find_numbered f q (fin.entries m)
    ∙ ap (λ (o : Option ℤ). cond (is_some o) (Some (f q)) None) (sym (fin.get-entries m q))

pub renumbered-full_map : (stage : ℕ) (f g : Place → ℤ) (arrays cells : ℕ) → renumbered g (full_map stage f arrays cells) ≡ full_map stage g arrays cells
renumbered-full_map stage f g arrays cells =
    same_map place_cmp_total place_cmp_exact _ _ (λ q. get-renumbered g (full_map stage f arrays cells) q ∙ ap (λ (o : Option ℤ). cond (is_some o) (Some (g q)) None) (get-full_map stage f arrays cells q) ∙ go q (is_inside stage arrays cells q) ∙ sym (get-full_map stage g arrays cells q))
  where
    go : (q : Place) (b : Bool) → cond (is_some (cond b (Some (f q)) None)) (Some (g q)) None ≡ cond b (Some (g q)) None
    go q true = refl
    go q false = refl

-- where all numbers of the list are 0
pub full_map-zeros : (stage arrays cells n : ℕ) (numbers : List ℤ) (f : Place → ℤ) → n ≡ arrays * cells → numbers ≡ replicate n (pos 0)
    → full_map stage (number_at cells numbers) arrays cells ≡ renumbered (λ _. pos 0) (full_map stage f arrays cells)
full_map-zeros stage arrays cells n numbers f many zeros =
    full_map_same stage (number_at cells numbers) (λ _. pos 0) arrays cells
    (λ q inside.
    ap (λ (l : List ℤ). number_at cells l q) zeros
    ∙ get_or-replicate n (index_of cells q) (pos 0) (pos 0) (subst (λ (m : ℕ). index_of cells q < m) (sym many) (index_lt stage arrays cells q inside)))
    ∙ sym (renumbered-full_map stage f (λ _. pos 0) arrays cells)
