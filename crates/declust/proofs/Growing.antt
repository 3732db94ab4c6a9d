-- The register arrays behind one row more, and what is chosen for the next one.
use Rattle.std.proofs.Common.{◌≡◌, ◌≢◌, ℕ, zero, suc, ◌+◌, ◌*◌, ◌^◌, ◌<◌, ◌≤◌, Bool, true, false, cond, ◌&&◌, ◌||◌, List, [], ◌∷◌, ◌++◌, length, get_or, set, take, replicate, eqb, inl, inr, arith, refl, sym, ap, ap₂, subst, ◌∙◌}
use Rattle.std.specs.Prelude.{nat_lt, slice_get, filter, All, Some}
use Rattle.std.specs.List.{count_by, list_any, AllByRecursion}
use Rattle.std.proofs.lemmas.Bool.{cases_eq}
use Rattle.std.proofs.lemmas.Bool.Decides.{nat_tests}
use Rattle.std.proofs.lemmas.List.{length-replicate, get_or-replicate, length-set, get_or-set_same, get_or-set_other, map_more}
use Rattle.std.proofs.lemmas.List.Elements.{All-filter}
use Rattle.std.proofs.lemmas.List.Sorted.{length_permutation}
use Rattle.std.proofs.lemmas.List.Sums.{length-filter, count_by-le-length}
use Rattle.txn_model.specs.declared.op.TupleId.{TupleId}
use Rattle.stage_layout.specs.Layout.{same_tuple}
use Rattle.stage_layout.specs.declared.layout.LayoutRow.{LayoutRow}
use Rattle.catalogue.specs.Plan.{Plan, PlainItem}
use Rattle.catalogue.specs.Sound.{IsSound}
use Rattle.declust.specs.ArraySet.{contains}
use Rattle.declust.specs.Arrays.{array_count, array_of, place_in}
use Rattle.declust.specs.Columns.{set_at, taken_at, has_room, touching, AreColumns}
use Rattle.declust.specs.Greedy.{all_items, names, touches, shared, taken, IsFirstLeast, IsNextRow, IsGreedy}
use Rattle.hot_set.specs.declared.ranking.HotRow.{HotRow}
use Rattle.declust.specs.Plain.{tuples_of}
use Rattle.declust.specs.Uses.{uses_from, AreUsesOf}
use Rattle.declust.specs.declared.columns.Columns.{Columns}
use Rattle.declust.specs.declared.uses.Use.{Use}
use Rattle.declust.specs.declared.uses.Uses.{Uses}
use Rattle.declust.proofs.Bits.{in_none}
use Rattle.declust.proofs.Choices.{least_same}
use Rattle.declust.proofs.Filling.{greedy_push, array_of-place_in, taken-push, touches-push, greedy_arrays, no_cell_left}
use Rattle.declust.proofs.Named as named
use Rattle.declust.proofs.Named.{is_user}
use Rattle.declust.proofs.Totals.{no_faults, few_uses}
use Rattle.declust.proofs.UseLists.{few_items, use_items}

place_within : {X : Type 0} (xs : List X) (k : ℕ) (x : X) → slice_get xs k ≡ Some x → k < length xs
place_within [] k x e = cc e
place_within (y ∷ xs) zero x e = omega arith
place_within (y ∷ xs) (suc k) x e = omega (arith, place_within xs k x e)

pub greedy_more : (plan : Plan) (hot : List HotRow) (i : ℕ) (d : HotRow) (rows : List LayoutRow) (row : LayoutRow) → i < length hot → IsGreedy plan (tuples_of (take i hot)) rows → IsNextRow plan rows (get_or hot i d).tuple row
    → IsGreedy plan (tuples_of (take (i + 1) hot)) (rows ++ row ∷ [])
greedy_more plan hot i d rows row lt old next =
    subst (λ l. IsGreedy plan l (rows ++ row ∷ [])) (sym (map_more (λ (r : HotRow). r.tuple) hot i d lt)) (greedy_push plan [] rows (tuples_of (take i hot)) (get_or hot i d).tuple row old next)

-- before the first row
pub no_columns : (plan : Plan) (columns : Columns) (arrays items : ℕ) → arrays ≡ array_count plan.shape → items ≡ length (all_items plan) → columns.taken.items ≡ replicate arrays 0
    → columns.touched.items ≡ replicate items (record { 0 = 0 }) → AreColumns plan [] columns
no_columns plan columns arrays items many all taken_is touched_is = record {
  arrays = ap length taken_is ∙ length-replicate arrays 0 ∙ many;
  taken = λ a lt. (let low : a < arrays = omega (arith, lt, many) in ap (λ l. get_or l a 0) taken_is ∙ get_or-replicate arrays a 0 0 low);
  items = ap length touched_is ∙ length-replicate items (record { 0 = 0 }) ∙ all;
  touched = λ k a item at. (let low : k < items = omega (arith, all, place_within (all_items plan) k item at) in
      ap (λ l. contains (get_or l k (record { 0 = 0 })) a) touched_is ∙ ap (λ s. contains s a) (get_or-replicate items k (record { 0 = 0 }) (record { 0 = 0 }) low) ∙ in_none a);
}

module _ (plan : Plan) (sound : IsSound plan) (uses : Uses) (are : AreUsesOf plan uses) (rows : List LayoutRow) (columns : Columns) (so_far : AreColumns plan rows columns)
    (t : TupleId) (users : List Use) (users_are : users ≡ filter (λ used. same_tuple used.tuple t) uses.list.items)
  where
    pub few_users : length users < 2 ^ 32
    few_users =
        let kept : length users ≡ count_by (λ (used : Use). same_tuple used.tuple t) uses.list.items = ap length users_are ∙ length-filter (λ (used : Use). same_tuple used.tuple t) uses.list.items in
        omega (arith, kept, count_by-le-length (λ (used : Use). same_tuple used.tuple t) uses.list.items, length_permutation (uses_from 0 (all_items plan)) uses.list.items are.all, few_uses 0 (all_items plan) (no_faults plan sound), few_items plan sound)

    pub user_items : All (λ used. used.item < length columns.touched.items) users
    user_items =
        let P : Use → Type 0 = λ used. used.item < length (all_items plan) in
        subst (λ n. All (λ (used : Use). used.item < n) users) (sym so_far.items)
        (subst (All P) (sym users_are) (All-filter (λ (used : Use). same_tuple used.tuple t) P uses.list.items (use_items plan uses are)))

    costs : (a : ℕ) → touching columns users a ≡ shared plan rows t a
    costs a =
        ap (λ l. touching columns l a) users_are
        ∙ named.users t (λ j. contains (set_at columns j) a) (touches plan.shape rows a) (all_items plan) uses.list.items are.all (no_faults plan sound) (λ j item at. so_far.touched j a item at)

    -- what is best by the columns is best by the rows
    pub best_is : (a : ℕ) → IsFirstLeast (length columns.taken.items) (has_room columns plan.shape.cells) (touching columns users) a
        → IsFirstLeast (array_count plan.shape) (λ x. nat_lt (taken plan.shape rows x) plan.shape.cells) (shared plan rows t) a
    best_is a best =
        least_same (length columns.taken.items) (array_count plan.shape) (has_room columns plan.shape.cells) (λ x. nat_lt (taken plan.shape rows x) plan.shape.cells) (touching columns users) (shared plan rows t) a so_far.arrays
        (λ x lt. ap (λ n. nat_lt n plan.shape.cells) (so_far.taken x (omega (arith, lt, so_far.arrays)))) (λ x lt. costs x) best

    pub some_room : (tuples : List TupleId) → IsGreedy plan tuples rows → length rows < array_count plan.shape * plan.shape.cells
        → ((a : ℕ) → a < length columns.taken.items → has_room columns plan.shape.cells a ≡ false) → ⊥
    some_room tuples greedy left none =
        let full = no_cell_left plan.shape rows (greedy_arrays plan [] rows tuples greedy)
        (λ a lt. ap (λ n. nat_lt n plan.shape.cells) (sym (so_far.taken a lt)) ∙ none a (omega (arith, lt, so_far.arrays))) in
        absurd (omega (arith, full, left))

    module _ (a cell : ℕ) (best : IsFirstLeast (length columns.taken.items) (has_room columns plan.shape.cells) (touching columns users) a) (cell_is : cell ≡ taken_at columns a) where
      abbrev row : LayoutRow
      row = record { tuple = t; place = place_in plan.shape a cell }

      inside : a < array_count plan.shape
      inside = omega (arith, best.within, so_far.arrays)

      pub next_row : IsNextRow plan rows t row
      next_row = record {
        array = a;
        best = best_is a best;
        is = ap (λ n. record { tuple = t; place = place_in plan.shape a n }) (cell_is ∙ so_far.taken a inside);
      }

      swapped : (x : ℕ) → eqb x a ≡ eqb a x
      swapped x = grind (arith, nat_tests)

      pub grown : (new : Columns) → new.taken.items ≡ set columns.taken.items a (taken_at columns a + 1) → length new.touched.items ≡ length columns.touched.items
          → ((k x : ℕ) → k < length columns.touched.items → contains (set_at new k) x ≡ (eqb x a && list_any (λ (used : Use). eqb used.item k) users || contains (set_at columns k) x))
          → AreColumns plan (rows ++ row ∷ []) new
      grown new taken_is size marked = record {
        arrays = ap length taken_is ∙ length-set columns.taken.items a (taken_at columns a + 1) ∙ so_far.arrays;
        taken = λ x lt. (
            let old = so_far.taken x lt in
            let more : taken plan.shape (rows ++ row ∷ []) x ≡ taken plan.shape rows x + cond (eqb a x) 1 0 = taken-push plan.shape rows row x ∙ ap (λ n. taken plan.shape rows x + cond (eqb n x) 1 0) (array_of-place_in plan.shape a cell) in
            elim (cases_eq x a) as (λ _. taken_at new x ≡ taken plan.shape (rows ++ row ∷ []) x) [
              | inl same ↦
                  let hit : eqb a x ≡ true = grind (arith, nat_tests, same) in
                  let one : cond {A = ℕ} (eqb a x) 1 0 ≡ 1 = ap (λ b. cond b 1 0) hit in
                  let now : taken_at new x ≡ taken_at columns a + 1 = ap₂ (λ l n. get_or l n 0) taken_is same ∙ get_or-set_same columns.taken.items a (taken_at columns a + 1) 0 best.within in
                  let before : taken_at columns a ≡ taken plan.shape rows x = ap (taken_at columns) (sym same) ∙ old in
                  omega (arith, now, before, more, one)
              | inr apart ↦
                  let miss : eqb a x ≡ false = grind (arith, nat_tests, apart) in
                  let none : cond {A = ℕ} (eqb a x) 1 0 ≡ 0 = ap (λ b. cond b 1 0) miss in
                  let now : taken_at new x ≡ taken_at columns x = ap (λ l. get_or l x 0) taken_is ∙ get_or-set_other columns.taken.items a x (taken_at columns a + 1) 0 apart in
                  omega (arith, now, old, more, none)
            ]);
        items = size ∙ so_far.items;
        touched = λ k x item at. (
            let low : k < length columns.touched.items = omega (arith, so_far.items, place_within (all_items plan) k item at) in
            let user = ap (list_any (λ (used : Use). eqb used.item k)) users_are ∙ is_user t (all_items plan) uses.list.items k item are.all at in
            marked k x low ∙ ap₂ (λ (b c : Bool). b && c || contains (set_at columns k) x) (swapped x) user ∙ ap (λ b. eqb a x && names item t || b) (so_far.touched k x item at)
            ∙ sym (touches-push plan.shape rows row x item ∙ ap (λ n. eqb n x && names item t || touches plan.shape rows x item) (array_of-place_in plan.shape a cell)));
      }
