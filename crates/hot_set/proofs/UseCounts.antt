-- How many uses a sound session has, and that each of its tuples has one row.
use Rattle.std.proofs.Common.{◌≡◌, ℕ, ℤ, zero, suc, ◌+◌, ◌*◌, ◌<◌, ◌≤◌, Bool, true, false, cond, ◌&&◌, eqb, T, List, [], ◌∷◌, ◌++◌, length, map, get_or, All, IsSome, Some, inl, inr, Ordering, Less, Equal, Greater, is_lt, arith, refl, sym, ap, subst, ◌∙◌}
use Rattle.std.specs.Cmp.{tied_itself}
use Rattle.std.specs.FinMap as fin
use Rattle.std.specs.FinMap.Entries.{below_all}
use Rattle.std.specs.List.{count_by, flat_map, sum_by}
use Rattle.std.specs.Ordering.{eq_by_cmp, is_eq, nat_cmp}
use Rattle.std.proofs.lemmas.Bool.{cases_lt}
use Rattle.std.proofs.lemmas.Bool.Decides.{nat_tests}
use Rattle.std.proofs.lemmas.List.{length-append, length-map}
use Rattle.std.proofs.lemmas.List.Concat.{length-flat_map}
use Rattle.std.proofs.lemmas.List.Elements.{All-head, All-tail, All-weaker}
use Rattle.std.proofs.lemmas.List.Sums.{sum_by-cons, sum_by-le}
use Rattle.txn_model.proofs.SerialLaws.{sound_length}
use Rattle.txn_model.proofs.TupleOrder.{tuple_cmp_total}
use Rattle.txn_model.specs.Tuples.{Tuples, tuple_cmp}
use Rattle.txn_model.specs.declared.op.Op.{Op}
use Rattle.txn_model.specs.declared.op.TupleId.{TupleId}
use Rattle.stage_layout.specs.Layout.{same_tuple}
use Rattle.catalogue.specs.Plan.{Plan, PlainItem, Run, Lose}
use Rattle.catalogue.specs.Sound.{IsFitItem, IsSound}
use Rattle.hot_set.proofs.EqualRange.{count_fail}
use Rattle.hot_set.specs.Hottest.{use_row}
use Rattle.hot_set.specs.Uses.{tuples_in, used_tuples}
use Rattle.hot_set.specs.declared.ranking.HotRow.{HotRow}

-- ---- how many uses there are

item_few : (plan : Plan) (item : PlainItem) → IsFitItem plan item → length (tuples_in item) ≤ 16
item_few plan (Run ops) fit = omega (arith, length-map ops (λ (op : Op). op.tuple), sound_length ops fit.script)
item_few plan Lose fit = omega arith

list_few : (plan : Plan) (items : List PlainItem) → All (IsFitItem plan) items → length (flat_map tuples_in items) ≤ length items * 16
list_few plan items all =
    let bound = sum_by-le (λ (item : PlainItem). length (tuples_in item)) 16 items (All-weaker (IsFitItem plan) (λ item. length (tuples_in item) ≤ 16) (item_few plan) items all) in
    omega (arith, length-flat_map tuples_in items, bound)

lists_few : (plan : Plan) (lists : List (List PlainItem)) → All (All (IsFitItem plan)) lists → length (flat_map (λ items. flat_map tuples_in items) lists) ≤ sum_by length lists * 16
lists_few plan [] all = omega arith
lists_few plan (items ∷ lists) all =
    let here = list_few plan items (All-head (All (IsFitItem plan)) items lists all) in
    let rest = lists_few plan lists (All-tail (All (IsFitItem plan)) items lists all) in
    let joined : length (flat_map (λ (l : List PlainItem). flat_map tuples_in l) (items ∷ lists)) ≡ length (flat_map tuples_in items ++ flat_map (λ (l : List PlainItem). flat_map tuples_in l) lists) = refl in
    let added : sum_by (length {A = PlainItem}) (items ∷ lists) ≡ length items + sum_by (length {A = PlainItem}) lists = sum_by-cons (length {A = PlainItem}) items lists in
    omega (arith, here, rest, joined, added, length-append (flat_map tuples_in items) (flat_map (λ (l : List PlainItem). flat_map tuples_in l) lists))

pub few_uses : (plan : Plan) → IsSound plan → length (used_tuples plan) ≤ 65536
few_uses plan sound = omega (arith, lists_few plan plan.clients sound.items, sound.limits.items)

-- ---- rows of a tuple map

left : (a b : Bool) → T (a && b) → T a
left true b h = tt
left false b h = h

right : (a b : Bool) → T (a && b) → T b
right true b h = h
right false b h = absurd h

less : (r : Ordering) → T (is_lt r) → r ≡ Less
less Less h = refl
less Equal h = absurd h
less Greater h = absurd h

below : (a b : ℕ) → nat_cmp a b ≡ Less → a < b
below a b e = grind (arith, nat_tests)

at_most : (b : Bool) → cond b 1 0 ≤ 1
at_most true = omega arith
at_most false = omega arith

module _ (used : List TupleId) (t : TupleId) where
  abbrev here : List (TupleId × ℤ) → ℕ
  here es = count_by (λ (row : HotRow). same_tuple row.tuple t) (map (λ (e : TupleId × ℤ). use_row used e.0) es)

  none : (k : TupleId) (es : List (TupleId × ℤ)) → T (below_all tuple_cmp k es) → t.0 ≤ k.0 → here es ≡ 0
  none k [] h le = refl
  none k (e ∷ es) h le =
      let over : k.0 < e.0.0 = below k.0 e.0.0 (less (tuple_cmp k e.0) (left (is_lt (tuple_cmp k e.0)) (below_all tuple_cmp k es) h)) in
      let apart : eqb e.0.0 t.0 ≡ false = grind (arith, nat_tests) in
      let rest : 0 + here es ≡ 0 = omega (arith, none k es (right (is_lt (tuple_cmp k e.0)) (below_all tuple_cmp k es) h) le) in
      count_fail (λ (row : HotRow). same_tuple row.tuple t) (use_row used e.0) (map (λ (f : TupleId × ℤ). use_row used f.0) es) apart ∙ rest

  pub once : (es : List (TupleId × ℤ)) → T (fin.is_sorted tuple_cmp es) → here es ≤ 1
  once [] h = omega arith
  once (e ∷ es) h =
      let rest = once es (right (below_all tuple_cmp e.0 es) (fin.is_sorted tuple_cmp es) h) in
      let step : here (e ∷ es) ≡ cond (eqb e.0.0 t.0) 1 0 + here es = sum_by-cons (λ (row : HotRow). cond (same_tuple row.tuple t) 1 0) (use_row used e.0) (map (λ (f : TupleId × ℤ). use_row used f.0) es) in
      elim (cases_lt t.0 (suc e.0.0)) [
        | inl lt ↦ omega (arith, step, none e.0 es (left (below_all tuple_cmp e.0 es) (fin.is_sorted tuple_cmp es) h) (omega (arith, lt)), at_most (eqb e.0.0 t.0))
        | inr le ↦ let apart : eqb e.0.0 t.0 ≡ false = grind (arith, nat_tests, le) in
            let alone = count_fail (λ (row : HotRow). same_tuple row.tuple t) (use_row used e.0) (map (λ (f : TupleId × ℤ). use_row used f.0) es) apart in
            subst (λ n. n ≤ 1) (sym alone) (let more : 0 + here es ≤ 1 = omega (arith, rest) in more)
      ]

found_at : (es : List (TupleId × ℤ)) (i : ℕ) (none : TupleId × ℤ) → i < length es → IsSome (fin.find tuple_cmp (get_or es i none).0 es)
found_at [] i none lt = absurd (omega arith)
found_at (e ∷ es) zero none lt = subst (λ b. IsSome (cond b (Some e.1) (fin.find tuple_cmp e.0 es))) (sym (ap is_eq (tied_itself tuple_cmp_total e.0))) refl
found_at (e ∷ es) (suc i) none lt =
    elim (eq_by_cmp tuple_cmp (get_or es i none).0 e.0) as (λ b. IsSome (cond b (Some e.1) (fin.find tuple_cmp (get_or es i none).0 es))) [
      | true ↦ refl
      | false ↦ found_at es i none (omega (arith, lt))
    ]

-- each row of a tuple map has its tuple in it
pub rows_there : (m : Tuples) → All (λ (e : TupleId × ℤ). IsSome (fin.get m e.0)) (fin.entries m)
rows_there m i none lt = subst IsSome (sym (fin.get-entries m (get_or (fin.entries m) i none).0)) (found_at (fin.entries m) i none lt)
