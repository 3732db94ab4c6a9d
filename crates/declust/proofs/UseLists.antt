-- The uses of a session's items, item by item.
use Rattle.std.proofs.Common.{◌≡◌, ℕ, zero, suc, ◌+◌, ◌<◌, ◌≤◌, List, [], ◌∷◌, ◌++◌, length, map, get_or, arith, refl, sym, ap, ap₂, ◌∙◌, append_assoc, append-nil, length-append}
use Rattle.std.specs.Prelude.{sum_by, slice_get, Option, Some, None, All}
use Rattle.std.specs.List.{flat_map, AllByRecursion}
use Rattle.std.proofs.lemmas.List.Elements.{All-head, All-tail, All-from_recursion}
use Rattle.std.proofs.lemmas.List.Sorted.{All-permutation}
use Rattle.std.proofs.lemmas.List.Sums.{sum_by-cons}
use Rattle.txn_model.specs.declared.op.Op.{Op}
use Rattle.catalogue.specs.Plan.{Plan, PlainItem, Run, Lose}
use Rattle.catalogue.specs.Sound.{IsSound, item_count}
use Rattle.declust.specs.Greedy.{all_items}
use Rattle.declust.specs.Uses.{uses_in, uses_from, AreUsesOf}
use Rattle.declust.specs.declared.uses.Use.{Use}
use Rattle.declust.specs.declared.uses.Uses.{Uses}

pub uses_from-append : (n : ℕ) (xs ys : List PlainItem) → uses_from n (xs ++ ys) ≡ uses_from n xs ++ uses_from (n + length xs) ys
uses_from-append n [] ys = let e : n ≡ n + 0 = omega arith in ap (λ k. uses_from k ys) e
uses_from-append n (x ∷ xs) ys =
    let e : n + 1 + length xs ≡ n + suc (length xs) = omega arith in
    ap (λ l. uses_in n x ++ l) (uses_from-append (n + 1) xs ys ∙ ap (λ k. uses_from (n + 1) xs ++ uses_from k ys) e) ∙ sym (append_assoc (uses_in n x) (uses_from (n + 1) xs) (uses_from (n + suc (length xs)) ys))

-- all items together are as many as each client's
pub length-items : (lists : List (List PlainItem)) → length (flat_map (λ items. items) lists) ≡ sum_by length lists
length-items [] = refl
length-items (l ∷ lists) =
    let added : sum_by (length {A = PlainItem}) (l ∷ lists) ≡ length l + sum_by (length {A = PlainItem}) lists = sum_by-cons (length {A = PlainItem}) l lists in
    omega (arith, length-append l (flat_map (λ items. items) lists), length-items lists, added)

pub few_items : (plan : Plan) → IsSound plan → length (all_items plan) ≤ 4096
few_items plan sound = omega (arith, length-items plan.clients, sound.limits.items)

-- each use is of one of the items
in_one : (n most : ℕ) (item : PlainItem) → n < most → AllByRecursion (λ (used : Use). used.item < most) (uses_in n item)
in_one n most (Run ops) lt = go ops
  where
    go : (os : List Op) → AllByRecursion (λ (used : Use). used.item < most) (map (λ (op : Op). record { tuple = op.tuple; item = n }) os)
    go [] = tt
    go (o ∷ os) = (lt, go os)
in_one n most Lose lt = tt

joined : (P : Use → Type 0) (xs ys : List Use) → AllByRecursion P xs → AllByRecursion P ys → AllByRecursion P (xs ++ ys)
joined P [] ys h g = g
joined P (x ∷ xs) ys h g = (h.0, joined P xs ys h.1 g)

in_all : (n most : ℕ) (items : List PlainItem) → n + length items ≤ most → AllByRecursion (λ (used : Use). used.item < most) (uses_from n items)
in_all n most [] le = tt
in_all n most (item ∷ items) le = joined (λ (used : Use). used.item < most) (uses_in n item) (uses_from (n + 1) items) (in_one n most item (omega (arith, le))) (in_all (n + 1) most items (omega (arith, le)))

pub use_items : (plan : Plan) (uses : Uses) → AreUsesOf plan uses → All (λ used. used.item < length (all_items plan)) uses.list.items
use_items plan uses are =
    let most = length (all_items plan) in
    let P : Use → Type 0 = λ used. used.item < most in
    All-permutation P (uses_from 0 (all_items plan)) uses.list.items are.all (All-from_recursion P (uses_from 0 (all_items plan)) (in_all 0 most (all_items plan) (omega arith)))
