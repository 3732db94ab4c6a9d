-- How many operations of a script are in the switch and on hosts, by the sets of its parts.
use Rattle.std.proofs.Common.{◌≡◌, ℕ, zero, suc, ◌+◌, ◌-◌, ◌*◌, ◌<◌, ◌≤◌, ◌^◌, ◌↔◌, ◌||◌, ◌==◌, not, Bool, true, false, cond, get_or, All, List, [], ◌∷◌, filter, length, inl, inr, refl, sym, ap, subst, ◌∙◌, arith, w32, if◌then◌else◌}
use Rattle.std.specs.Prelude.{IsTrue}
use Rattle.std.specs.Int.{bit_at, trailing_zeros}
use Rattle.std.proofs.lemmas.Bool.{cases_lt}
use Rattle.std.proofs.lemmas.List.{get_or_past, length-map, get_or-map}
use Rattle.std.proofs.lemmas.Nat.Bits.{bit_at-trailing_zeros, bit_at-zero}
use Rattle.txn_model.specs.Listed.{Listed}
use Rattle.txn_model.specs.declared.op.Op.{Op}
use Rattle.stage_layout.specs.Late.{Before, is_hot, is_in_switch, part_at, parts_of}
use Rattle.stage_layout.specs.declared.layout.LayoutRow.{LayoutRow}
use Rattle.stage_layout.proofs.LateLaws.{length-parts_of}
use Rattle.warm_split.specs.OpSet.{contains, members}
use Rattle.warm_split.specs.Parts.{IsParts}
use Rattle.warm_split.specs.Sides.{IsOneVisit, hot_ops}
use Rattle.warm_split.specs.declared.op_set.OpSet.{OpSet}
use Rattle.warm_split.specs.declared.parts.Parts.{Parts}
use Rattle.warm_split.proofs.JoinSteps.{hot_count, number-members}
use Rattle.warm_split.proofs.PacketNumbers.{number_below}
use Rattle.warm_split.proofs.Sets.{hot_set}
use Rattle.catalogue.specs.Items.{plain_item, plain_items}
use Rattle.catalogue.specs.Plan.{Plan}
use Rattle.catalogue.specs.Sound.{IsFit, IsFitItem}
use Rattle.catalogue.specs.declared.item.Item.{Item}
use Rattle.catalogue.specs.declared.item.Item.TheVariants.{Run}
use Rattle.fabric_model.specs.Bound.{lock_count, way_of, commit_bound, script_bound}
use Rattle.fabric_model.specs.Step.{has_hot}

-- each operation is in the switch or on a host
pub on_both_sides : (plan : Plan) (ops : List Op) → lock_count plan ops + length (hot_ops plan.layout ops) ≡ length ops
on_both_sides plan [] = refl
on_both_sides plan (op ∷ ops) = by (is_hot plan.layout op.tuple) (on_both_sides plan ops)
  where
    by : (b : Bool) → lock_count plan ops + length (hot_ops plan.layout ops) ≡ length ops
        → length (if not b then op ∷ filter (λ o. not (is_hot plan.layout o.tuple)) ops else filter (λ o. not (is_hot plan.layout o.tuple)) ops) + length (if b then op ∷ hot_ops plan.layout ops else hot_ops plan.layout ops) ≡ suc (length ops)
    by true e = omega (arith, e)
    by false e = omega (arith, e)

-- the script has an operation in the switch where there is one
pub some_in_switch : (plan : Plan) (ops : List Op) (b : Bool) → has_hot plan ops ≡ b → cond {A = Type 0} b (1 ≤ length (hot_ops plan.layout ops)) (length (hot_ops plan.layout ops) ≡ 0)
some_in_switch plan [] true e = cc
some_in_switch plan [] false e = refl
some_in_switch plan (op ∷ ops) b e = by (is_hot plan.layout op.tuple) b e (some_in_switch plan ops)
  where
    by : (h b : Bool) → (h || has_hot plan ops) ≡ b → ((d : Bool) → has_hot plan ops ≡ d → cond {A = Type 0} d (1 ≤ length (hot_ops plan.layout ops)) (length (hot_ops plan.layout ops) ≡ 0))
        → cond {A = Type 0} b (1 ≤ length (if h then op ∷ hot_ops plan.layout ops else hot_ops plan.layout ops)) (length (if h then op ∷ hot_ops plan.layout ops else hot_ops plan.layout ops) ≡ 0)
    by true true e rest = omega arith
    by true false e rest = cc
    by false true e rest = rest true e
    by false false e rest = rest false e

module _ (rows : List LayoutRow) (ops : List Op) (sets : Parts) (visit : IsOneVisit rows ops) (are : IsParts rows ops sets) where
  -- as many operations are in the switch as the set of those has
  pub members_are : members sets.hot (length ops) ≡ length (hot_ops rows ops)
  members_are = sym (number-members (parts_of rows ops) sets.hot (hot_set (parts_of rows ops) sets are) (length ops)) ∙ sym (hot_count rows ops visit)

none_in : (chosen : OpSet) (n : ℕ) → chosen.0 ≡ 0 → members chosen n ≡ 0
none_in chosen zero e = refl
none_in chosen (suc n) e =
    let bit : bit_at chosen.0 n ≡ 0 = ap (λ (m : ℕ). bit_at m n) e ∙ bit_at-zero n in
    let off : cond {A = ℕ} (contains chosen n) 1 0 ≡ 0 = ap (λ (m : ℕ). cond {A = ℕ} (m == 1) 1 0) bit in
    omega (arith, none_in chosen n e, off)

module _ (rows : List LayoutRow) (ops : List Op) (sets : Parts) (visit : IsOneVisit rows ops) (are : IsParts rows ops sets) where
  -- where the set is empty none is
  pub none_hot : sets.hot.0 ≡ 0 → length (hot_ops rows ops) ≡ 0
  none_hot e = sym (members_are rows ops sets visit are) ∙ none_in sets.hot (length ops) e

  -- and where it isn't, some are
  pub some_hot : 0 < sets.hot.0 → sets.hot.0 < 2 ^ 32 → 1 ≤ length (hot_ops rows ops)
  some_hot some small =
      let k : ℕ = trailing_zeros w32 sets.hot.0 in
      let bit = bit_at-trailing_zeros w32 sets.hot.0 some small in
      let on : contains sets.hot k ≡ true = ap (λ (m : ℕ). m == 1) bit.1 in
      let there : is_in_switch (part_at (parts_of rows ops) k) ≡ true = sym (hot_set (parts_of rows ops) sets are k) ∙ on in
      elim (cases_lt k (length ops)) [
        | inl lt ↦ omega (arith, number_below (parts_of rows ops) k (length ops) lt there, hot_count rows ops visit)
        | inr past ↦ let end : part_at (parts_of rows ops) k ≡ Before = get_or_past (parts_of rows ops) k Before (omega (arith, past, length-parts_of rows ops)) in
            let clash : true ≡ false = sym there ∙ ap is_in_switch end in cc
      ]

-- the moves of a commit, by how many operations are in the switch
pub bound_without : (plan : Plan) (ops : List Op) → length (hot_ops plan.layout ops) ≡ 0 → 1 ≡ commit_bound plan ops
bound_without plan ops none = by (has_hot plan ops) (some_in_switch plan ops (has_hot plan ops) refl)
  where
    by : (b : Bool) → cond {A = Type 0} b (1 ≤ length (hot_ops plan.layout ops)) (length (hot_ops plan.layout ops) ≡ 0) → 1 ≡ (if b then 3 + way_of plan ops else 1)
    by true some = absurd (omega (arith, none, some))
    by false some = refl

pub bound_with : (plan : Plan) (ops : List Op) → 1 ≤ length (hot_ops plan.layout ops) → 3 + way_of plan ops ≡ commit_bound plan ops
bound_with plan ops is = by (has_hot plan ops) (some_in_switch plan ops (has_hot plan ops) refl)
  where
    by : (b : Bool) → cond {A = Type 0} b (1 ≤ length (hot_ops plan.layout ops)) (length (hot_ops plan.layout ops) ≡ 0) → 3 + way_of plan ops ≡ (if b then 3 + way_of plan ops else 1)
    by true some = refl
    by false none = absurd (omega (arith, none, is))

-- a transaction among the items of a client is fit
pub fit_among : (plan : Plan) (items : List Item) (i : ℕ) (item d : Item) (script : Listed Op) → All (IsFitItem plan) (plain_items items) → i < length items → item ≡ get_or items i d → item ≡ Run script → IsFit plan script.items
fit_among plan items i item d script all lt is run =
    subst (IsFitItem plan) (get_or-map plain_item items i d (plain_item d) lt ∙ ap plain_item (sym is ∙ run)) (all i (plain_item d) (omega (arith, lt, length-map items plain_item)))

pub above_zero : (n : ℕ) → IsTrue false ↔ (n ≡ 0) → 0 < n
above_zero zero same = let clash : false ≡ true = same.1 refl in cc
above_zero (suc n) same = omega arith

module _ (plan : Plan) (ops : List Op) (sets : Parts) (visit : IsOneVisit plan.layout ops) (are : IsParts plan.layout ops sets) where
  -- the operations that are not in the set are those on hosts
  pub locks_are : (n len : ℕ) → len ≡ length ops → n + members sets.hot len ≡ len → n ≡ lock_count plan ops
  locks_are n len is whole =
      let there : members sets.hot len ≡ length (hot_ops plan.layout ops) = ap (members sets.hot) is ∙ members_are plan.layout ops sets visit are in
      omega (arith, is, whole, there, on_both_sides plan ops)

-- the bound on the moves of a script, by its parts
pub bound_is : (plan : Plan) (ops : List Op) (n tries more less commit : ℕ) → n ≡ lock_count plan ops → more ≡ tries → less ≡ 2 * n - 1 → commit ≡ commit_bound plan ops
    → more * less + (2 * n + commit) ≡ script_bound plan tries ops
bound_is plan ops n tries more less commit locks refused fewer last =
    ap (λ (k : ℕ). k * less + (2 * n + commit)) refused
    ∙ ap (λ (k : ℕ). tries * k + (2 * n + commit)) fewer
    ∙ ap (λ (k : ℕ). tries * (2 * n - 1) + (2 * n + k)) last
    ∙ ap (λ (m : ℕ). tries * (2 * m - 1) + (2 * m + commit_bound plan ops)) locks

-- a sum that is small has small parts
pub parts_small : (a b c t : ℕ) → a + (b + c) ≡ t → t < 4294967296 → (a < 4294967296) × (b + c < 4294967296) × (a + (b + c) < 4294967296)
parts_small a b c t is small = (omega (arith, is, small), omega (arith, is, small), omega (arith, is, small))
