-- The bound on a sound session's moves is a small number.
use Rattle.std.proofs.Common.{◌≡◌, ℕ, suc, ◌+◌, ◌-◌, ◌*◌, ◌≤◌, not, Bool, true, false, ◌||◌, List, [], ◌∷◌, filter, length, refl, arith, if◌then◌else◌}
use Rattle.std.specs.List.{All, AllByRecursion}
use Rattle.std.specs.Prelude.{sum_by}
use Rattle.std.proofs.lemmas.List.{length-map}
use Rattle.std.proofs.lemmas.List.Elements.{recursion_from_All}
use Rattle.std.proofs.lemmas.List.Sums.{sum_by-cons}
use Rattle.txn_model.specs.declared.op.Op.{Op}
use Rattle.stage_layout.specs.Late.{is_hot, parts_of}
use Rattle.stage_layout.proofs.LeastPasses.{has_passes}
use Rattle.warm_split.specs.Resolved.{planned_op, planned_ops}
use Rattle.warm_split.specs.Sides.{hot_ops}
use Rattle.catalogue.specs.Plan.{Plan, PlainItem, Run, Lose}
use Rattle.catalogue.specs.Sound.{IsSound, IsFitItem}
use Rattle.core_model.proofs.SmallBounds.{short_script}
use Rattle.fabric_model.specs.Bound.{lock_count, pass_count, way_of, script_bound, item_bound, items_bound, clients_bound, move_bound}
use Rattle.fabric_model.specs.Step.{has_hot}
use Rattle.fabric_model.proofs.FromCore.{times_up}

times_right : (a m n : ℕ) → m ≤ n → a * m ≤ a * n
times_right a m n le = grind arith

-- each operation is in the switch or on a host
sides : (plan : Plan) (ops : List Op) → lock_count plan ops + length (hot_ops plan.layout ops) ≡ length ops
sides plan [] = refl
sides plan (op ∷ ops) = by (is_hot plan.layout op.tuple) (sides plan ops)
  where
    by : (b : Bool) → lock_count plan ops + length (hot_ops plan.layout ops) ≡ length ops
        → length (if not b then op ∷ filter (λ o. not (is_hot plan.layout o.tuple)) ops else filter (λ o. not (is_hot plan.layout o.tuple)) ops) + length (if b then op ∷ hot_ops plan.layout ops else hot_ops plan.layout ops) ≡ suc (length ops)
    by true e = omega (arith, e)
    by false e = omega (arith, e)

some_hot : (plan : Plan) (ops : List Op) → has_hot plan ops ≡ true → 1 ≤ length (hot_ops plan.layout ops)
some_hot plan [] e = cc
some_hot plan (op ∷ ops) e = by (is_hot plan.layout op.tuple) e (some_hot plan ops)
  where
    by : (b : Bool) → (b || has_hot plan ops) ≡ true → (has_hot plan ops ≡ true → 1 ≤ length (hot_ops plan.layout ops)) → 1 ≤ length (if b then op ∷ hot_ops plan.layout ops else hot_ops plan.layout ops)
    by true e rest = omega arith
    by false e rest = rest e

few_passes : (plan : Plan) (ops : List Op) → pass_count plan ops ≤ length (hot_ops plan.layout ops)
few_passes plan ops = on ((has_passes plan.shape (planned_ops plan.layout ops)).most) (length-map (hot_ops plan.layout ops) (planned_op plan.layout (parts_of plan.layout ops)))
  where
    on : {a b c : ℕ} → a ≤ b → b ≡ c → a ≤ c
    on le e = omega (arith, le, e)

-- with m locks, h operations in the switch, p passes and so many moves of a pass
hot_script : (refused m h p turn way : ℕ) → refused ≤ 15 → m + h ≤ 16 → 1 ≤ h → p ≤ h → turn ≤ 13 → way ≡ p * turn → refused * (2 * m - 1) + (2 * m + (3 + way)) ≤ 498
hot_script refused m h p turn way few short some passes stages is =
    let first : refused * (2 * m - 1) ≤ 15 * (2 * m - 1) = times_up refused 15 (2 * m - 1) few in
    let second : p * turn ≤ h * turn = times_up p h turn passes in
    let third : h * turn ≤ h * 13 = times_right h turn 13 stages in
    omega (arith, first, second, third, is, short, some)

cold_script : (refused m : ℕ) → refused ≤ 15 → m ≤ 16 → refused * (2 * m - 1) + (2 * m + 1) ≤ 498
cold_script refused m few short =
    let first : refused * (2 * m - 1) ≤ 15 * (2 * m - 1) = times_up refused 15 (2 * m - 1) few in
    omega (arith, first, short)

small_script : (plan : Plan) (refused : ℕ) (ops : List Op) → refused ≤ 15 → length ops ≤ 16 → plan.shape.stages ≤ 12 → script_bound plan refused ops ≤ 498
small_script plan refused ops few short stages = by (has_hot plan ops) refl
  where
    total : lock_count plan ops + length (hot_ops plan.layout ops) ≤ 16
    total = on (sides plan ops) short
      where
        on : {a b : ℕ} → a ≡ b → b ≤ 16 → a ≤ 16
        on e le = omega (arith, e, le)

    by : (b : Bool) → has_hot plan ops ≡ b → refused * (2 * lock_count plan ops - 1) + (2 * lock_count plan ops + (if b then 3 + way_of plan ops else 1)) ≤ 498
    by true hot = hot_script refused (lock_count plan ops) (length (hot_ops plan.layout ops)) (pass_count plan ops) (1 + plan.shape.stages) (way_of plan ops) few total (some_hot plan ops hot) (few_passes plan ops) (omega (arith, stages)) refl
    by false cold = cold_script refused (lock_count plan ops) few (omega (arith, total))

small_item : (plan : Plan) (item : PlainItem) → plan.tries ≤ 16 → plan.shape.stages ≤ 12 → IsFitItem plan item → item_bound plan item ≤ 498
small_item plan (Run ops) tries stages fit = small_script plan (plan.tries - 1) ops (omega (arith, tries)) (short_script ops fit.script) stages
small_item plan Lose tries stages fit = omega arith

small_items : (plan : Plan) (items : List PlainItem) → plan.tries ≤ 16 → plan.shape.stages ≤ 12 → AllByRecursion (IsFitItem plan) items → items_bound plan items ≤ 498 * length items
small_items plan [] tries stages fit = omega arith
small_items plan (item ∷ items) tries stages fit = omega (arith, small_item plan item tries stages fit.0, small_items plan items tries stages fit.1)

small_clients : (plan : Plan) (lists : List (List PlainItem)) → plan.tries ≤ 16 → plan.shape.stages ≤ 12 → AllByRecursion (All (IsFitItem plan)) lists → clients_bound plan lists ≤ 498 * sum_by length lists
small_clients plan [] tries stages fit = omega arith
small_clients plan (items ∷ lists) tries stages fit =
    omega (arith, small_items plan items tries stages (recursion_from_All (IsFitItem plan) items fit.0), small_clients plan lists tries stages fit.1, sum_by-cons length items lists)

pub small_bound : (plan : Plan) → IsSound plan → move_bound plan ≤ 2039808
small_bound plan sound = all (small_clients plan plan.clients sound.limits.tries.1 sound.limits.shape.stages.1 (recursion_from_All (All (IsFitItem plan)) plan.clients sound.items)) sound.limits.items
  where
    all : {a n : ℕ} → a ≤ 498 * n → n ≤ 4096 → a ≤ 2039808
    all p q = omega (arith, p, q)
