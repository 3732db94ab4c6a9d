-- The numbers, the commits and the pairs of a script are the model's.
use Rattle.std.proofs.Common.{◌≡◌, ℕ, ◌<◌, ◌==◌, List, length, slice_get, refl, sym, ap, subst, ◌∙◌, arith}
use Rattle.txn_model.specs.declared.op.Op.{Op}
use Rattle.txn_model.specs.declared.pairs.Pair.{Pair}
use Rattle.stage_layout.specs.Late.{is_hot}
use Rattle.stage_layout.specs.declared.layout.LayoutRow.{LayoutRow}
use Rattle.history_model.specs.Chain.{Step, steps_of}
use Rattle.warm_split.specs.Filled.{AreExecuted}
use Rattle.warm_split.specs.Parts.{IsParts}
use Rattle.warm_split.specs.Sides.{found_values}
use Rattle.warm_split.specs.declared.parts.Parts.{Parts}
use Rattle.core_model.specs.Decision.{cold_steps}
use Rattle.core_model.specs.Locks.{cold_ops}
use Rattle.client_phase.specs.ColdNumbers.{cold_count, cold_number}
use Rattle.client_phase.specs.Laws.{LocksAreTheModels, CommitsAreTheModels, PairsAreFound}
use Rattle.client_phase.specs.Shown.{found_pairs}
use Rattle.client_phase.proofs.Chosen.{hot_chosen, steps_chosen, length-steps, number-at, all-unchosen}
use Rattle.client_phase.proofs.Found.{length-found, all_found, executed-filled, executed_are, taking-all}
use Rattle.client_phase.proofs.Rows.{count_is}

-- a lock's number is that of the model's operation
pub number_is : (rows : List LayoutRow) (ops : List Op) (parts : Parts) (nth : ℕ) → IsParts rows ops parts → nth < cold_count parts ops → slice_get ops (cold_number parts ops nth) ≡ slice_get (cold_ops rows ops) nth
number_is rows ops parts nth sets lt =
    let has = number-at (λ (op : Op). is_hot rows op.tuple) parts.hot 0 ops ops nth refl (hot_chosen rows ops parts sets) lt in
    let same : cold_number parts ops nth ≡ has.0 = omega (arith, has.1) in
    ap (slice_get ops) same ∙ has.2

-- and with its pair
pub step_is : (rows : List LayoutRow) (ops : List Op) (parts : Parts) (pairs : List Pair) (nth : ℕ) → IsParts rows ops parts → length pairs ≡ length ops → nth < cold_count parts ops
    → slice_get (steps_of ops pairs) (cold_number parts ops nth) ≡ slice_get (cold_steps rows ops pairs) nth
step_is rows ops parts pairs nth sets size lt =
    let has = number-at (λ (s : Step). is_hot rows s.0.tuple) parts.hot 0 ops (steps_of ops pairs) nth (length-steps ops pairs size) (steps_chosen rows parts.hot 0 ops pairs (hot_chosen rows ops parts sets)) lt in
    let same : cold_number parts ops nth ≡ has.0 = omega (arith, has.1) in
    ap (slice_get (steps_of ops pairs)) same ∙ has.2

pub locks_are_the_models : LocksAreTheModels
locks_are_the_models rows ops parts sets = record { count = count_is rows ops parts sets; numbers = λ nth lt. number_is rows ops parts nth sets lt }

pub commits_are_the_models : CommitsAreTheModels
commits_are_the_models plan ops parts sets =
    ap (λ (n : ℕ). n == length ops) (count_is plan.layout ops parts sets) ∙ all-unchosen (λ (op : Op). is_hot plan.layout op.tuple) ops

pub pairs_are_found : PairsAreFound
pairs_are_found rows ops parts noted visit sets all =
    let found = found_pairs rows ops noted in
    let is = taking-all rows ops noted all in
    let same = sym (is ∙ sym (executed-filled rows ops parts found sets)) in
    record {
      found = sym (sym (all_found rows ops noted all) ∙ ap (found_values rows ops) (sym is));
      filled = subst (λ (l : List Pair). AreExecuted parts.before ops l) same (executed_are parts.before ops found visit.script (length-found rows ops noted));
    }
