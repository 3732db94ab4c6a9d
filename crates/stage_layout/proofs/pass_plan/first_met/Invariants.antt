use Rattle.std.proofs.Common.{◌≡◌, ℕ, ◌+◌, ◌≤◌, length, take, nat_le}
use Rattle.txn_model.specs.Needs.{needs_list}
use Rattle.stage_layout.specs.Passes.{are_met}
use Rattle.stage_layout.proofs.pass_plan.first_met.Given as goal

-- the first pass by which the needs so far are met
abbrev pub invariant-loop-i : goal.invariant-loop-i
invariant-loop-i l = record {
  range : (1 ≤ l.first) × (l.first ≤ length l.steps + 1);
  so_far : (p : ℕ) → 1 ≤ p → are_met l.steps (take l.i (needs_list l.op.needs)) p l.op.place.stage ≡ nat_le l.first p;
}
