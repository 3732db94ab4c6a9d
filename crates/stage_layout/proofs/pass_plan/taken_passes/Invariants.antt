use Rattle.std.proofs.Common.{◌≡◌, ℕ, ◌≤◌, false, get_or, length, take}
use Rattle.stage_layout.specs.Passes.{is_taken}
use Rattle.stage_layout.proofs.pass_plan.taken_passes.Given as goal

-- the passes that the steps so far take
abbrev pub invariant-loop-step : goal.invariant-loop-step
invariant-loop-step l = record {
  size : length l.taken ≡ 17;
  so_far : (p : ℕ) → p ≤ 16 → get_or l.taken p false ≡ is_taken (take l.step-index l.steps) l.place p;
}
