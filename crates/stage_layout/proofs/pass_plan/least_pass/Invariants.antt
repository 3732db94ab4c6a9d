use Rattle.std.proofs.Common.{◌≡◌, ℕ, ◌+◌, ◌-◌, ◌≤◌, ◌<◌, length, true, false, get_or}
use Rattle.stage_layout.proofs.pass_plan.least_pass.Given as goal

-- each pass from the first on that was left out is taken
abbrev pub invariant-loop-pass : goal.invariant-loop-pass
invariant-loop-pass l = record {
  low : l.initial.pass ≤ l.pass;
  high : l.pass ≤ length l.steps + 1;
  taken : (p : ℕ) → l.initial.pass ≤ p → p < l.pass → get_or l.taken p false ≡ true;
}

abbrev pub decreases-loop-pass : goal.decreases-loop-pass
decreases-loop-pass l = 17 - l.pass
