use Rattle.std.proofs.Common.{◌≡◌, ℕ, ◌<◌, ◌≤◌}
use Rattle.pipeline.specs.Seats.{stage_at, cleared}
use Rattle.pipeline.proofs.pipeline.clear_stages.Given as goal

abbrev pub invariant-loop-stage : goal.invariant-loop-stage
invariant-loop-stage l = record {
  done : (x : ℕ) → x < l.stage-index → stage_at l.stages x ≡ cleared (stage_at l.fn.stages x);
  rest : (x : ℕ) → l.stage-index ≤ x → stage_at l.stages x ≡ stage_at l.fn.stages x;
}
