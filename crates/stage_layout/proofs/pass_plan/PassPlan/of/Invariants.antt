use Rattle.std.proofs.Common.{◌≡◌, ◌-◌, ◌++◌, map, take, replicate}
use Rattle.stage_layout.proofs.pass_plan.PassPlan.of.Given as goal

-- the passes of the steps so far, and zeros behind them
abbrev pub invariant-loop-i : goal.invariant-loop-i
invariant-loop-i l = l.passes ≡ map (λ step. step.pass) (take l.i l.steps) ++ replicate (16 - l.i) 0
