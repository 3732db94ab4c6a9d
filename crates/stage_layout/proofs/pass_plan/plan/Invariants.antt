use Rattle.std.proofs.Common.{◌≡◌, take}
use Rattle.stage_layout.specs.Passes.{steps_of}
use Rattle.stage_layout.proofs.pass_plan.plan.Given as goal

-- the steps of the operations so far
abbrev pub invariant-loop-i : goal.invariant-loop-i
invariant-loop-i l = take l.i l.steps ≡ steps_of (take l.i l.ops)
