use Rattle.std.proofs.Common.{◌≡◌, ◌++◌, map, take, drop}
use Rattle.fabric_core.specs.Recovering.{resumed_runner}
use Rattle.fabric_core.proofs.recovery.resume_all.Given as goal

abbrev pub invariant-loop-runner : goal.invariant-loop-runner
invariant-loop-runner l = l.runners ≡ map resumed_runner (take l.runner-index l.fn.runners) ++ drop l.runner-index l.fn.runners
