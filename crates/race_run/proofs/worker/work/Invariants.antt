use Rattle.std.proofs.Common.{◌<◌}
use Rattle.race_run.proofs.worker.work.Given as goal

-- fewer rounds than the last one in which none moved
abbrev pub invariant-loop : goal.invariant-loop
invariant-loop g l = l.idle < 64
