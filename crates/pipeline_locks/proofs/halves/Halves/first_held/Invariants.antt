use Rattle.std.proofs.Common.{◌≡◌, drop}
use Rattle.pipeline_locks.specs.Holders.{first_held, first_held_from}
use Rattle.pipeline_locks.proofs.halves.Halves.first_held.Given as goal

-- the halves that are left give the answer
abbrev pub invariant-loop-half : goal.invariant-loop-half
invariant-loop-half l = first_held_from l.halves l.half (drop l.half l.holder-items) ≡ first_held l.halves l.holder-items
