use Rattle.std.proofs.Common.{◌≡◌, drop, take, length}
use Rattle.pipeline_locks.specs.Holders.{without}
use Rattle.pipeline_locks.proofs.halves.Halves.leave.Given as goal

-- the client is out of the halves so far, and the others are as they were
abbrev pub invariant-loop-holder : goal.invariant-loop-holder
invariant-loop-holder l = record {
  two : length l.holder-items ≡ 2;
  done : take l.holder-index l.holder-items ≡ without l.client (take l.holder-index l.initial.holder-items);
  rest : drop l.holder-index l.holder-items ≡ drop l.holder-index l.initial.holder-items;
}
