use Rattle.std.proofs.Common.{◌≡◌, drop, take, length}
use Rattle.pipeline_locks.specs.Holders.{given}
use Rattle.pipeline_locks.proofs.halves.Halves.give.Given as goal

-- the halves of the set so far are the client's, and the others are as they were
abbrev pub invariant-loop-half : goal.invariant-loop-half
invariant-loop-half l = record {
  two : length l.holder-items ≡ 2;
  done : take l.half l.holder-items ≡ given l.halves l.client (take l.half l.initial.holder-items);
  rest : drop l.half l.holder-items ≡ drop l.half l.initial.holder-items;
}
