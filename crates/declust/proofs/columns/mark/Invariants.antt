use Rattle.std.proofs.Common.{◌≡◌, length, take}
use Rattle.declust.proofs.Marks.{IsMarked}
use Rattle.declust.proofs.columns.mark.Given as goal

-- the sets of the uses so far have the array
abbrev pub invariant-loop-used : goal.invariant-loop-used
invariant-loop-used l = record {
  size : length l.touched ≡ length l.fn.touched;
  marked : IsMarked l.fn.touched l.touched l.array (take l.used-index l.uses);
}
