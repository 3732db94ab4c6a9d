use Rattle.std.proofs.Common.{◌≡◌, ◌≤◌, take}
use Rattle.declust.specs.Columns.{touching}
use Rattle.declust.proofs.columns.Columns.touching.Given as goal

-- the uses so far are counted
abbrev pub invariant-loop-used : goal.invariant-loop-used
invariant-loop-used l = record {
  count : l.count ≡ touching l.self (take l.used-index l.uses) l.array;
  few : l.count ≤ l.used-index;
}
