use Rattle.std.proofs.Common.{◌≡◌, take, drop}
use Rattle.std.specs.List.{enumerate_from, position_from}
use Rattle.txn_model.specs.ScriptCheck.{names, first_repeat}
use Rattle.txn_model.proofs.script.first_repeat.Given as goal

-- no operation so far repeats a tuple
abbrev pub invariant-loop-i : goal.invariant-loop-i
invariant-loop-i l = position_from (λ at. names (take at.0 l.ops) at.1.tuple) l.i (enumerate_from l.i (drop l.i l.ops)) ≡ first_repeat l.ops
