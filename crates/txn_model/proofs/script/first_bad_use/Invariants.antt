use Rattle.std.proofs.Common.{◌≡◌, drop}
use Rattle.txn_model.specs.ScriptCheck.{first_bad_use}
use Rattle.txn_model.proofs.FirstPlaces.{bad_use_from}
use Rattle.txn_model.proofs.script.first_bad_use.Given as goal

-- no operation so far has a bad use
abbrev pub invariant-loop-i : goal.invariant-loop-i
invariant-loop-i l = bad_use_from l.i (drop l.i l.ops) ≡ first_bad_use l.ops
