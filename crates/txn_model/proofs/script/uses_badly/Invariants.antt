use Rattle.std.proofs.Common.{◌≡◌, ◌||◌, not, drop, nat_lt}
use Rattle.std.specs.List.{list_any}
use Rattle.txn_model.specs.Needs.{needs_list}
use Rattle.txn_model.specs.ScriptCheck.{uses_badly}
use Rattle.txn_model.proofs.script.uses_badly.Given as goal

-- no need so far is a bad one
abbrev pub invariant-loop-i : goal.invariant-loop-i
invariant-loop-i l = list_any (λ n. l.is_read || not (nat_lt n.from l.number)) (drop l.i (needs_list l.op.needs)) ≡ uses_badly l.number l.op
