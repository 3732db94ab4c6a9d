use Rattle.std.proofs.Common.{◌≡◌, ◌+ℤ◌, drop}
use Rattle.txn_model.specs.Number.{wrap}
use Rattle.txn_model.specs.Needs.{needs_list}
use Rattle.txn_model.specs.Serial.{needed}
use Rattle.txn_model.proofs.serial.operand.Given as goal

-- the sum so far and the needs that are left make the whole, once it is wrapped
abbrev pub invariant-loop-i : goal.invariant-loop-i
invariant-loop-i l = wrap (l.sum +ℤ needed (drop l.i (needs_list l.needs)) l.done.items) ≡ wrap (l.bias +ℤ needed (needs_list l.needs) l.done.items)
