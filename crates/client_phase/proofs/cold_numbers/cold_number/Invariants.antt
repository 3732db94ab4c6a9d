use Rattle.client_phase.specs.ColdNumbers.{cold_number}
use Rattle.client_phase.proofs.Numbers.{Seeks}
use Rattle.client_phase.proofs.cold_numbers.cold_number.Given as goal

abbrev pub invariant-loop-op : goal.invariant-loop-op
invariant-loop-op l = Seeks l.parts.hot l.op l.script.items l.left (cold_number l.parts l.script.items l.fn.nth)
