use Rattle.std.proofs.Common.{◌≡◌, ◌+◌, ◌≤◌, length}
use Rattle.client_phase.specs.ColdNumbers.{cold_count}
use Rattle.client_phase.proofs.Numbers.{rest_from}
use Rattle.client_phase.proofs.cold_numbers.cold_count.Given as goal

abbrev pub invariant-loop-op : goal.invariant-loop-op
invariant-loop-op l = record {
  few : l.count ≤ l.op;
  counted : l.count + length (rest_from l.parts.hot l.op l.script.items) ≡ cold_count l.parts l.script.items;
}
