use Rattle.std.proofs.Common.{◌≡◌, ◌≤◌, List}
use Rattle.stage_layout.specs.Late.{Part}
use Rattle.warm_split.specs.Parts.{IsHotSet}
use Rattle.warm_split.specs.Resolved.{packet_number}
use Rattle.warm_split.proofs.needs.packet_number.Given as goal

abbrev pub invariant-loop-k : goal.invariant-loop-k
invariant-loop-k l = record {
  bound : l.number ≤ l.k;
  number : (parts : List Part) → IsHotSet parts l.hot → l.number ≡ packet_number parts l.k;
}
