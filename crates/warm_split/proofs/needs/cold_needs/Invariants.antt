use Rattle.std.proofs.Common.{◌≡◌, ◌≤◌, List, length, take}
use Rattle.txn_model.specs.Needs.{needs_list}
use Rattle.stage_layout.specs.Late.{Part}
use Rattle.warm_split.specs.Parts.{IsHotSet}
use Rattle.warm_split.specs.Resolved.{cold_needs}
use Rattle.warm_split.proofs.needs.cold_needs.Given as goal

abbrev pub invariant-loop-i : goal.invariant-loop-i
invariant-loop-i l = record {
  few : length (needs_list l.found) ≤ l.i;
  found : (parts : List Part) → IsHotSet parts l.hot → needs_list l.found ≡ cold_needs parts (take l.i (needs_list l.needs));
}
