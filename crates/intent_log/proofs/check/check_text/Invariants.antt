use Rattle.std.proofs.Common.{◌≡◌, ℕ, ◌-◌, ◌≤◌, List, ◌++◌, length, take}
use Rattle.std.specs.Prelude.{IsTrue}
use Rattle.port_io.specs.LogRack.{AllStay}
use Rattle.intent_log.specs.Ahead.{IsPieceOf}
use Rattle.intent_log.specs.Checking.{Begins}
use Rattle.intent_log.proofs.check.check_text.Given as goal

abbrev pub invariant-loop-done : goal.invariant-loop-done
invariant-loop-done g l = record {
  within : l.done ≤ length l.text;
  begins : (front : List ℕ) → l.at ≡ length front → Begins (g.L.LogRack.told l.initial.rack l.client) front → Begins (g.L.LogRack.told l.initial.rack l.client) (front ++ take l.done l.text);
  ahead : IsPieceOf (g.L.LogRack.told l.initial.rack l.client) l.ahead;
  stay : AllStay (g.L.LogRack.told l.initial.rack) (g.L.LogRack.told l.rack);
  keeps_on : IsTrue (g.L.LogRack.keeps l.initial.rack) → IsTrue (g.L.LogRack.keeps l.rack);
  still : g.L.LogRack.faults l.rack ≡ g.L.LogRack.faults l.initial.rack;
}

abbrev pub decreases-loop-done : goal.decreases-loop-done
decreases-loop-done g l = length l.text - l.done
