use Rattle.fabric_core.specs.Begun.{IsReset}
use Rattle.fabric_core.specs.Racks.{seen}
use Rattle.fabric_core.proofs.resets.reset_logs.Given as goal

-- the logs so far are empty, and the others are as they were
abbrev pub invariant-loop-client : goal.invariant-loop-client
invariant-loop-client g l = IsReset l.client (seen (g.L.LogRack.told l.fn.rack) (g.L.LogRack.keeps l.fn.rack) (g.L.LogRack.faults l.fn.rack)) (seen (g.L.LogRack.told l.rack) (g.L.LogRack.keeps l.rack) (g.L.LogRack.faults l.rack))
