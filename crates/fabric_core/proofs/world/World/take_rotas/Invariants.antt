use Rattle.fabric_model.specs.Bound.{moves_left}
use Rattle.fabric_core.specs.Racks.{seen}
use Rattle.fabric_core.specs.Running.{state_in}
use Rattle.fabric_core.proofs.Takes.{IsDriving}
use Rattle.fabric_core.proofs.world.World.take_rotas.Given as goal

-- what is left of the run makes the whole
abbrev pub invariant-rounds : goal.invariant-rounds
invariant-rounds g l = IsDriving l.fn.self l.self (seen (g.L.LogRack.told l.fn.self.rack) (g.L.LogRack.keeps l.fn.self.rack) (g.L.LogRack.faults l.fn.self.rack)) (seen (g.L.LogRack.told l.self.rack) (g.L.LogRack.keeps l.self.rack) (g.L.LogRack.faults l.self.rack))

abbrev pub decreases-rounds : goal.decreases-rounds
decreases-rounds g l = moves_left l.self.plan (state_in l.self)
