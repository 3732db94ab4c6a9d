use Rattle.std.proofs.Common.{drop}
use Rattle.fabric_core.specs.Racks.{seen}
use Rattle.fabric_core.proofs.Takes.{IsTaking}
use Rattle.fabric_core.proofs.world.World.take_all.Given as goal

-- the actors so far and those that are left make the whole
abbrev pub invariant-loop-actor : goal.invariant-loop-actor
invariant-loop-actor g l = IsTaking (drop l.actor-index l.actors) l.actors l.fn.self l.self (seen (g.L.LogRack.told l.fn.self.rack) (g.L.LogRack.keeps l.fn.self.rack) (g.L.LogRack.faults l.fn.self.rack)) (seen (g.L.LogRack.told l.self.rack) (g.L.LogRack.keeps l.self.rack) (g.L.LogRack.faults l.self.rack))
