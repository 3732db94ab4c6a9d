use Rattle.std.proofs.Common.{◌≤◌, map}
use Rattle.std.specs.Prelude.{reverse}
use Rattle.catalogue.specs.declared.actor.Actor.TheVariants.{Stage}
use Rattle.core_model.specs.Rota.{numbers_below}
use Rattle.fabric_core.specs.Racks.{seen}
use Rattle.fabric_core.proofs.Takes.{IsTaking}
use Rattle.fabric_core.proofs.world.World.take_stages.Given as goal

-- the stages so far and those below them make the whole
abbrev pub invariant-loop-stage : goal.invariant-loop-stage
invariant-loop-stage g l = record {
  below : l.stage ≤ l.fn.self.plan.shape.stages;
  taking : IsTaking (map Stage (reverse (numbers_below l.stage))) (map Stage (reverse (numbers_below l.fn.self.plan.shape.stages))) l.fn.self l.self (seen (g.L.LogRack.told l.fn.self.rack) (g.L.LogRack.keeps l.fn.self.rack) (g.L.LogRack.faults l.fn.self.rack)) (seen (g.L.LogRack.told l.self.rack) (g.L.LogRack.keeps l.self.rack) (g.L.LogRack.faults l.self.rack));
}
