use Rattle.std.proofs.Common.{◌≡◌, ◌-◌, length, map}
use Rattle.std.specs.List.{range_with_len}
use Rattle.catalogue.specs.declared.actor.Actor.TheVariants.{Client}
use Rattle.core_model.specs.Rota.{numbers_below}
use Rattle.fabric_core.specs.Racks.{seen}
use Rattle.fabric_core.proofs.Takes.{IsTaking}
use Rattle.fabric_core.proofs.world.World.take_clients.Given as goal

-- the clients so far and those that are left make the whole
abbrev pub invariant-loop-client : goal.invariant-loop-client
invariant-loop-client g l = record {
  end : l.client-end ≡ length l.fn.self.plan.clients;
  taking : IsTaking (map Client (range_with_len l.client (l.client-end - l.client))) (map Client (numbers_below (length l.fn.self.plan.clients))) l.fn.self l.self (seen (g.L.LogRack.told l.fn.self.rack) (g.L.LogRack.keeps l.fn.self.rack) (g.L.LogRack.faults l.fn.self.rack)) (seen (g.L.LogRack.told l.self.rack) (g.L.LogRack.keeps l.self.rack) (g.L.LogRack.faults l.self.rack));
}
