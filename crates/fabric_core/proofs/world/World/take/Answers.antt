use Rattle.std.proofs.Common.{ap}
use Rattle.fabric_core.specs.Racks.{seen}
use Rattle.fabric_core.specs.Running.{Running}
use Rattle.fabric_core.proofs.Takes as takes
use Rattle.fabric_core.proofs.world.World.take.Goals as goal

pub returns-then-finished : goal.returns-then-finished
returns-then-finished g c = takes.taken_none c.args.self.now _ c.args.actor c.finished.result c.finished.ensures c.if-finished.true

pub returns-in-Moved : goal.returns-in-Moved
returns-in-Moved g c =
    takes.taken_turn c.args.self.now c.turn.new.self _ _ c.args.actor c.turn.result c.finished.result c.finished.ensures c.if-finished.false c.turn.ensures c.in-Moved.is
    (λ same. ap (λ (r : Running _). seen (g.L.LogRack.told r.rack) (g.L.LogRack.keeps r.rack) (g.L.LogRack.faults r.rack)) same)

pub returns-in-LogFault : goal.returns-in-LogFault
returns-in-LogFault g c = takes.turn_failed c.args.self.now c.turn.new.self _ _ c.args.actor c.turn.result c.turn.ensures c.in-LogFault.client c.in-LogFault.is

pub returns-in-LogChanged : goal.returns-in-LogChanged
returns-in-LogChanged g c = takes.turn_changed c.args.self.now c.turn.new.self _ _ c.args.actor c.turn.result c.turn.ensures c.in-LogChanged.client c.in-LogChanged.at c.in-LogChanged.is

pub returns-in-NoMemory : goal.returns-in-NoMemory
returns-in-NoMemory g c = takes.turn_lacks c.args.self.now c.turn.new.self _ _ c.args.actor c.turn.result c.turn.ensures c.requires.goes_on c.in-NoMemory.is
