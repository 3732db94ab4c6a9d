use Rattle.catalogue.specs.PlanOf.{plan_of}
use Rattle.fabric_core.proofs.PartsOfScripts.{fit_among}
use Rattle.fabric_core.proofs.room.items_bound.Goals as goal

pub script_bound-requires-clause-fit : goal.script_bound-requires-clause-fit
script_bound-requires-clause-fit c =
    fit_among (plan_of c.args.session.now) c.args.items.now c.loop-item.item-index c.item-item.result c.item-item.result c.in-Run.script c.requires.fit c.loop-item-test.true c.item-item.is c.in-Run.is
