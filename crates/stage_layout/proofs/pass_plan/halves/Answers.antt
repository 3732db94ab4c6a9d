use Rattle.stage_layout.proofs.PlanLoops.{halves_from}
use Rattle.stage_layout.proofs.pass_plan.halves.Goals as goal

pub returns : goal.returns
returns c = rw (c.from.ensures, c.from-2.ensures) (halves_from c.args.shape.now c.args.ops.now c.touch.result c.touch-2.result c.touch.ensures c.touch-2.ensures)
