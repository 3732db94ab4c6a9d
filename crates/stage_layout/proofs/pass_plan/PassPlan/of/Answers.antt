use Rattle.std.proofs.Common.{arith, get_or, set, ap, ◌∙◌}
use Rattle.stage_layout.specs.Passes.{Step}
use Rattle.stage_layout.proofs.PlanLoops.{padded_more}
use Rattle.stage_layout.proofs.pass_plan.PassPlan.of.Goals as goal

pub loop-i-preserved : goal.loop-i-preserved
loop-i-preserved c =
    let steps = c.args.steps.now in
    let none : Step = record { pass = 0; place = record { stage = 0; array = 0; cell = 0 } } in
    ap (λ passes. set passes c.loop-i.i (get_or steps c.loop-i.i none).pass) c.loop-i.invariant ∙ padded_more steps c.loop-i.i none (omega arith) c.requires
