use Rattle.std.proofs.Common.{arith, sym, ◌∙◌}
use Rattle.txn_model.specs.Needs.{needs_list}
use Rattle.stage_layout.proofs.PlanLoops.{least_pass-is}
use Rattle.stage_layout.proofs.pass_plan.least_pass.Goals as goal

pub returns-else-taken-pass : goal.returns-else-taken-pass
returns-else-taken-pass c =
    let taken = c.taken_passes-taken.ensures in
    let first = c.first_met-pass.ensures in
    let so_far = c.loop-pass.invariant in
    least_pass-is c.args.steps.now c.args.op.now.place (needs_list c.args.op.now.needs) c.first_met-pass.result c.loop-pass.pass first.first first.range.0 so_far.low so_far.high
    (λ p low below. sym (taken p (omega arith)) ∙ so_far.taken p low below) (λ _. sym (taken c.loop-pass.pass (omega arith)) ∙ c.if-taken-pass.false)

pub returns-after-loop-pass : goal.returns-after-loop-pass
returns-after-loop-pass c =
    let taken = c.taken_passes-taken.ensures in
    let first = c.first_met-pass.ensures in
    let so_far = c.loop-pass.invariant in
    least_pass-is c.args.steps.now c.args.op.now.place (needs_list c.args.op.now.needs) c.first_met-pass.result c.loop-pass.pass first.first first.range.0 so_far.low so_far.high
    (λ p low below. sym (taken p (omega arith)) ∙ so_far.taken p low below) (λ within. absurd (omega arith))
