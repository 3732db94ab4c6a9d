use Rattle.std.proofs.Common.{List, get_or, set, ap, ◌∙◌, sym, arith}
use Rattle.fabric_core.specs.Recovering.{resumed_runner}
use Rattle.fabric_core.specs.declared.runner.Runner.{Runner}
use Rattle.fabric_core.proofs.Recoveries.{next_mapped}
use Rattle.fabric_core.proofs.recovery.resume_all.Goals as goal

pub loop-runner-preserved : goal.loop-runner-preserved
loop-runner-preserved c =
    let init = c.args.runners.now in
    let i = c.loop-runner.runner-index in
    let x = c.runner-item.result in
    ap (λ (l : List Runner). set l i c.resume.new.runner) c.loop-runner.invariant
    ∙ next_mapped resumed_runner init i x c.resume.new.runner (omega (arith, c.loop-runner-test.true)) (c.runner-item.is ∙ ap (λ (l : List Runner). get_or l i x) c.loop-runner.invariant) (c.resume.ensures ∙ ap resumed_runner (sym c.runner-item.is))
