use Rattle.pipeline.specs.Seating.{AreFresh}
use Rattle.pipeline.proofs.pipeline.fresh_stages.Given as goal

abbrev pub invariant-loop-stage : goal.invariant-loop-stage
invariant-loop-stage l = AreFresh l.shape l.stage l.stages.items
