use Rattle.pipeline.specs.Seating.{AreEmpty}
use Rattle.pipeline.proofs.pipeline.empty_slots.Given as goal

abbrev pub invariant-loop-stage : goal.invariant-loop-stage
invariant-loop-stage l = AreEmpty l._stage l.slots.items
