use Rattle.pipeline.specs.Seating.{AreVacant}
use Rattle.pipeline.proofs.pipeline.vacant_seats.Given as goal

abbrev pub invariant-loop-client : goal.invariant-loop-client
invariant-loop-client l = AreVacant l._client l.seats.items
