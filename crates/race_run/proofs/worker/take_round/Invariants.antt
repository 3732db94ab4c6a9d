use Rattle.std.proofs.Common.{◌≤◌, ◌-◌}
use Rattle.race_run.specs.Places.{AreOf, count_of}
use Rattle.race_run.proofs.worker.take_round.Given as goal

-- the share stays
abbrev pub invariant-loop-place : goal.invariant-loop-place
invariant-loop-place g l = record {
  places : AreOf g.N.RunName.session l.share.places;
  some : 1 ≤ l.share.workers;
}

abbrev pub decreases-loop-place : goal.decreases-loop-place
decreases-loop-place g l = count_of l.share.places - l.place
