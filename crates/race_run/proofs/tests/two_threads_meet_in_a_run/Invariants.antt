use Rattle.std.proofs.Common.{true}
use Rattle.catalogue.specs.PlanOf.{plan_of}
use Rattle.race_run.proofs.tests.two_threads_meet_in_a_run.Given as goal

-- the run is named after the session, and a clean rack
abbrev pub ghosts-moves_of : goal.ghosts-moves_of
ghosts-moves_of g a = record { session = plan_of a.session; faults = 0; kept = true }
