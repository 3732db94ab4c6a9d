use Rattle.std.proofs.Common.{true}
use Rattle.catalogue.specs.PlanOf.{plan_of}
use Rattle.report_text.proofs.tests.a_failing_sink_is_told_as_a_failure.Given as goal

-- the run is named after the session, and a clean rack
abbrev pub ghosts-written : goal.ghosts-written
ghosts-written g a = record { session = plan_of a.session; faults = 0; kept = true }
