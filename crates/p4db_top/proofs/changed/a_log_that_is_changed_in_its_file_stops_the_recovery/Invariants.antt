use Rattle.std.proofs.Common.{false}
use Rattle.catalogue.specs.PlanOf.{plan_of}
use Rattle.p4db_top.proofs.changed.a_log_that_is_changed_in_its_file_stops_the_recovery.Given as goal

-- the run is named after the session, and a rack that has counted no failure and doesn't keep
abbrev pub ghosts-last_turn : goal.ghosts-last_turn
ghosts-last_turn g a = record { session = plan_of a.session; faults = 0; kept = false }
