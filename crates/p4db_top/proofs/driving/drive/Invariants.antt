use Rattle.catalogue.specs.PlanOf.{plan_of}
use Rattle.p4db_top.proofs.driving.drive.Given as goal

-- the run is named after the session that was generated, and the rack that it was given
abbrev pub ghosts-run_named : goal.ghosts-run_named
ghosts-run_named g a = record { session = plan_of a.session; faults = g.L.LogRack.faults a.rack; kept = g.L.LogRack.keeps a.rack }
