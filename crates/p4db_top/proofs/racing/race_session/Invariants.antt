use Rattle.catalogue.specs.PlanOf.{plan_of}
use Rattle.p4db_top.proofs.racing.race_session.Given as goal

-- the run is named after the session that was read, and the rack that it was given
abbrev pub ghosts-race_named : goal.ghosts-race_named
ghosts-race_named g a = record { session = plan_of a.session; faults = g.L.LogRack.faults a.rack; kept = g.L.LogRack.keeps a.rack }
