use Rattle.std.proofs.Common.{sym, ap, subst}
use Rattle.catalogue.specs.PlanOf.{plan_of}
use Rattle.fabric_core.specs.Racks.{seen}
use Rattle.p4db_top.specs.Logs.{HasLogCause}
use Rattle.p4db_top.specs.declared.note.Note.{Note}
use Rattle.p4db_top.specs.declared.output.Output.TheVariants.{Report}
use Rattle.p4db_top.proofs.EndedRun.{begin_cause}
use Rattle.p4db_top.proofs.RacedRun.{raced_ran}
use Rattle.p4db_top.proofs.racing.race_named.Goals as goal

pub returns-in-Err-clause-log_cause : goal.returns-in-Err-clause-log_cause
returns-in-Err-clause-log_cause g c =
    subst (λ (note : Note). HasLogCause (g.L.LogRack.faults c.args.rack) (g.L.LogRack.faults c.in-Err.rack) note) (sym c.note_of.ensures)
    (begin_cause c.in-Err.fault _ _ (λ client is. (c.in-Err.ensures.log_fault client is).rose) (λ is. ap g.L.LogRack.faults (c.in-Err.ensures.no_memory is)))

pub returns-clause-ran : goal.returns-clause-ran
returns-clause-ran g c =
    raced_ran (λ r. seen (g.L.LogRack.told r) (g.L.LogRack.keeps r) (g.L.LogRack.faults r)) (plan_of c.args.session) g.N.RunName.session c.args.rack c.race-world.result.0 c.race-world.result.1 c.close.result.1 g.N.RunName.kept g.N.RunName.faults
    c.race-world.ensures.raced c.requires.named c.requires.kept c.requires.faults c.close.ensures.keeps c.close.ensures.stopped Report c.close.result.0 _ _ c.close.ensures.closed
