use Rattle.catalogue.specs.PlanOf.{plan_of}
use Rattle.p4db_top.proofs.RecoveringNotes.{printed}
use Rattle.p4db_top.proofs.recovering.recover_logs.Goals as goal

pub returns-in-Ok-clause-ends : goal.returns-in-Ok-clause-ends
returns-in-Ok-clause-ends g c = printed c.print_recovered.result (plan_of c.args.session.now) _ c.in-Ok.recovered _ _ c.in-Ok.ensures.recovers c.print_recovered.ensures.written
