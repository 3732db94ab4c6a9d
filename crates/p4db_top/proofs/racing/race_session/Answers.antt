use Rattle.catalogue.specs.PlanOf.{plan_of}
use Rattle.p4db_top.specs.Order.{Raced}
use Rattle.p4db_top.proofs.Explained.{explained_by}
use Rattle.p4db_top.proofs.racing.race_session.Goals as goal

pub returns-in-Ok-clause-explained : goal.returns-in-Ok-clause-explained
returns-in-Ok-clause-explained g c = explained_by Raced _ _ _ _ _ _ (plan_of c.in-Ok.session) c.in-Ok.ensures.ok c.race_named.result.0 c.in-Ok.ensures.sound c.race_named.ensures.ran
