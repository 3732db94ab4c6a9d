use Rattle.std.proofs.Common.{◌∙◌}
use Rattle.catalogue.specs.PlanOf.{plan_of}
use Rattle.p4db_top.specs.Commands.{listed_by}
use Rattle.p4db_top.specs.Order.{Driven}
use Rattle.p4db_top.proofs.Explained.{explained_by}
use Rattle.p4db_top.proofs.running.run.Goals as goal

pub returns-clause-explained : goal.returns-clause-explained
returns-clause-explained g c =
    explained_by (Driven (listed_by c.args.draws)) _ _ _ _ _ _ (plan_of c.in-Ok.session) c.in-Ok.ensures.ok c.run_named.result.0 c.in-Ok.ensures.sound
    (c.run_named.ensures.ran (listed_by c.args.draws) (c.as_slice.ensures ∙ c.in-Ok-actors_of.ensures.listed))
