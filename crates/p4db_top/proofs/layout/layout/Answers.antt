use Rattle.catalogue.specs.PlanOf.{plan_of}
use Rattle.p4db_top.specs.Layouts.{IsLayoutText}
use Rattle.p4db_top.proofs.Printing.{print_explained, print_is_no_fault}
use Rattle.p4db_top.proofs.layout.layout.Goals as goal

pub returns-in-Ok-clause-explained : goal.returns-in-Ok-clause-explained
returns-in-Ok-clause-explained g c = print_explained (IsLayoutText c.args.k) c.print_layout.result _ _ _ _ (plan_of c.in-Ok.session) c.in-Ok.ensures.ok c.print_layout.ensures.printed

pub returns-in-Ok-clause-told : goal.returns-in-Ok-clause-told
returns-in-Ok-clause-told g c = print_is_no_fault (IsLayoutText c.args.k) c.print_layout.result _ _ (plan_of c.in-Ok.session) _ c.print_layout.ensures.printed
