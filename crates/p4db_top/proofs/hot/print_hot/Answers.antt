use Rattle.std.proofs.Common.{◌∙◌}
use Rattle.catalogue.specs.PlanOf.{plan_of}
use Rattle.p4db_top.specs.Prints.{IsHotText}
use Rattle.p4db_top.proofs.Printing.{printed_by}
use Rattle.p4db_top.proofs.hot.print_hot.Goals as goal

pub returns-clause-printed : goal.returns-clause-printed
returns-clause-printed g c =
    printed_by (IsHotText c.args.k) c.print_text.result _ (plan_of c.args.session.now) _ _
    (record { rows = c.in-Ok.list.items; list = c.in-Ok.ensures.list; is = c.as_bytes.ensures.value ∙ c.in-Ok-hot_text.ensures })
    c.print_text.ensures.written
