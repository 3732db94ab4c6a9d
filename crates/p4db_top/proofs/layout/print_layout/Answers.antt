use Rattle.std.proofs.Common.{sym, subst, List, ℕ}
use Rattle.catalogue.specs.PlanOf.{plan_of}
use Rattle.p4db_top.specs.Layouts.{IsLayoutText}
use Rattle.p4db_top.proofs.Printing.{printed_by}
use Rattle.p4db_top.proofs.layout.print_layout.Goals as goal

pub returns-clause-printed : goal.returns-clause-printed
returns-clause-printed g c =
    printed_by (IsLayoutText c.args.k) c.print_text.result _ (plan_of c.args.session.now) _ _
    (subst (λ (text : List ℕ). IsLayoutText c.args.k (plan_of c.args.session.now) text) (sym c.as_bytes.ensures.value) c.in-Ok.ensures)
    c.print_text.ensures.written
