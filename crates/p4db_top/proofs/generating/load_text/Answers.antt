use Rattle.std.proofs.Common.{◌≡◌, Ok, subst}
use Rattle.catalogue.specs.Plan.{Plan}
use Rattle.catalogue.specs.PlanOf.{plan_of}
use Rattle.session_reader.specs.SessionOf.{session_of}
use Rattle.session_text.specs.Canonical.{text_line}
use Rattle.session_text.proofs.SessionLine.{line_back}
use Rattle.p4db_top.proofs.generating.load_text.Goals as goal

pub returns-clause-reads_back : goal.returns-clause-reads_back
returns-clause-reads_back c =
    subst (λ (plan : Plan). session_of (text_line plan) ≡ Ok plan) c.in_ok-session.ensures.session (line_back (plan_of c.in_ok-session.session) c.in_ok-session.ensures.sound c.in_ok-text.ensures.typed)
