use Rattle.std.proofs.Common.{sym, subst, All, ◌∙◌}
use Rattle.catalogue.specs.Plan.{Plan}
use Rattle.session_draft.specs.Written.{written}
use Rattle.session_reader.specs.Rules.{HasOps, OfScript}
use Rattle.session_reader.proofs.ScriptLists.{scripts_have_ops}
use Rattle.session_reader.proofs.session.checked.Goals as goal

pub check_parts-requires : goal.check_parts-requires
check_parts-requires c =
    let kept = scripts_have_ops (written c.args.draft.now) (sym c.over_limit.ensures ∙ c.in_default.is) in
    subst (λ (plan : Plan). All (All (OfScript HasOps)) plan.clients) (sym c.in_ok-session.ensures) kept
