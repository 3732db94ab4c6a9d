use Rattle.std.proofs.Common.{List, sym, ap, ◌∙◌, arith}
use Rattle.std.proofs.lemmas.List.{drop_all}
use Rattle.core_model.specs.declared.refusal.Refusal.{Refusal}
use Rattle.report_text.specs.Refused.{all_noted}
use Rattle.report_text.proofs.Refusals.{noted_all}
use Rattle.report_text.proofs.refused.last_refusals.Goals as goal

pub returns : goal.returns
returns c =
    ap (λ (l : List Refusal). all_noted c.args.client l c.loop-refusal.last.items) (sym (drop_all c.loop-refusal.refusal-index c.args.refusals.now (omega (arith, c.loop-refusal-test.false))))
    ∙ c.loop-refusal.invariant
    ∙ noted_all c.args.client c.args.items c.args.refusals.now
