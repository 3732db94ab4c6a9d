use Rattle.std.proofs.Common.{rules, sym, ◌∙◌}
use Rattle.std.proofs.lemmas.Iterator.{YieldsList-from_slice}
use Rattle.std.proofs.lemmas.Iterator.Search.{all_from_yields_List}
use Rattle.std.proofs.lemmas.List.Folds.{list_all-map}
use Rattle.session_draft.specs.Written.{written_op}
use Rattle.session_reader.specs.Limits.{has_few_needs}
use Rattle.session_reader.proofs.limits.item_needs_fit.Goals as goal

pub returns-in-Run : goal.returns-in-Run
returns-in-Run c =
    rw c.in-Run.is
    (all_from_yields_List (λ x. (has_few_needs) (written_op x)) _ _ _ c.all.ensures.ran (YieldsList-from_slice c.in-Run.ops.items cc) (λ x b q called. search rules)
    ∙ sym (list_all-map (has_few_needs) written_op c.in-Run.ops.items))
