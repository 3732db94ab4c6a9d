use Rattle.std.proofs.Common.{rules, sym, ◌∙◌}
use Rattle.std.proofs.lemmas.Iterator.{YieldsList-from_slice}
use Rattle.std.proofs.lemmas.Iterator.Search.{all_from_yields_List}
use Rattle.std.proofs.lemmas.List.Folds.{list_all-map}
use Rattle.session_draft.specs.Written.{written_item}
use Rattle.session_reader.specs.Limits.{of_script, has_needs_that_fit}
use Rattle.session_reader.proofs.limits.client_needs_fit.Goals as goal

pub returns : goal.returns
returns c =
    all_from_yields_List (λ x. (of_script has_needs_that_fit) (written_item x)) _ _ _ c.all.ensures.ran (YieldsList-from_slice c.args.items.now cc) (λ x b q called. search rules)
    ∙ sym (list_all-map (of_script has_needs_that_fit) written_item c.args.items.now)
