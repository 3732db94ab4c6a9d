use Rattle.std.proofs.Common.{rules, sym, ◌∙◌}
use Rattle.std.specs.List.{list_all}
use Rattle.std.proofs.lemmas.Iterator.{YieldsList-from_slice}
use Rattle.std.proofs.lemmas.Iterator.Search.{all_from_yields_List}
use Rattle.std.proofs.lemmas.List.Folds.{list_all-map}
use Rattle.session_draft.specs.Written.{written_items}
use Rattle.session_reader.specs.Limits.{of_script, has_needs_that_fit}
use Rattle.session_reader.proofs.limits.needs_fit.Goals as goal

pub returns : goal.returns
returns c =
    all_from_yields_List (λ x. (list_all (of_script has_needs_that_fit)) (written_items x)) _ _ _ c.all.ensures.ran (YieldsList-from_slice c.args.clients.now cc) (λ x b q called. search rules)
    ∙ sym (list_all-map (list_all (of_script has_needs_that_fit)) written_items c.args.clients.now)
