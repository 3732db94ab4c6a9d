use Rattle.session_draft.specs.Sections.{is_shape_name}
use Rattle.session_draft.proofs.JsonLists.{keys_pass}
use Rattle.session_draft.proofs.section.is_shape.Goals as goal

pub returns-in-Some : goal.returns-in-Some
returns-in-Some c = keys_pass is_shape_name _ _ _ c.names_sizes.ensures c.in-Some.ensures
