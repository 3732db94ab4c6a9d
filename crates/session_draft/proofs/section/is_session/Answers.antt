use Rattle.session_draft.specs.Sections.{is_section_name}
use Rattle.session_draft.proofs.JsonLists.{keys_pass}
use Rattle.session_draft.proofs.section.is_session.Goals as goal

pub returns-in-Some : goal.returns-in-Some
returns-in-Some c = keys_pass is_section_name _ _ _ c.names_sections.ensures c.in-Some.ensures
