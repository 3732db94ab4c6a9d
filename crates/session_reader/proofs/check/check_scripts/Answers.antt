use Rattle.std.proofs.Common.{sym, ◌∙◌}
use Rattle.session_reader.proofs.ScriptLists.{ready_for_needs, ready_for_turns}
use Rattle.session_reader.proofs.check.check_scripts.Goals as goal

pub first_place-requires-2 : goal.first_place-requires-2
first_place-requires-2 c = ready_for_needs _ c.requires (sym c.first_place.ensures ∙ c.in_default.is)

pub first_place-requires-3 : goal.first_place-requires-3
first_place-requires-3 c = ready_for_turns _ c.requires (sym c.first_place.ensures ∙ c.in_default.is) (sym c.first_place-2.ensures ∙ c.in_default-first_place.is)
