-- The canonical text of a sound session, as a line, is read as that session.
use Rattle.std.proofs.Common.{◌≡◌, Ok}
use Rattle.catalogue.specs.Plan.{Plan}
use Rattle.catalogue.specs.Sound.{IsSound}
use Rattle.session_reader.specs.SessionOf.{session_of}
use Rattle.session_text.specs.Canonical.{text_line}
use Rattle.session_text.specs.Typed.{IsTyped}
use Rattle.session_text.proofs.SessionBack.{session_back}
use Rattle.session_text.proofs.SessionJson.{text_line_read}
use Rattle.session_text.proofs.WholeReadsBack.{draft_read}

pub line_back : (plan : Plan) → IsSound plan → IsTyped plan → session_of (text_line plan) ≡ Ok plan
line_back plan sound typed = session_back plan (text_line plan) sound (draft_read plan (text_line plan) (text_line_read plan sound typed) sound typed)
