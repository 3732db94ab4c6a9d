-- What holds of the value and of the text of each sound session.
use Rattle.std.specs.Prelude.{◌≡◌, Ok}
use Rattle.catalogue.specs.Plan.{Plan}
use Rattle.catalogue.specs.Sound.{IsSound}
use Rattle.session_draft.specs.Draft.{draft_of, draft_of_bytes}
use Rattle.session_reader.specs.SessionOf.{session_of}
use Rattle.session_text.specs.SessionData.{data_of}
use Rattle.session_text.specs.AsWritten.{written_of}
use Rattle.session_text.specs.Canonical.{canonical, text_line}
use Rattle.session_text.specs.Typed.{IsTyped}

-- the value of a sound session is read as the draft that the session is
abbrev pub ValueReadsBack : Type 0
ValueReadsBack = (plan : Plan) → IsSound plan → IsTyped plan → draft_of (data_of plan) ≡ Ok (written_of plan)

-- so is its canonical text
abbrev pub TextReadsBack : Type 0
TextReadsBack = (plan : Plan) → IsSound plan → IsTyped plan → draft_of_bytes (canonical plan) ≡ Ok (written_of plan)

-- and that text, read as a session, is the session itself
abbrev pub SessionsReadBack : Type 0
SessionsReadBack = (plan : Plan) → IsSound plan → IsTyped plan → session_of (canonical plan) ≡ Ok plan

-- so is that text with a newline behind it
abbrev pub LinesReadBack : Type 0
LinesReadBack = (plan : Plan) → IsSound plan → IsTyped plan → session_of (text_line plan) ≡ Ok plan
