-- The canonical text of a session.
use Rattle.std.specs.Prelude.{ℕ, List, ◌++◌, codes}
use Rattle.serde_json.specs.Written.{compact_text}
use Rattle.catalogue.specs.Plan.{Plan}
use Rattle.session_text.specs.SessionData.{data_of}

-- the text of a session without blanks, with all keys in the order of their bytes
unfoldable pub canonical : Plan → List ℕ
canonical plan = compact_text (data_of plan)

-- that text as a line
abbrev pub text_line : Plan → List ℕ
text_line plan = canonical plan ++ codes "\n"
