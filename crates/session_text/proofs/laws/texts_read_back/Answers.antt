use Rattle.session_text.specs.Canonical.{canonical}
use Rattle.session_text.proofs.SessionJson.{canonical_read}
use Rattle.session_text.proofs.WholeReadsBack.{draft_read}
use Rattle.session_text.proofs.laws.texts_read_back.Goals as goal

pub returns : goal.returns
returns c = λ plan sound typed. draft_read plan (canonical plan) (canonical_read plan sound typed) sound typed
