use Rattle.session_draft.specs.Written.{written}
use Rattle.session_reader.proofs.SoundText.{answer_is_sound}
use Rattle.session_reader.proofs.session.read_session.Goals as goal

pub returns-clause-sound : goal.returns-clause-sound
returns-clause-sound c = answer_is_sound (written c.in_ok-draft.draft) c.checked.result c.in_ok-draft.draft.ascending c.checked.ensures
