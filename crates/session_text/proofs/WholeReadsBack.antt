-- A whole session, written and read.
use Rattle.std.proofs.Common.{◌≡◌, ℕ, List, Some, Ok, refl, arith}
use Rattle.catalogue.specs.Plan.{Plan}
use Rattle.catalogue.specs.Sound.{IsSound}
use Rattle.session_draft.specs.Draft.{draft_of, draft_of_bytes}
use Rattle.session_draft.specs.Json.{json_of}
use Rattle.session_text.specs.SessionData.{data_of}
use Rattle.session_text.specs.AsWritten.{written_of}
use Rattle.session_text.specs.Typed.{IsTyped}
use Rattle.session_text.proofs.ReadsBack.{natural_read, clients_read, layout_read, tuples_read, shape_read}
use Rattle.session_text.proofs.SoundItems.{sound_items}

pub session_read : (plan : Plan) → IsSound plan → IsTyped plan → draft_of (data_of plan) ≡ Ok (written_of plan)
unfolding draft_of
session_read plan sound typed =
    let clients = clients_read plan.clients (sound_items plan sound.items typed.clients) in
    rw
    (shape_read plan.shape typed.shape, tuples_read plan.tuples typed.tuples, layout_read plan.layout typed.layout, natural_read 255 plan.tries (omega (arith, typed.tries)) (omega arith), clients) refl

-- bytes that are read as the value of a sound session are read as its draft
pub draft_read : (plan : Plan) (bytes : List ℕ) → json_of bytes ≡ Some (data_of plan) → IsSound plan → IsTyped plan → draft_of_bytes bytes ≡ Ok (written_of plan)
draft_read plan bytes json sound typed = rw json (session_read plan sound typed)
