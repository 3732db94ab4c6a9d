-- The draft of a sound session is that session.
use Rattle.std.proofs.Common.{◌≡◌, ℕ, List, Ok, ap}
use Rattle.catalogue.specs.Plan.{Plan}
use Rattle.catalogue.specs.Sound.{IsSound}
use Rattle.session_draft.specs.Draft.{draft_of_bytes}
use Rattle.session_reader.specs.SessionOf.{with_schedule, checked, session_of}
use Rattle.session_text.specs.AsWritten.{written_of}
use Rattle.session_text.proofs.LimitsBack.{limits_back}
use Rattle.session_text.proofs.PlanBack.{plan_back}
use Rattle.session_text.proofs.ScheduleBack.{schedule_back}
use Rattle.session_text.proofs.ScriptsBack.{parts_back}

pub checked_back : (plan : Plan) → IsSound plan → checked (written_of plan) ≡ Ok plan
unfolding checked
checked_back plan sound = rw (limits_back plan sound, plan_back plan, parts_back plan sound, schedule_back plan sound) (ap (λ built. Ok (with_schedule built plan.schedule)) (plan_back plan))

-- bytes that are read as the draft of a sound session are read as that session
pub session_back : (plan : Plan) (bytes : List ℕ) → IsSound plan → draft_of_bytes bytes ≡ Ok (written_of plan) → session_of bytes ≡ Ok plan
unfolding session_of
session_back plan bytes sound draft = rw draft (checked_back plan sound)
