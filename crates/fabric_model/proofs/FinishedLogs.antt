-- When all clients have finished, nothing is left unanswered.
use Rattle.std.proofs.Common.{◌≡◌, ◌++◌, List, [], ◌∷◌, append-nil, sym, ap, subst, ◌∙◌, if◌then◌else◌}
use Rattle.switch_packet.specs.Packets.{PlainIntent}
use Rattle.history_model.specs.History.{AllAnswered}
use Rattle.catalogue.specs.Plan.{Plan}
use Rattle.core_model.specs.declared.phase.Phase.{Phase}
use Rattle.fabric_model.specs.Holds.{HoldsNow, WhileUp, WhileLost}
use Rattle.fabric_model.specs.Intents.{intent_now}
use Rattle.fabric_model.specs.Laws.{IsReached, AllFinished}
use Rattle.fabric_model.specs.Recorded.{has_open, AreAnswers, IsAllAnswered}
use Rattle.fabric_model.specs.State.{State, client_at, log_at}
use Rattle.fabric_model.proofs.Legal.{holds_now, records_answer, each_finished, all_answered}

entries_answered : (plan : Plan) (s : State) → IsReached plan s → HoldsNow plan s → AllFinished s → AllAnswered s.history
entries_answered plan s reached (WhileUp h) finished = all_answered plan s reached.sound h finished
entries_answered plan s reached (WhileLost h) finished = h.answered

pub all_is_answered : (plan : Plan) (s : State) → IsReached plan s → AllFinished s → IsAllAnswered plan s
all_is_answered plan s reached finished = record {
  logs = λ c.
      let r = records_answer plan s reached c in
      let x = client_at s c in
      let closed : r.answered ++ (if has_open x.phase then intent_now plan c x ∷ [] else []) ≡ r.answered =
      ap (λ (p : Phase). r.answered ++ (if has_open p then intent_now plan c x ∷ [] else [])) (each_finished s.clients c finished) ∙ append-nil r.answered in
      subst (λ (l : List PlainIntent). AreAnswers plan s.history s.switch c l (log_at s c).outcomes) (sym (r.intents ∙ closed)) r.outcomes;
  entries = entries_answered plan s reached (holds_now plan s reached) finished;
}
