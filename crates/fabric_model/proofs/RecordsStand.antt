-- No move changes a record, or takes it away.
use Rattle.std.proofs.Common.{◌≡◌, ℕ, ◌<◌, List, [], ◌∷◌, append-nil, length, set, get_or, Some, inl, inr, refl, sym, ap, subst, ◌∙◌, arith}
use Rattle.switch_packet.specs.Packets.{PlainIntent, PlainOutcome}
use Rattle.switch_model.specs.Switch.{desk_at, next_number}
use Rattle.catalogue.specs.Plan.{Plan}
use Rattle.catalogue.specs.declared.actor.Actor.{Actor}
use Rattle.core_model.proofs.Fewer.{same_or_not}
use Rattle.fabric_model.specs.Intents.{intent_now, with_intent, with_outcome}
use Rattle.fabric_model.specs.Laws.{IsReached}
use Rattle.fabric_model.specs.Recorded.{IsLonger}
use Rattle.fabric_model.specs.State.{Records, State, client_at, log_at, no_records}
use Rattle.fabric_model.specs.Step.{lost, granted, refused, released, decided, logged, posted, taken, installed, step}
use Rattle.fabric_model.proofs.MoveKinds.{Move, Loses, Grants, Refuses, Releases, Decides, Logs, Posts, Takes, Installs, Moved, ByClient, AtPort, AtStage, Recovers, move_of}
use Rattle.fabric_model.proofs.PerClient.{log_now, log_then, logs_stay, logs_at_port, logs_at_stage, logs_recovered}

none_longer : (log : Records) → IsLonger log log
none_longer log = record { intents = []; outcomes = []; more_intents = sym (append-nil log.intents); more_outcomes = sym (append-nil log.outcomes) }

same_longer : (s after : State) (d : ℕ) → after.logs ≡ s.logs → IsLonger (log_at s d) (log_at after d)
same_longer s after d same = subst (λ (l : List Records). IsLonger (log_at s d) (get_or l d no_records)) (sym same) (none_longer (log_at s d))

one_longer : (s after : State) (c : ℕ) (log : Records) (d : ℕ) → c < length s.logs → after.logs ≡ set s.logs c log → IsLonger (log_at s c) log → IsLonger (log_at s d) (log_at after d)
one_longer s after c log d lt is longer = elim (same_or_not d c) [
  | inl e ↦ subst (λ (n : ℕ). IsLonger (log_at s n) (log_at after n)) (sym e) (subst (IsLonger (log_at s c)) (sym (log_now s after c log lt (inr is))) longer)
  | inr n ↦ subst (IsLonger (log_at s d)) (sym (log_then s after c log d (inr is) n)) (none_longer (log_at s d))
]

intent_longer : (log : Records) (intent : PlainIntent) → IsLonger log (with_intent intent log)
intent_longer log intent = record { intents = intent ∷ []; outcomes = []; more_intents = refl; more_outcomes = sym (append-nil log.outcomes) }

outcome_longer : (log : Records) (outcome : PlainOutcome) → IsLonger log (with_outcome outcome log)
outcome_longer log outcome = record { intents = []; outcomes = outcome ∷ []; more_intents = sym (append-nil log.intents); more_outcomes = refl }

longer_moved : (plan : Plan) (s : State) (c : ℕ) (after : State) (d : ℕ) → c < length s.logs → Move plan s c after → IsLonger (log_at s d) (log_at after d)
unfolding lost granted refused released decided logged posted taken installed
longer_moved plan s c after d lt (Loses now phase item up is) = same_longer s after d (ap (λ (z : State). z.logs) is)
longer_moved plan s c after d lt (Grants op asks next free is) = same_longer s after d (ap (λ (z : State). z.logs) is)
longer_moved plan s c after d lt (Refuses op by asks next held is) = same_longer s after d (ap (λ (z : State). z.logs) is)
longer_moved plan s c after d lt (Releases phase is) = same_longer s after d (ap (λ (z : State). z.logs) is)
longer_moved plan s c after d lt (Decides asks next cold some is) = same_longer s after d (ap (λ (z : State). z.logs) is)
longer_moved plan s c after d lt (Logs asks next hot is) = one_longer s after c _ d lt (ap (λ (z : State). z.logs) is) (intent_longer (log_at s c) (intent_now plan c (client_at s c)))
longer_moved plan s c after d lt (Posts now next phase up to is) = same_longer s after d (ap (λ (z : State). z.logs) is)
longer_moved plan s c after d lt (Takes now next answer phase up has to is) = one_longer s after c _ d lt (ap (λ (z : State). z.logs) is) (outcome_longer (log_at s c) (record { seq = (client_at s c).seq; number = answer.number; pairs = answer.pairs }))
longer_moved plan s c after d lt (Installs p phase at is) = same_longer s after d (ap (λ (z : State). z.logs) is)

longer_step : (plan : Plan) (s after : State) (actor : Actor) (d : ℕ) → length s.logs ≡ length s.clients → Moved plan s after actor → IsLonger (log_at s d) (log_at after d)
longer_step plan s after actor d as_many (ByClient c within move) = longer_moved plan s c after d (omega (arith, within, as_many)) move
longer_step plan s after actor d as_many (AtPort c now next up to is) = same_longer s after d (ap (λ (z : State). z.logs) is ∙ logs_at_port s c (desk_at now c) (next_number now) next)
longer_step plan s after actor d as_many (AtStage x now next up to is) = same_longer s after d (ap (λ (z : State). z.logs) is ∙ logs_at_stage s next)
longer_step plan s after actor d as_many (Recovers order down found is) = same_longer s after d (ap (λ (z : State). z.logs) is ∙ logs_recovered plan s order)

pub records_stay : (plan : Plan) (s after : State) (actor : Actor) → IsReached plan s → step plan s actor ≡ Some after → (c : ℕ) → IsLonger (log_at s c) (log_at after c)
records_stay plan s after actor reached is c = longer_step plan s after actor c (logs_stay plan s reached) (move_of plan s actor after is)
