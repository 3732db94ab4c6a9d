-- The outcomes of the logs stay answers behind a recovery: their packets have entered again as their numbers.
use Rattle.std.proofs.Common.{◌≡◌, ◌⊎◌, ℕ, zero, suc, ◌+◌, ◌<◌, List, [], ◌∷◌, ◌++◌, length, get_or, slice_get, Option, Some, IsSome, inl, inr, refl, sym, ap, subst, ◌∙◌, arith}
use Rattle.txn_model.specs.Places.{Places}
use Rattle.txn_model.proofs.SerialLaws.{item_of_all}
use Rattle.history_model.specs.History.{HistoryEntry, History}
use Rattle.placement_model.specs.Placements.{Task, HasAnswer, CanFollow, IsPlacement, packets_of, tasks_from, tasks_behind, tasks_of}
use Rattle.switch_packet.specs.Packets.{PlainPacket, PlainIntent, PlainOutcome}
use Rattle.switch_packet.specs.Replay.{replay, replay_all}
use Rattle.switch_model.specs.Switch.{Switch, Desk, entered, restored}
use Rattle.switch_model.proofs.Starts.{entered-restored}
use Rattle.catalogue.specs.Plan.{Plan, hot_cells}
use Rattle.fabric_model.specs.Laws.{HasEntry, AnswersStand}
use Rattle.fabric_model.specs.Recorded.{IsAnswer, AreAnswers}
use Rattle.fabric_model.specs.Recovery.{plain_logs}
use Rattle.fabric_model.specs.State.{Records, no_records}
use Rattle.fabric_model.proofs.Among.{In, at_in, in_left, in_right, in_permutation}
use Rattle.fabric_model.proofs.Assembled.{answer_place}

from_some : {T : Type 0} {a b : T} → Some a ≡ Some b → a ≡ b
from_some e = cc

-- the packet of a task has its place, and its replay there the outcome's pairs
packet_there : (order : List Task) (k : ℕ) (t : Task) → slice_get order k ≡ Some t → slice_get (packets_of order) k ≡ Some t.intent.packet
packet_there [] k t e = cc
packet_there (s ∷ order) zero t e = ap (λ (x : Task). Some x.intent.packet) (from_some e)
packet_there (s ∷ order) (suc k) t e = packet_there order k t e

replayed_there : (number : ℕ) (m : Places) (order : List Task) (k : ℕ) (t : Task) (o : PlainOutcome) → CanFollow number m order → slice_get order k ≡ Some t → t.outcome ≡ Some o → slice_get (replay_all (packets_of order) m).pairs k ≡ Some o.pairs
unfolding replay_all
replayed_there number m [] k t o can e is = cc
replayed_there number m (s ∷ order) zero t o can e is =
    let same : s ≡ t = from_some e in
    ap Some (sym (subst (λ (x : Option PlainOutcome). HasAnswer x number (replay s.intent.packet m).pairs) (ap (λ (x : Task). x.outcome) same ∙ is) can.0.answer).1)
replayed_there number m (s ∷ order) (suc k) t o can e is = replayed_there (number + 1) (replay s.intent.packet m).after order k t o can.1 e is

in_behind : (logs : List Records) (k c : ℕ) (t : Task) → c < length logs → In t (tasks_from (k + c) 0 (get_or logs c no_records).intents (get_or logs c no_records).outcomes) → In t (tasks_behind k (plain_logs logs))
in_behind [] k c t lt i = absurd (omega arith)
in_behind (log ∷ logs) k zero t lt i =
    let same : k + 0 ≡ k = omega arith in
    in_left (tasks_from k 0 log.intents log.outcomes) (tasks_behind (k + 1) (plain_logs logs)) t (subst (λ (d : ℕ). In t (tasks_from d 0 log.intents log.outcomes)) same i)
in_behind (log ∷ logs) k (suc c) t lt i =
    let next : k + suc c ≡ (k + 1) + c = omega arith in
    in_right (tasks_from k 0 log.intents log.outcomes) (tasks_behind (k + 1) (plain_logs logs)) t
    (in_behind logs (k + 1) c t (omega arith) (subst (λ (d : ℕ). In t (tasks_from d 0 (get_or logs c no_records).intents (get_or logs c no_records).outcomes)) next i))

past : (logs : List Records) (c : ℕ) → (c < length logs) ⊎ (get_or logs c no_records ≡ no_records)
past [] c = inr refl
past (log ∷ logs) zero = inl (omega arith)
past (log ∷ logs) (suc c) = elim (past logs c) [ inl lt ↦ inl (omega (arith, lt)) | inr e ↦ inr e ]

module _ (plan : Plan) (h new : History) (before : Option Switch) (logs : List Records) (order : List Task) (placed : IsPlacement (plain_logs logs) (hot_cells plan) order) (desks : List Desk) (c : ℕ) where
  abbrev log : Records
  log = get_or logs c no_records

  abbrev now : Switch
  now = restored (hot_cells plan) (packets_of order) desks

  one : (j : ℕ) (intent : PlainIntent) (o : PlainOutcome) → AnswersStand h new → In (record { client = c; index = j; intent = intent; outcome = Some o }) (tasks_of (plain_logs logs)) → IsAnswer plan h before c intent o → IsAnswer plan new (Some now) c intent o
  one j intent o stand i a =
      let t : Task = record { client = c; index = j; intent = intent; outcome = Some o } in
      let place = at_in order t (in_permutation (tasks_of (plain_logs logs)) order t placed.all i) in
      let number = answer_place 1 (hot_cells plan) order place.0 t o placed.follows place.1 refl in
      let same : a.place ≡ place.0 = omega (arith, number, a.number) in
      record {
        seq = a.seq;
        above = a.above;
        hot = a.hot;
        values = a.values;
        packet = a.packet;
        entry = item_of_all (λ (f : HistoryEntry). IsSome f.pairs → HasEntry new f) h a.entry.0 _ stand a.entry.1 refl;
        place = a.place;
        number = a.number;
        there = λ other up.
            let here : other ≡ now = from_some (sym up) in
            let packets : entered other ≡ packets_of order = ap entered here ∙ entered-restored (hot_cells plan) (packets_of order) desks in (
              ap (λ (l : List PlainPacket). slice_get l a.place) packets ∙ ap (slice_get (packets_of order)) same ∙ packet_there order place.0 t place.1,
              ap (λ (l : List PlainPacket). slice_get (replay_all l (hot_cells plan)).pairs a.place) packets ∙ ap (slice_get (replay_all (packets_of order) (hot_cells plan)).pairs) same
                  ∙ replayed_there 1 (hot_cells plan) order place.0 t o placed.follows place.1 refl,
            );
      }

  each : (j : ℕ) (answered more : List PlainIntent) (outcomes : List PlainOutcome) → AnswersStand h new → ((t : Task) → In t (tasks_from c j (answered ++ more) outcomes) → In t (tasks_of (plain_logs logs)))
      → AreAnswers plan h before c answered outcomes → AreAnswers plan new (Some now) c answered outcomes
  each j [] more [] stand within all = tt
  each j [] more (o ∷ os) stand within all = all
  each j (i ∷ rest) more [] stand within all = all
  each j (i ∷ rest) more (o ∷ os) stand within all = (one j i o stand (within (record { client = c; index = j; intent = i; outcome = Some o }) (inl refl)) all.0, each (j + 1) rest more os stand (λ t k. within t (inr k)) all.1)

  nothing : (answered : List PlainIntent) (outcomes : List PlainOutcome) → outcomes ≡ [] → AreAnswers plan h before c answered outcomes → AreAnswers plan new (Some now) c answered outcomes
  nothing [] [] e all = tt
  nothing [] (o ∷ os) e all = all
  nothing (i ∷ rest) [] e all = all
  nothing (i ∷ rest) (o ∷ os) e all = cc

  pub answers_recovered : (answered more : List PlainIntent) → log.intents ≡ answered ++ more → AnswersStand h new → AreAnswers plan h before c answered log.outcomes → AreAnswers plan new (Some now) c answered log.outcomes
  answers_recovered answered more intents stand all = elim (past logs c) [
    | inl lt ↦ each 0 answered more log.outcomes stand
        (λ t i. (let same : c ≡ 0 + c = omega arith in in_behind logs 0 c t lt (subst (λ (d : ℕ). In t (tasks_from d 0 log.intents log.outcomes)) same (subst (λ (l : List PlainIntent). In t (tasks_from c 0 l log.outcomes)) (sym intents) i)))) all
    | inr none ↦ nothing answered log.outcomes (ap (λ (r : Records). r.outcomes) none) all
  ]
