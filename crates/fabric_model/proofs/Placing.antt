-- The clients' logs have a placement at any time, each of them makes a legal history, and recovery takes the first one.
use Rattle.std.proofs.Common.{◌≡◌, ℕ, ◌+◌, ◌≤◌, List, [], ◌∷◌, length, Option, Some, None, IsSome, refl, ap, subst, ◌∙◌, arith}
use Rattle.std.proofs.lemmas.List.{length-map}
use Rattle.txn_model.specs.Places.{Places}
use Rattle.txn_model.proofs.SerialLaws.{item_of_all}
use Rattle.history_model.specs.History.{HistoryEntry, History, IsInStampOrder}
use Rattle.history_model.specs.Legal.{IsLegal}
use Rattle.placement_model.specs.Placements.{Task, IsPlacement, packets_of, tasks_of}
use Rattle.switch_packet.specs.Packets.{PlainPacket, PlainIntent, PlainOutcome}
use Rattle.switch_packet.specs.Replay.{replay_all}
use Rattle.switch_model.specs.Flight.{Flight}
use Rattle.switch_model.specs.Switch.{Switch, Desk, entered, next_number, restored}
use Rattle.switch_model.proofs.Starts.{entered-restored}
use Rattle.catalogue.specs.Plan.{Plan, script_at, hot_cells}
use Rattle.catalogue.specs.declared.actor.Actor.TheVariants.{Recover}
use Rattle.fabric_model.specs.Holds.{HostFacts, Holds, HoldsNow, WhileUp, WhileLost}
use Rattle.fabric_model.specs.Laws.{IsReached, HasEntry, AnswersStand}
use Rattle.fabric_model.specs.Placed.{HasPlacements, IsRecovered}
use Rattle.fabric_model.specs.Recorded.{AreAnswers, IsTold}
use Rattle.fabric_model.specs.Recovery.{plain_logs, desks_from, filled}
use Rattle.fabric_model.specs.State.{State, client_at, log_at, answered_ones}
use Rattle.fabric_model.specs.Step.{recovered, step}
use Rattle.fabric_model.proofs.Fitting.{packets_fit}
use Rattle.fabric_model.proofs.Keeping.{known_of, first_is_first}
use Rattle.fabric_model.proofs.Legal.{stands, holds_up, legal_now}
use Rattle.fabric_model.proofs.Losing.{kept_answered, all_are_answered, answered_facts, order_up, enough_up}
use Rattle.fabric_model.proofs.MoveKinds.{Moved, Recovers, move_of}
use Rattle.fabric_model.proofs.PerClient.{logs_stay}
use Rattle.fabric_model.proofs.Recovering.{recovered_holds}
use Rattle.fabric_model.proofs.Resumed.{open_within}
use Rattle.fabric_model.proofs.Runs.{reached_step}
use Rattle.fabric_model.proofs.Stand.{all_stand, ones_stand}
use Rattle.fabric_model.proofs.Tasks.{KnownLog}
use Rattle.fabric_model.proofs.TiesKept.{host_facts}

-- ---- what a loss would leave

none_up : {now : Switch} → None ≡ Some now → ⊥
none_up e = cc

answers_left : (plan : Plan) (h new : History) (switch : Option Switch) (c : ℕ) (intents : List PlainIntent) (outcomes : List PlainOutcome) → AnswersStand h new → AreAnswers plan h switch c intents outcomes → AreAnswers plan new None c intents outcomes
answers_left plan h new switch c [] [] stand all = tt
answers_left plan h new switch c [] (o ∷ os) stand all = all
answers_left plan h new switch c (i ∷ is) [] stand all = all
answers_left plan h new switch c (i ∷ is) (o ∷ os) stand all = (
  record {
    seq = all.0.seq;
    above = all.0.above;
    hot = all.0.hot;
    values = all.0.values;
    packet = all.0.packet;
    entry = item_of_all (λ (f : HistoryEntry). IsSome f.pairs → HasEntry new f) h all.0.entry.0 _ stand all.0.entry.1 refl;
    place = all.0.place;
    number = all.0.number;
    there = λ now up. absurd (none_up up);
  },
  answers_left plan h new switch c is os stand all.1,
)

known_left : (plan : Plan) (s : State) → ((d : ℕ) → KnownLog plan (client_at s) s.history s.switch d (log_at s d)) → (d : ℕ) → KnownLog plan (client_at s) (answered_ones s.history) None d (log_at s d)
known_left plan s known d =
    let k = known d in
    record {
      answered = k.answered;
      intents = k.intents;
      outcomes = answers_left plan s.history (answered_ones s.history) s.switch d k.answered (log_at s d).outcomes (all_stand s.history (answered_ones s.history) (ones_stand s.history)) k.outcomes;
      ascending = k.ascending;
      told = kept_answered (IsTold d (log_at s d).outcomes) s.history k.told;
    }

-- the state with the switch lost
left_state : State → State
left_state s = record s { switch = None; history = answered_ones s.history }

record Left (plan : Plan) (s : State) : Type 0 where
  pub most : ℕ
  pub facts : HostFacts plan most (client_at s) s.store s.history
  pub covers : most ≤ length (tasks_of (plain_logs s.logs))
  pub order : List Task
  pub placed : IsPlacement (plain_logs s.logs) (hot_cells plan) order

left_of : (plan : Plan) (s : State) → ((d : ℕ) → KnownLog plan (client_at s) s.history s.switch d (log_at s d)) → length s.logs ≡ length s.clients → HoldsNow plan s → Left plan s
left_of plan s known as_many (WhileUp h) =
    let o = order_up plan s h known as_many in
    record {
      most = length (entered h.now);
      facts = host_facts plan (client_at s) s.store s.history _ (entered h.now) h.ties;
      covers = enough_up plan s h known as_many;
      order = o.0;
      placed = o.1;
    }
left_of plan s known as_many (WhileLost h) = record { most = length (tasks_of (plain_logs s.logs)); facts = h.facts; covers = omega arith; order = h.order; placed = h.placed }

module _ (plan : Plan) (s : State) (reached : IsReached plan s) where
  known : (d : ℕ) → KnownLog plan (client_at s) s.history s.switch d (log_at s d)
  known = known_of plan s (stands plan s reached).kept

  as_many : length s.logs ≡ length s.clients
  as_many = logs_stay plan s reached

  left : Left plan s
  left = left_of plan s known as_many (stands plan s reached).now

  rebuilt_holds : (order : List Task) → IsPlacement (plain_logs s.logs) (hot_cells plan) order → Holds plan (recovered plan (left_state s) order)
  unfolding left_state
  rebuilt_holds order placed =
      recovered_holds plan reached.sound (packets_fit plan reached.sound) (left_state s) left.most (answered_facts plan left.most (client_at s) s.store s.history left.facts) (all_are_answered s.history)
      (known_left plan s known) as_many (λ c opens. open_within s.clients c opens) left.covers order placed

  rebuilt_history : (order : List Task) → (recovered plan (left_state s) order).history ≡ filled order (answered_ones s.history)
  unfolding recovered left_state
  rebuilt_history order = refl

  pub has_placements : HasPlacements plan s
  has_placements = record {
    order = left.order;
    placed = left.placed;
    sorted = λ order placed. subst IsInStampOrder (rebuilt_history order) (legal_now plan (recovered plan (left_state s) order) reached.sound (rebuilt_holds order placed)).sorted;
    legal = λ order placed. subst (IsLegal (script_at plan) plan.tuples) (rebuilt_history order) (legal_now plan (recovered plan (left_state s) order) reached.sound (rebuilt_holds order placed)).legal;
  }

-- ---- recovery

history_behind : (plan : Plan) (s : State) (order : List Task) → (recovered plan s order).history ≡ filled order s.history
unfolding recovered
history_behind plan s order = refl

switch_behind : (plan : Plan) (s : State) (order : List Task) → (recovered plan s order).switch ≡ Some (restored (hot_cells plan) (packets_of order) (desks_from order 0 (length s.clients)))
unfolding recovered
switch_behind plan s order = refl

registers_of : (first : Places) (packets : List PlainPacket) (desks : List Desk) → (restored first packets desks).registers ≡ (replay_all packets first).after
unfolding restored
registers_of first packets desks = refl

number_of : (first : Places) (order : List Task) (desks : List Desk) → next_number (restored first (packets_of order) desks) ≡ length order + 1
number_of first order desks =
    let now = restored first (packets_of order) desks in
    omega (arith, length-map now.flights (λ (f : Flight). f.packet), ap length (entered-restored first (packets_of order) desks), length-map order (λ (t : Task). t.intent.packet))

pub is_recovered : (plan : Plan) (s next : State) → IsReached plan s → step plan s Recover ≡ Some next → IsRecovered plan s next
is_recovered plan s next reached is = by (move_of plan s Recover next is)
  where
    by : Moved plan s next Recover → IsRecovered plan s next
    by (Recovers order down found same) =
        let now = restored (hot_cells plan) (packets_of order) (desks_from order 0 (length s.clients)) in
        let up : next.switch ≡ Some now = ap (λ (z : State). z.switch) same ∙ switch_behind plan s order in
        record {
          order = order;
          first = first_is_first plan s reached order found;
          is = same;
          history = ap (λ (z : State). z.history) same ∙ history_behind plan s order;
          now = now;
          up = up;
          registers = registers_of (hot_cells plan) (packets_of order) (desks_from order 0 (length s.clients));
          number = number_of (hot_cells plan) order (desks_from order 0 (length s.clients));
          legal = (legal_now plan next reached.sound (holds_up plan next (reached_step plan s next Recover reached is) now up)).legal;
        }
