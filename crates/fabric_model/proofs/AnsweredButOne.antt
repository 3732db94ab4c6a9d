-- Each client's log has an outcome for each intent but its open one.
use Rattle.std.proofs.Common.{◌≡◌, ℕ, zero, suc, ◌+◌, ◌-◌, ◌<◌, ◌≤◌, ◌==◌, Bool, true, false, List, [], ◌∷◌, nat_le, length, length-append, take, map, get_or, inl, inr, refl, sym, ap, subst, ◌∙◌, arith, if◌then◌else◌}
use Rattle.txn_model.specs.declared.pairs.Pair.{Pair}
use Rattle.txn_model.specs.declared.stamp.Seen.{Seen}
use Rattle.txn_model.specs.declared.stamp.Stamp.{Stamp}
use Rattle.host_store.specs.Store.{seen_at}
use Rattle.switch_packet.specs.Packets.{PlainOutcome}
use Rattle.placement_model.specs.Laws.{AreAnsweredButOne}
use Rattle.placement_model.specs.Placements.{IsAnsweredButOne}
use Rattle.catalogue.specs.Plan.{Plan, PlainItem, items_of}
use Rattle.catalogue.specs.declared.actor.Actor.{Actor}
use Rattle.switch_model.specs.Switch.{desk_at, next_number}
use Rattle.core_model.specs.declared.phase.Phase.{Phase}
use Rattle.core_model.specs.declared.phase.Phase.TheVariants.{Ready, Locking, Aborting, Logged, Waiting, Installing, Finished}
use Rattle.core_model.specs.Asking.{IsAsking}
use Rattle.core_model.specs.Facts.{steps_now}
use Rattle.core_model.specs.Run.{first_clients}
use Rattle.core_model.specs.State.{ClientState, at_item, zero_stamp}
use Rattle.core_model.specs.Step.{aborting, next_item, installed_one}
use Rattle.fabric_model.specs.Intents.{intent_now, with_intent, with_outcome}
use Rattle.fabric_model.specs.Laws.{IsReached}
use Rattle.fabric_model.specs.Recovery.{plain_log, plain_logs, waits_again, resumed}
use Rattle.fabric_model.specs.Run.{opening}
use Rattle.fabric_model.specs.State.{Records, State, client_at, log_at, no_records}
use Rattle.fabric_model.specs.Step.{lost, granted, refused, released, decided, logged, posted, taken, installed, replied}
use Rattle.fabric_model.proofs.MoveKinds.{Move, Loses, Grants, Refuses, Releases, Decides, Logs, Posts, Takes, Installs, Moved, ByClient, AtPort, AtStage, Recovers, move_of}
use Rattle.fabric_model.proofs.PerClient.{EachClient, each_moved, each_still, each_resumed, logs_stay, logs_at_port, logs_at_stage}
use Rattle.fabric_model.proofs.Present.{reply_to, stamp_of, clients_at_port, clients_at_stage}
use Rattle.fabric_model.proofs.Runs.{of_reached}

-- how many open intents a client has in this phase
abbrev pub opens : Phase → ℕ
opens Ready = 0
opens Locking = 0
opens Aborting = 0
opens Logged = 1
opens Waiting = 1
opens Installing = 0
opens Finished = 0

-- the log has as many outcomes as intents, but for the open one, and a client that locks has a lock
pub record IsCounted (x : ClientState) (log : Records) : Type 0 where
  pub open_ones : length log.intents ≡ length log.outcomes + opens x.phase
  pub locks : x.phase ≡ Locking → 1 ≤ length x.noted

abbrev AreCounted : State → Type 0
AreCounted s = EachClient (λ d y l. IsCounted y l) s

-- a client behind an item or a try
next_counted : (plan : Plan) (c : ℕ) (x : ClientState) (log : Records) → length log.intents ≡ length log.outcomes → IsCounted (next_item plan c x) log
next_counted plan c x log same = by (nat_le (x.seq + 1) (length (items_of plan c)))
  where
    by : (b : Bool) → IsCounted (record { phase = if b then Ready else Finished; seq = x.seq + 1; refused = 0; noted = []; installed = 0; last = x.last; reply = [] }) log
    by true = record { open_ones = omega (arith, same); locks = λ e. absurd (clash e) }
      where
        clash : Ready ≡ Locking → ⊥
        clash e = cc
    by false = record { open_ones = omega (arith, same); locks = λ e. absurd (clash e) }
      where
        clash : Finished ≡ Locking → ⊥
        clash e = cc

aborting_counted : (plan : Plan) (c : ℕ) (x : ClientState) (front : List Seen) (log : Records) → length log.intents ≡ length log.outcomes → IsCounted (aborting plan c x front) log
aborting_counted plan c x (seen ∷ others) log same = record { open_ones = omega (arith, same); locks = λ e. absurd (clash e) }
  where
    clash : Aborting ≡ Locking → ⊥
    clash e = cc
aborting_counted plan c x [] log same = by (x.refused + 1 == plan.tries)
  where
    clash : Ready ≡ Locking → ⊥
    clash e = cc

    by : (b : Bool) → IsCounted (if b then next_item plan c x else record { phase = Ready; seq = x.seq; refused = x.refused + 1; noted = []; installed = 0; last = x.last; reply = [] }) log
    by true = next_counted plan c x log same
    by false = record { open_ones = omega (arith, same); locks = λ e. absurd (clash e) }

asking_none : (x : ClientState) → IsAsking x → opens x.phase ≡ 0
asking_none x (inl is) = ap opens is
asking_none x (inr is) = ap opens is

-- a client in a phase without locks to ask for
settled : (x : ClientState) (log : Records) (p : Phase) → x.phase ≡ p → (p ≡ Locking → ⊥) → length log.intents ≡ length log.outcomes + opens p → IsCounted x log
settled x log p is other count = record { open_ones = count ∙ ap (λ (q : Phase). length log.outcomes + opens q) (sym is); locks = λ e. absurd (other (sym is ∙ e)) }

replied_counted : (plan : Plan) (c : ℕ) (x : ClientState) (stamp : Stamp) (reply : List Pair) (log : Records) → length log.intents ≡ length log.outcomes → IsCounted (replied plan c x stamp reply) log
replied_counted plan c x stamp reply log same = by (length x.noted == 0)
  where
    clash : Installing ≡ Locking → ⊥
    clash e = cc

    by : (b : Bool) → IsCounted (if b then next_item plan c (record x { phase = Installing; last = stamp; reply = reply }) else record x { phase = Installing; last = stamp; reply = reply }) log
    by true = next_counted plan c (record x { phase = Installing; last = stamp; reply = reply }) log same
    by false = record { open_ones = omega (arith, same); locks = λ e. absurd (clash e) }

installed_counted : (plan : Plan) (c : ℕ) (x : ClientState) (all : ℕ) (log : Records) → x.phase ≡ Installing → IsCounted x log → IsCounted (installed_one plan c x all) log
installed_counted plan c x all log phase counted = by (x.installed + 1 == all)
  where
    clash : Installing ≡ Locking → ⊥
    clash e = cc

    same : length log.intents ≡ length log.outcomes
    same = omega (arith, counted.open_ones, ap opens phase)

    by : (b : Bool) → IsCounted (if b then next_item plan c x else record x { installed = x.installed + 1 }) log
    by true = next_counted plan c x log same
    by false = record { open_ones = counted.open_ones; locks = λ e. absurd (clash (sym phase ∙ e)) }

module _ (plan : Plan) (s : State) (c : ℕ) (lt : c < length s.clients) (as_many : length s.logs ≡ length s.clients) (all : AreCounted s) where
  abbrev x : ClientState
  x = client_at s c

  abbrev log : Records
  log = log_at s c

  closed : (p : Phase) → x.phase ≡ p → opens p ≡ 0 → length log.intents ≡ length log.outcomes
  closed p is none = omega (arith, (all c).open_ones, ap opens is, none)

  counted_moved : (after : State) → Move plan s c after → AreCounted after
  unfolding lost granted refused released decided logged posted taken installed
  counted_moved after (Loses now phase item up is) =
      each_moved (λ d y l. IsCounted y l) s after c (next_item plan c x) log lt as_many (ap (λ (z : State). z.clients) is) (inl (ap (λ (z : State). z.logs) is, refl)) (λ d n. all d) (next_counted plan c x log (closed Ready phase refl))
  counted_moved after (Grants op asks next free is) =
      each_moved (λ d y l. IsCounted y l) s after c _ log lt as_many (ap (λ (z : State). z.clients) is) (inl (ap (λ (z : State). z.logs) is, refl)) (λ d n. all d)
      (record { open_ones = omega (arith, (all c).open_ones, asking_none x asks); locks = λ e. omega (arith, length-append x.noted (seen_at s.store op.tuple ∷ [])) })
  counted_moved after (Refuses op by asks next held is) =
      each_moved (λ d y l. IsCounted y l) s after c (aborting plan c x x.noted) log lt as_many (ap (λ (z : State). z.clients) is) (inl (ap (λ (z : State). z.logs) is, refl)) (λ d n. all d)
      (aborting_counted plan c x x.noted log (omega (arith, (all c).open_ones, asking_none x asks)))
  counted_moved after (Releases phase is) =
      let front = take (length x.noted - 1) x.noted in
      each_moved (λ d y l. IsCounted y l) s after c (aborting plan c x front) log lt as_many (ap (λ (z : State). z.clients) is) (inl (ap (λ (z : State). z.logs) is, refl)) (λ d n. all d) (aborting_counted plan c x front log (closed Aborting phase refl))
  counted_moved after (Decides asks next cold some is) =
      each_moved (λ d y l. IsCounted y l) s after c _ log lt as_many (ap (λ (z : State). z.clients) is) (inl (ap (λ (z : State). z.logs) is, refl)) (λ d n. all d)
      (settled _ log Installing refl (λ e. cc) (omega (arith, (all c).open_ones, asking_none x asks)))
  counted_moved after (Logs asks next hot is) =
      each_moved (λ d y l. IsCounted y l) s after c _ (with_intent (intent_now plan c x) log) lt as_many (ap (λ (z : State). z.clients) is) (inr (ap (λ (z : State). z.logs) is)) (λ d n. all d)
      (settled _ (with_intent (intent_now plan c x) log) Logged refl (λ e. cc) (omega (arith, (all c).open_ones, asking_none x asks, length-append log.intents (intent_now plan c x ∷ []))))
  counted_moved after (Posts now next phase up to is) =
      each_moved (λ d y l. IsCounted y l) s after c _ log lt as_many (ap (λ (z : State). z.clients) is) (inl (ap (λ (z : State). z.logs) is, refl)) (λ d n. all d)
      (settled _ log Waiting refl (λ e. cc) (omega (arith, (all c).open_ones, ap opens phase)))
  counted_moved after (Takes now next answer phase up has to is) =
      let outcome : PlainOutcome = record { seq = x.seq; number = answer.number; pairs = answer.pairs } in
      each_moved (λ d y l. IsCounted y l) s after c (replied plan c x (stamp_of answer) (reply_to plan c x answer)) (with_outcome outcome log) lt as_many (ap (λ (z : State). z.clients) is) (inr (ap (λ (z : State). z.logs) is)) (λ d n. all d)
      (replied_counted plan c x (stamp_of answer) (reply_to plan c x answer) (with_outcome outcome log) (omega (arith, (all c).open_ones, ap opens phase, length-append log.outcomes (outcome ∷ []))))
  counted_moved after (Installs p phase at is) =
      each_moved (λ d y l. IsCounted y l) s after c (installed_one plan c x (length (steps_now plan c x))) log lt as_many (ap (λ (z : State). z.clients) is) (inl (ap (λ (z : State). z.logs) is, refl)) (λ d n. all d)
      (installed_counted plan c x (length (steps_now plan c x)) log phase (all c))

resumed_counted : (x : ClientState) (log : Records) → IsCounted x log → IsCounted (resumed x) log
resumed_counted x log counted = by x.phase counted.open_ones counted.locks
  where
    by : (p : Phase) → length log.intents ≡ length log.outcomes + opens p → (p ≡ Locking → 1 ≤ length x.noted) → IsCounted (record x { phase = waits_again p }) log
    by Ready count locks = record { open_ones = count; locks = locks }
    by Locking count locks = record { open_ones = count; locks = locks }
    by Aborting count locks = record { open_ones = count; locks = locks }
    by Logged count locks = record { open_ones = count; locks = λ e. absurd (clash e) }
      where
        clash : Waiting ≡ Locking → ⊥
        clash e = cc
    by Waiting count locks = record { open_ones = count; locks = locks }
    by Installing count locks = record { open_ones = count; locks = locks }
    by Finished count locks = record { open_ones = count; locks = locks }

counted_step : (plan : Plan) (s after : State) (actor : Actor) → IsReached plan s → AreCounted s → Moved plan s after actor → AreCounted after
counted_step plan s after actor reached all (ByClient c within move) = counted_moved plan s c within (logs_stay plan s reached) all after move
counted_step plan s after actor reached all (AtPort c now next up to is) =
    each_still (λ d y l. IsCounted y l) s after (ap (λ (z : State). z.clients) is ∙ clients_at_port s c (desk_at now c) (next_number now) next) (ap (λ (z : State). z.logs) is ∙ logs_at_port s c (desk_at now c) (next_number now) next) all
counted_step plan s after actor reached all (AtStage k now next up to is) =
    each_still (λ d y l. IsCounted y l) s after (ap (λ (z : State). z.clients) is ∙ clients_at_stage s next) (ap (λ (z : State). z.logs) is ∙ logs_at_stage s next) all
counted_step plan s after actor reached all (Recovers order down found is) =
    each_resumed plan (λ d y l. IsCounted y l) s after order is (λ d counted. resumed_counted (client_at s d) (log_at s d) counted) all

counted_at_opening : (plan : Plan) → AreCounted (opening plan)
unfolding opening
counted_at_opening plan c = subst (IsCounted (get_or (first_clients plan.clients) c (at_item 0 1 zero_stamp))) (sym (log_none plan.clients c)) (first plan.clients c)
  where
    log_none : (lists : List (List PlainItem)) (d : ℕ) → get_or (map (λ items. no_records) lists) d no_records ≡ no_records
    log_none [] d = refl
    log_none (items ∷ lists) zero = refl
    log_none (items ∷ lists) (suc d) = log_none lists d

    one : (b : Bool) → IsCounted (record { phase = if b then Ready else Finished; seq = 1; refused = 0; noted = []; installed = 0; last = zero_stamp; reply = [] }) no_records
    one true = settled _ no_records Ready refl (λ e. cc) (omega arith)
    one false = settled _ no_records Finished refl (λ e. cc) (omega arith)

    first : (lists : List (List PlainItem)) (d : ℕ) → IsCounted (get_or (first_clients lists) d (at_item 0 1 zero_stamp)) no_records
    first [] d = one false
    first (items ∷ lists) zero = one (nat_le 1 (length items))
    first (items ∷ lists) (suc d) = first lists d

pub counted_of : (plan : Plan) (s : State) → IsReached plan s → (c : ℕ) → IsCounted (client_at s c) (log_at s c)
counted_of plan s reached = of_reached plan AreCounted (counted_at_opening plan) (λ z next actor r all is. counted_step plan z next actor r all (move_of plan z actor next is)) s reached

-- so each log has at most one intent without an outcome
opens_few : (p : Phase) → opens p ≤ 1
opens_few Ready = omega arith
opens_few Locking = omega arith
opens_few Aborting = omega arith
opens_few Logged = omega arith
opens_few Waiting = omega arith
opens_few Installing = omega arith
opens_few Finished = omega arith

but_one : (x : ClientState) (log : Records) → IsCounted x log → IsAnsweredButOne (plain_log log)
but_one x log counted = record { most = omega (arith, counted.open_ones); least = omega (arith, counted.open_ones, opens_few x.phase) }

each_log : (logs : List Records) → ((c : ℕ) → IsAnsweredButOne (plain_log (get_or logs c no_records))) → AreAnsweredButOne (plain_logs logs)
each_log [] all = tt
each_log (records ∷ logs) all = (all 0, each_log logs (λ c. all (suc c)))

pub answered_but_one : (plan : Plan) (s : State) → IsReached plan s → AreAnsweredButOne (plain_logs s.logs)
answered_but_one plan s reached = each_log s.logs (λ c. but_one (client_at s c) (log_at s c) (counted_of plan s reached c))
