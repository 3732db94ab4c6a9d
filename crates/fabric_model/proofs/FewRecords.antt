-- A client has no more records than items.
use Rattle.std.proofs.Common.{◌≡◌, ◌≢◌, ℕ, zero, suc, ◌+◌, ◌-◌, ◌<◌, ◌≤◌, ◌==◌, Bool, true, false, List, [], ◌∷◌, ◌++◌, length, length-append, take, map, get_or, inl, inr, refl, sym, ap, subst, ◌∙◌, arith, if◌then◌else◌}
use Rattle.txn_model.specs.declared.pairs.Pair.{Pair}
use Rattle.txn_model.specs.declared.stamp.Stamp.{Stamp}
use Rattle.switch_packet.specs.Packets.{PlainOutcome}
use Rattle.catalogue.specs.Plan.{Plan, PlainItem, items_of}
use Rattle.catalogue.specs.declared.actor.Actor.{Actor}
use Rattle.switch_model.specs.Switch.{desk_at, next_number}
use Rattle.core_model.specs.declared.phase.Phase.{Phase}
use Rattle.core_model.specs.declared.phase.Phase.TheVariants.{Ready, Locking, Aborting, Logged, Waiting, Installing, Finished}
use Rattle.core_model.specs.Asking.{IsAsking}
use Rattle.core_model.specs.Facts.{steps_now}
use Rattle.core_model.specs.Run.{first_clients}
use Rattle.core_model.specs.State.{ClientState, at_item, zero_stamp}
use Rattle.core_model.specs.Step.{aborting, next_item, installed_one}
use Rattle.core_model.proofs.Stuck.{IsPresent, asking_open}
use Rattle.fabric_model.specs.Intents.{intent_now, with_intent, with_outcome}
use Rattle.fabric_model.specs.Laws.{IsReached}
use Rattle.fabric_model.specs.Recovery.{waits_again, resumed}
use Rattle.fabric_model.specs.Run.{opening}
use Rattle.fabric_model.specs.State.{Records, State, client_at, log_at, no_records}
use Rattle.fabric_model.specs.Step.{lost, granted, refused, released, decided, logged, posted, taken, installed, replied}
use Rattle.fabric_model.proofs.MoveKinds.{Move, Loses, Grants, Refuses, Releases, Decides, Logs, Posts, Takes, Installs, Moved, ByClient, AtPort, AtStage, Recovers, move_of}
use Rattle.fabric_model.proofs.PerClient.{EachClient, each_moved, each_still, each_resumed, logs_stay, logs_at_port, logs_at_stage, GoesOn, on_aborting}
use Rattle.fabric_model.proofs.Present.{reply_to, stamp_of, clients_at_port, clients_at_stage, present_of}
use Rattle.fabric_model.proofs.Runs.{of_reached}

-- whether the client's present item has an intent, and an outcome, at most
abbrev in_intents : Phase → ℕ
in_intents Ready = 0
in_intents Locking = 0
in_intents Aborting = 0
in_intents Logged = 1
in_intents Waiting = 1
in_intents Installing = 1
in_intents Finished = 0

abbrev in_outcomes : Phase → ℕ
in_outcomes Ready = 0
in_outcomes Locking = 0
in_outcomes Aborting = 0
in_outcomes Logged = 0
in_outcomes Waiting = 0
in_outcomes Installing = 1
in_outcomes Finished = 0

record IsFew (plan : Plan) (c : ℕ) (x : ClientState) (log : Records) : Type 0 where
  pub within : x.seq ≤ length (items_of plan c) + 1
  pub intents : length log.intents + 1 ≤ x.seq + in_intents x.phase
  pub outcomes : length log.outcomes + 1 ≤ x.seq + in_outcomes x.phase

asking_few : (x : ClientState) → IsAsking x → (in_intents x.phase ≡ 0) × (in_outcomes x.phase ≡ 0)
asking_few x (inl is) = (ap in_intents is, ap in_outcomes is)
asking_few x (inr is) = (ap in_intents is, ap in_outcomes is)

-- a client that had none of its present item
none_few : (plan : Plan) (c : ℕ) (x y : ClientState) (log : Records) → (in_intents x.phase ≡ 0) × (in_outcomes x.phase ≡ 0) → x.seq ≤ length (items_of plan c) → GoesOn x.seq y.seq → IsFew plan c x log → IsFew plan c y log
none_few plan c x y log none low on few = record { within = omega (arith, on.1, low); intents = omega (arith, few.intents, none.0, on.0); outcomes = omega (arith, few.outcomes, none.1, on.0) }

-- a client at its next item
next_few : (plan : Plan) (c : ℕ) (x y : ClientState) (log : Records) → x.seq ≤ length (items_of plan c) → length log.intents + 1 ≤ x.seq + 1 → length log.outcomes + 1 ≤ x.seq + 1 → y.seq ≡ x.seq + 1 → IsFew plan c y log
next_few plan c x y log low intents outcomes next = record { within = omega (arith, low, next); intents = omega (arith, intents, next); outcomes = omega (arith, outcomes, next) }

installed_few : (plan : Plan) (c : ℕ) (x : ClientState) (all : ℕ) (log : Records) → x.phase ≡ Installing → x.seq ≤ length (items_of plan c) → IsFew plan c x log → IsFew plan c (installed_one plan c x all) log
installed_few plan c x all log phase low few = by (x.installed + 1 == all)
  where
    by : (b : Bool) → IsFew plan c (if b then next_item plan c x else record x { installed = x.installed + 1 }) log
    by true = next_few plan c x (next_item plan c x) log low (omega (arith, few.intents, ap in_intents phase)) (omega (arith, few.outcomes, ap in_outcomes phase)) refl
    by false = record { within = few.within; intents = few.intents; outcomes = few.outcomes }

replied_few : (plan : Plan) (c : ℕ) (x : ClientState) (stamp : Stamp) (reply : List Pair) (log : Records) (outcome : PlainOutcome) → x.phase ≡ Waiting → x.seq ≤ length (items_of plan c) → IsFew plan c x log
    → IsFew plan c (replied plan c x stamp reply) (with_outcome outcome log)
replied_few plan c x stamp reply log outcome phase low few = by (length x.noted == 0)
  where
    intents : length log.intents + 1 ≤ x.seq + 1
    intents = omega (arith, few.intents, ap in_intents phase)

    outcomes : length (log.outcomes ++ outcome ∷ []) + 1 ≤ x.seq + 1
    outcomes = omega (arith, few.outcomes, ap in_outcomes phase, length-append log.outcomes (outcome ∷ []))

    by : (b : Bool) → IsFew plan c (if b then next_item plan c (record x { phase = Installing; last = stamp; reply = reply }) else record x { phase = Installing; last = stamp; reply = reply }) (with_outcome outcome log)
    by true = next_few plan c x (next_item plan c (record x { phase = Installing; last = stamp; reply = reply })) (with_outcome outcome log) low intents outcomes refl
    by false = record { within = few.within; intents = intents; outcomes = outcomes }

module _ (plan : Plan) (s : State) (c : ℕ) (lt : c < length s.clients) (as_many : length s.logs ≡ length s.clients) (here : IsPresent plan c (client_at s c)) (all : EachClient (λ d x log. IsFew plan d x log) s) where
  abbrev x : ClientState
  x = client_at s c

  abbrev log : Records
  log = log_at s c

  low : x.phase ≢ Finished → x.seq ≤ length (items_of plan c)
  low n = (here n).1

  abbrev still : GoesOn x.seq x.seq
  still = (omega arith, omega arith)

  few_moved : (after : State) → Move plan s c after → EachClient (λ d y l. IsFew plan d y l) after
  unfolding lost granted refused released decided logged posted taken installed
  few_moved after (Loses now phase item up is) =
      each_moved (λ d y l. IsFew plan d y l) s after c (next_item plan c x) log lt as_many (ap (λ (z : State). z.clients) is) (inl (ap (λ (z : State). z.logs) is, refl)) (λ d n. all d)
      (none_few plan c x (next_item plan c x) log (ap in_intents phase, ap in_outcomes phase) (low (λ f. let clash : Ready ≡ Finished = sym phase ∙ f in cc)) (omega arith, omega arith) (all c))
  few_moved after (Grants op asks next free is) =
      each_moved (λ d y l. IsFew plan d y l) s after c _ log lt as_many (ap (λ (z : State). z.clients) is) (inl (ap (λ (z : State). z.logs) is, refl)) (λ d n. all d) (none_few plan c x _ log (asking_few x asks) (low (asking_open x asks)) still (all c))
  few_moved after (Refuses op by asks next held is) =
      each_moved (λ d y l. IsFew plan d y l) s after c (aborting plan c x x.noted) log lt as_many (ap (λ (z : State). z.clients) is) (inl (ap (λ (z : State). z.logs) is, refl)) (λ d n. all d)
      (none_few plan c x (aborting plan c x x.noted) log (asking_few x asks) (low (asking_open x asks)) (on_aborting plan c x x.noted) (all c))
  few_moved after (Releases phase is) =
      let front = take (length x.noted - 1) x.noted in
      each_moved (λ d y l. IsFew plan d y l) s after c (aborting plan c x front) log lt as_many (ap (λ (z : State). z.clients) is) (inl (ap (λ (z : State). z.logs) is, refl)) (λ d n. all d)
      (none_few plan c x (aborting plan c x front) log (ap in_intents phase, ap in_outcomes phase) (low (λ f. let clash : Aborting ≡ Finished = sym phase ∙ f in cc)) (on_aborting plan c x front) (all c))
  few_moved after (Decides asks next cold some is) =
      each_moved (λ d y l. IsFew plan d y l) s after c _ log lt as_many (ap (λ (z : State). z.clients) is) (inl (ap (λ (z : State). z.logs) is, refl)) (λ d n. all d) (none_few plan c x _ log (asking_few x asks) (low (asking_open x asks)) still (all c))
  few_moved after (Logs asks next hot is) =
      each_moved (λ d y l. IsFew plan d y l) s after c _ (with_intent (intent_now plan c x) log) lt as_many (ap (λ (z : State). z.clients) is) (inr (ap (λ (z : State). z.logs) is)) (λ d n. all d)
      (record { within = (all c).within; intents = omega (arith, (all c).intents, (asking_few x asks).0, length-append log.intents (intent_now plan c x ∷ [])); outcomes = omega (arith, (all c).outcomes, (asking_few x asks).1) })
  few_moved after (Posts now next phase up to is) =
      each_moved (λ d y l. IsFew plan d y l) s after c _ log lt as_many (ap (λ (z : State). z.clients) is) (inl (ap (λ (z : State). z.logs) is, refl)) (λ d n. all d)
      (record { within = (all c).within; intents = omega (arith, (all c).intents, ap in_intents phase); outcomes = omega (arith, (all c).outcomes, ap in_outcomes phase) })
  few_moved after (Takes now next answer phase up has to is) =
      let outcome : PlainOutcome = record { seq = x.seq; number = answer.number; pairs = answer.pairs } in
      each_moved (λ d y l. IsFew plan d y l) s after c (replied plan c x (stamp_of answer) (reply_to plan c x answer)) (with_outcome outcome log) lt as_many (ap (λ (z : State). z.clients) is) (inr (ap (λ (z : State). z.logs) is)) (λ d n. all d)
      (replied_few plan c x (stamp_of answer) (reply_to plan c x answer) log outcome phase (low (λ f. let clash : Waiting ≡ Finished = sym phase ∙ f in cc)) (all c))
  few_moved after (Installs p phase at is) =
      each_moved (λ d y l. IsFew plan d y l) s after c (installed_one plan c x (length (steps_now plan c x))) log lt as_many (ap (λ (z : State). z.clients) is) (inl (ap (λ (z : State). z.logs) is, refl)) (λ d n. all d)
      (installed_few plan c x (length (steps_now plan c x)) log phase (low (λ f. let clash : Installing ≡ Finished = sym phase ∙ f in cc)) (all c))

-- a client that waits again has as many records
resumed_few : (plan : Plan) (c : ℕ) (x : ClientState) (log : Records) → IsFew plan c x log → IsFew plan c (resumed x) log
resumed_few plan c x log few = record { within = few.within; intents = omega (arith, few.intents, same_intents x.phase); outcomes = omega (arith, few.outcomes, same_outcomes x.phase) }
  where
    same_intents : (p : Phase) → in_intents (waits_again p) ≡ in_intents p
    same_intents Ready = refl
    same_intents Locking = refl
    same_intents Aborting = refl
    same_intents Logged = refl
    same_intents Waiting = refl
    same_intents Installing = refl
    same_intents Finished = refl

    same_outcomes : (p : Phase) → in_outcomes (waits_again p) ≡ in_outcomes p
    same_outcomes Ready = refl
    same_outcomes Locking = refl
    same_outcomes Aborting = refl
    same_outcomes Logged = refl
    same_outcomes Waiting = refl
    same_outcomes Installing = refl
    same_outcomes Finished = refl

few_step : (plan : Plan) (s after : State) (actor : Actor) → IsReached plan s → EachClient (λ d x log. IsFew plan d x log) s → Moved plan s after actor → EachClient (λ d x log. IsFew plan d x log) after
few_step plan s after actor reached all (ByClient c within move) = few_moved plan s c within (logs_stay plan s reached) (present_of plan s reached c) all after move
few_step plan s after actor reached all (AtPort c now next up to is) =
    each_still (λ d x log. IsFew plan d x log) s after (ap (λ (z : State). z.clients) is ∙ clients_at_port s c (desk_at now c) (next_number now) next) (ap (λ (z : State). z.logs) is ∙ logs_at_port s c (desk_at now c) (next_number now) next) all
few_step plan s after actor reached all (AtStage k now next up to is) =
    each_still (λ d x log. IsFew plan d x log) s after (ap (λ (z : State). z.clients) is ∙ clients_at_stage s next) (ap (λ (z : State). z.logs) is ∙ logs_at_stage s next) all
few_step plan s after actor reached all (Recovers order down found is) = each_resumed plan (λ d x log. IsFew plan d x log) s after order is (λ d few. resumed_few plan d (client_at s d) (log_at s d) few) all

few_at_opening : (plan : Plan) → EachClient (λ d x log. IsFew plan d x log) (opening plan)
unfolding opening
few_at_opening plan c = first plan.clients plan.clients c
  where
    log_none : (lists : List (List PlainItem)) (d : ℕ) → get_or (map (λ items. no_records) lists) d no_records ≡ no_records
    log_none [] d = refl
    log_none (items ∷ lists) zero = refl
    log_none (items ∷ lists) (suc d) = log_none lists d

    first_seq : (lists : List (List PlainItem)) (d : ℕ) → (get_or (first_clients lists) d (at_item 0 1 zero_stamp)).seq ≡ 1
    first_seq [] d = refl
    first_seq (items ∷ lists) zero = refl
    first_seq (items ∷ lists) (suc d) = first_seq lists d

    few_none : (x : ClientState) → x.seq ≡ 1 → IsFew plan c x no_records
    few_none x one = record { within = omega (arith, one); intents = omega (arith, one); outcomes = omega (arith, one) }

    first : (lists more : List (List PlainItem)) (d : ℕ) → IsFew plan c (get_or (first_clients lists) d (at_item 0 1 zero_stamp)) (get_or (map (λ items. no_records) more) d no_records)
    first lists more d = subst (IsFew plan c (get_or (first_clients lists) d (at_item 0 1 zero_stamp))) (sym (log_none more d)) (few_none (get_or (first_clients lists) d (at_item 0 1 zero_stamp)) (first_seq lists d))

few_of : (plan : Plan) (s : State) → IsReached plan s → EachClient (λ d x log. IsFew plan d x log) s
few_of plan s reached = of_reached plan (EachClient (λ d x log. IsFew plan d x log)) (few_at_opening plan) (λ z next actor r all is. few_step plan z next actor r all (move_of plan z actor next is)) s reached

-- clients are at an item, or behind their last one
pub seq_within : (plan : Plan) (s : State) (c : ℕ) → IsReached plan s → (client_at s c).seq ≤ length (items_of plan c) + 1
seq_within plan s c reached = (few_of plan s reached c).within

seq_few : (plan : Plan) (c : ℕ) (n : ℕ) (x : ClientState) → x.seq ≤ length (items_of plan c) + 1 → (x.phase ≡ Finished → n + 1 ≤ x.seq) → (x.phase ≢ Finished → x.seq ≤ length (items_of plan c)) → n + 1 ≤ x.seq + 1 → n ≤ length (items_of plan c)
seq_few plan c n x within finished active most = by x.phase refl
  where
    still : x.seq ≤ length (items_of plan c) → n ≤ length (items_of plan c)
    still le = omega (arith, le, most)

    by : (p : Phase) → x.phase ≡ p → n ≤ length (items_of plan c)
    by Ready is = still (active (λ f. let clash : Ready ≡ Finished = sym is ∙ f in cc))
    by Locking is = still (active (λ f. let clash : Locking ≡ Finished = sym is ∙ f in cc))
    by Aborting is = still (active (λ f. let clash : Aborting ≡ Finished = sym is ∙ f in cc))
    by Logged is = still (active (λ f. let clash : Logged ≡ Finished = sym is ∙ f in cc))
    by Waiting is = still (active (λ f. let clash : Waiting ≡ Finished = sym is ∙ f in cc))
    by Installing is = still (active (λ f. let clash : Installing ≡ Finished = sym is ∙ f in cc))
    by Finished is = omega (arith, finished is, within)

in_intents_few : (p : Phase) → in_intents p ≤ 1
in_intents_few Ready = omega arith
in_intents_few Locking = omega arith
in_intents_few Aborting = omega arith
in_intents_few Logged = omega arith
in_intents_few Waiting = omega arith
in_intents_few Installing = omega arith
in_intents_few Finished = omega arith

in_outcomes_few : (p : Phase) → in_outcomes p ≤ 1
in_outcomes_few Ready = omega arith
in_outcomes_few Locking = omega arith
in_outcomes_few Aborting = omega arith
in_outcomes_few Logged = omega arith
in_outcomes_few Waiting = omega arith
in_outcomes_few Installing = omega arith
in_outcomes_few Finished = omega arith

pub few_records : (plan : Plan) (s : State) (c : ℕ) → IsReached plan s → (length (log_at s c).intents ≤ length (items_of plan c)) × (length (log_at s c).outcomes ≤ length (items_of plan c))
few_records plan s c reached =
    let few = few_of plan s reached c in
    let x = client_at s c in
    let within = few.within in
    let active : x.phase ≢ Finished → x.seq ≤ length (items_of plan c) = λ n. (present_of plan s reached c n).1 in (
      seq_few plan c (length (log_at s c).intents) x within (λ is. omega (arith, few.intents, ap in_intents is)) active (omega (arith, few.intents, in_intents_few x.phase)),
      seq_few plan c (length (log_at s c).outcomes) x within (λ is. omega (arith, few.outcomes, ap in_outcomes is)) active (omega (arith, few.outcomes, in_outcomes_few x.phase)),
    )
