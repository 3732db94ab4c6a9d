-- Where the clients of a run stand among their items.
use Rattle.std.proofs.Common.{◌≡◌, ℕ, zero, suc, ◌+◌, ◌-◌, ◌<◌, ◌≤◌, ◌==◌, nat_le, Bool, true, false, List, [], ◌∷◌, length, take, get_or, inl, inr, refl, sym, ap, subst, ◌∙◌, arith, if◌then◌else◌}
use Rattle.std.proofs.lemmas.Bool.Decides.{nat_tests}
use Rattle.txn_model.specs.declared.pairs.Pair.{Pair}
use Rattle.txn_model.specs.declared.stamp.Seen.{Seen}
use Rattle.txn_model.specs.declared.stamp.Stamp.{Stamp}
use Rattle.catalogue.specs.Plan.{Plan, PlainItem, items_of}
use Rattle.catalogue.specs.declared.actor.Actor.{Actor}
use Rattle.switch_model.specs.Switch.{desk_at, next_number}
use Rattle.core_model.specs.declared.phase.Phase.{Phase}
use Rattle.core_model.specs.declared.phase.Phase.TheVariants.{Ready, Locking, Aborting, Logged, Waiting, Installing, Finished}
use Rattle.core_model.specs.Facts.{steps_now}
use Rattle.core_model.specs.Run.{first_clients}
use Rattle.core_model.specs.State.{ClientState, at_item, zero_stamp}
use Rattle.core_model.specs.Step.{aborting, try_ended, next_item, installed_one}
use Rattle.fabric_model.specs.Intents.{intent_now, with_intent, with_outcome}
use Rattle.fabric_model.specs.Laws.{IsReached}
use Rattle.fabric_model.specs.Recovery.{waits_again, resumed}
use Rattle.fabric_model.specs.Run.{opening}
use Rattle.fabric_model.specs.State.{State, client_at, log_at}
use Rattle.fabric_model.specs.Step.{lost, granted, refused, released, decided, logged, posted, taken, installed, replied}
use Rattle.fabric_model.proofs.MoveKinds.{Move, Loses, Grants, Refuses, Releases, Decides, Logs, Posts, Takes, Installs, Moved, ByClient, AtPort, AtStage, Recovers, move_of}
use Rattle.fabric_model.proofs.PerClient.{EachClient, each_moved, each_still, each_resumed, logs_stay, logs_at_port, logs_at_stage}
use Rattle.fabric_model.proofs.Present.{reply_to, stamp_of, clients_at_port, clients_at_stage}
use Rattle.fabric_model.proofs.Runs.{of_reached}

-- a client is at an item from 1 on, and behind them all where it has finished
pub record IsPlaced (plan : Plan) (c : ℕ) (x : ClientState) : Type 0 where
  pub one : 1 ≤ x.seq
  pub behind : x.phase ≡ Finished → length (items_of plan c) < x.seq

placed_at : (plan : Plan) (c seq : ℕ) (x : ClientState) → 1 ≤ seq → IsPlaced plan c (at_item (length (items_of plan c)) seq x.last)
placed_at plan c seq x one = record { one = one; behind = by (nat_le seq (length (items_of plan c))) refl }
  where
    beyond : (a b : ℕ) → nat_le a b ≡ false → b < a
    beyond a b t = grind (arith, nat_tests)

    by : (b : Bool) → nat_le seq (length (items_of plan c)) ≡ b → (if b then Ready else Finished) ≡ Finished → length (items_of plan c) < seq
    by true is e = cc
    by false is e = beyond seq (length (items_of plan c)) is

placed_again : (plan : Plan) (c : ℕ) (x : ClientState) → 1 ≤ x.seq → IsPlaced plan c (try_ended plan c x)
placed_again plan c x one = by (x.refused + 1 == plan.tries)
  where
    by : (b : Bool) → IsPlaced plan c (if b then next_item plan c x else record { phase = Ready; seq = x.seq; refused = x.refused + 1; noted = []; installed = 0; last = x.last; reply = [] })
    by true = placed_at plan c (x.seq + 1) x (omega arith)
    by false = record { one = one; behind = λ e. cc }

placed_aborting : (plan : Plan) (c : ℕ) (x : ClientState) (front : List Seen) → 1 ≤ x.seq → IsPlaced plan c (aborting plan c x front)
placed_aborting plan c x [] one = placed_again plan c x one
placed_aborting plan c x (seen ∷ others) one = record { one = one; behind = λ e. cc }

placed_installed : (plan : Plan) (c : ℕ) (x : ClientState) (all : ℕ) → IsPlaced plan c x → IsPlaced plan c (installed_one plan c x all)
placed_installed plan c x all here = by (x.installed + 1 == all)
  where
    by : (b : Bool) → IsPlaced plan c (if b then next_item plan c x else record x { installed = x.installed + 1 })
    by true = placed_at plan c (x.seq + 1) x (omega arith)
    by false = record { one = here.one; behind = here.behind }

placed_replied : (plan : Plan) (c : ℕ) (x : ClientState) (stamp : Stamp) (reply : List Pair) → 1 ≤ x.seq → IsPlaced plan c (replied plan c x stamp reply)
placed_replied plan c x stamp reply one = by (length x.noted == 0)
  where
    by : (b : Bool) → IsPlaced plan c (if b then next_item plan c (record x { phase = Installing; last = stamp; reply = reply }) else record x { phase = Installing; last = stamp; reply = reply })
    by true = placed_at plan c (x.seq + 1) (record x { phase = Installing; last = stamp; reply = reply }) (omega arith)
    by false = record { one = one; behind = λ e. cc }

abbrev AllPlaced : Plan → State → Type 0
AllPlaced plan s = EachClient (λ c x log. IsPlaced plan c x) s

module _ (plan : Plan) (s : State) (c : ℕ) (lt : c < length s.clients) (as_many : length s.logs ≡ length s.clients) (all : AllPlaced plan s) where
  abbrev x : ClientState
  x = client_at s c

  placed_moved : (after : State) → Move plan s c after → AllPlaced plan after
  unfolding lost granted refused released decided logged posted taken installed
  placed_moved after (Loses now phase item up is) =
      each_moved (λ d y l. IsPlaced plan d y) s after c (next_item plan c x) (log_at s c) lt as_many (ap (λ (z : State). z.clients) is) (inl (ap (λ (z : State). z.logs) is, refl)) (λ d n. all d) (placed_at plan c (x.seq + 1) x (omega arith))
  placed_moved after (Grants op asks next free is) =
      each_moved (λ d y l. IsPlaced plan d y) s after c _ (log_at s c) lt as_many (ap (λ (z : State). z.clients) is) (inl (ap (λ (z : State). z.logs) is, refl)) (λ d n. all d) (record { one = (all c).one; behind = λ e. cc })
  placed_moved after (Refuses op by asks next held is) =
      each_moved (λ d y l. IsPlaced plan d y) s after c (aborting plan c x x.noted) (log_at s c) lt as_many (ap (λ (z : State). z.clients) is) (inl (ap (λ (z : State). z.logs) is, refl)) (λ d n. all d) (placed_aborting plan c x x.noted (all c).one)
  placed_moved after (Releases phase is) =
      let front = take (length x.noted - 1) x.noted in
      each_moved (λ d y l. IsPlaced plan d y) s after c (aborting plan c x front) (log_at s c) lt as_many (ap (λ (z : State). z.clients) is) (inl (ap (λ (z : State). z.logs) is, refl)) (λ d n. all d) (placed_aborting plan c x front (all c).one)
  placed_moved after (Decides asks next cold some is) =
      each_moved (λ d y l. IsPlaced plan d y) s after c _ (log_at s c) lt as_many (ap (λ (z : State). z.clients) is) (inl (ap (λ (z : State). z.logs) is, refl)) (λ d n. all d) (record { one = (all c).one; behind = λ e. cc })
  placed_moved after (Logs asks next hot is) =
      each_moved (λ d y l. IsPlaced plan d y) s after c _ (with_intent (intent_now plan c x) (log_at s c)) lt as_many (ap (λ (z : State). z.clients) is) (inr (ap (λ (z : State). z.logs) is)) (λ d n. all d) (record { one = (all c).one; behind = λ e. cc })
  placed_moved after (Posts now next phase up to is) =
      each_moved (λ d y l. IsPlaced plan d y) s after c _ (log_at s c) lt as_many (ap (λ (z : State). z.clients) is) (inl (ap (λ (z : State). z.logs) is, refl)) (λ d n. all d) (record { one = (all c).one; behind = λ e. cc })
  placed_moved after (Takes now next answer phase up has to is) =
      each_moved (λ d y l. IsPlaced plan d y) s after c (replied plan c x (stamp_of answer) (reply_to plan c x answer)) (with_outcome (record { seq = x.seq; number = answer.number; pairs = answer.pairs }) (log_at s c)) lt as_many
      (ap (λ (z : State). z.clients) is) (inr (ap (λ (z : State). z.logs) is)) (λ d n. all d) (placed_replied plan c x (stamp_of answer) (reply_to plan c x answer) (all c).one)
  placed_moved after (Installs p phase at is) =
      each_moved (λ d y l. IsPlaced plan d y) s after c (installed_one plan c x (length (steps_now plan c x))) (log_at s c) lt as_many (ap (λ (z : State). z.clients) is) (inl (ap (λ (z : State). z.logs) is, refl)) (λ d n. all d)
      (placed_installed plan c x (length (steps_now plan c x)) (all c))

-- a client that waits again behind a recovery
placed_resumed : (plan : Plan) (c : ℕ) (x : ClientState) → IsPlaced plan c x → IsPlaced plan c (resumed x)
placed_resumed plan c x here = record { one = here.one; behind = λ e. here.behind (finished x.phase e) }
  where
    finished : (p : Phase) → waits_again p ≡ Finished → p ≡ Finished
    finished Ready e = cc
    finished Locking e = cc
    finished Aborting e = cc
    finished Logged e = cc
    finished Waiting e = cc
    finished Installing e = cc
    finished Finished e = refl

placed_step : (plan : Plan) (s after : State) (actor : Actor) → IsReached plan s → AllPlaced plan s → Moved plan s after actor → AllPlaced plan after
placed_step plan s after actor reached all (ByClient c within move) = placed_moved plan s c within (logs_stay plan s reached) all after move
placed_step plan s after actor reached all (AtPort c now next up to is) =
    each_still (λ d x log. IsPlaced plan d x) s after (ap (λ (z : State). z.clients) is ∙ clients_at_port s c (desk_at now c) (next_number now) next) (ap (λ (z : State). z.logs) is ∙ logs_at_port s c (desk_at now c) (next_number now) next) all
placed_step plan s after actor reached all (AtStage k now next up to is) =
    each_still (λ d x log. IsPlaced plan d x) s after (ap (λ (z : State). z.clients) is ∙ clients_at_stage s next) (ap (λ (z : State). z.logs) is ∙ logs_at_stage s next) all
placed_step plan s after actor reached all (Recovers order down found is) = each_resumed plan (λ d x log. IsPlaced plan d x) s after order is (λ d here. placed_resumed plan d (client_at s d) here) all

placed_at_opening : (plan : Plan) → AllPlaced plan (opening plan)
unfolding opening
placed_at_opening plan c = first plan.clients c refl
  where
    -- the client's items are those at its place
    first : (lists : List (List PlainItem)) (d : ℕ) → get_or lists d [] ≡ items_of plan c → IsPlaced plan c (get_or (first_clients lists) d (at_item 0 1 zero_stamp))
    first [] d is = record { one = omega arith; behind = λ _. omega (arith, ap length is) }
    first (items ∷ lists) zero is = subst (λ (l : List PlainItem). IsPlaced plan c (at_item (length l) 1 zero_stamp)) (sym is) (placed_at plan c 1 (at_item 0 1 zero_stamp) (omega arith))
    first (items ∷ lists) (suc d) is = first lists d is

pub are_placed : (plan : Plan) (s : State) → IsReached plan s → (c : ℕ) → IsPlaced plan c (client_at s c)
are_placed plan s reached =
    of_reached plan (AllPlaced plan) (placed_at_opening plan) (λ z next actor r all is. placed_step plan z next actor r all (move_of plan z actor next is)) s reached
