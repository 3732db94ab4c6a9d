-- Stamps are small: their subs grow by no more than one with each move, and their numbers are those of packets.
use Rattle.std.proofs.Common.{◌≡◌, ℕ, zero, suc, ◌+◌, ◌-◌, ◌<◌, ◌≤◌, ◌==◌, Bool, true, false, List, [], ◌∷◌, length, take, set, get_or, pos, Option, Some, None, unwrap_or, option_map, ℤ, inl, inr, refl, sym, ap, subst, ◌∙◌, arith, if◌then◌else◌, is_lt}
use Rattle.std.specs.FinMap as fin
use Rattle.std.specs.List.{AllByRecursion}
use Rattle.host_store.specs.Store as stores
use Rattle.host_store.specs.Store.{seen_at, first_seen}
use Rattle.history_model.specs.History.{greater, stamp_cmp}
use Rattle.txn_model.specs.Tuples.{tuple_cmp}
use Rattle.txn_model.specs.declared.op.TupleId.{TupleId}
use Rattle.txn_model.specs.declared.pairs.Pair.{Pair}
use Rattle.txn_model.specs.declared.stamp.Seen.{Seen}
use Rattle.txn_model.specs.declared.stamp.Stamp.{Stamp}
use Rattle.placement_model.specs.Placements.{Task, tasks_of}
use Rattle.switch_model.specs.Switch.{Switch, Desk, Vacant, Posted, Entered, desk_at, entered, next_number}
use Rattle.catalogue.specs.Plan.{Plan, PlainItem}
use Rattle.catalogue.specs.Sound.{item_count}
use Rattle.catalogue.specs.declared.actor.Actor.{Actor}
use Rattle.core_model.specs.declared.phase.Phase.TheVariants.{Ready, Installing}
use Rattle.core_model.specs.Decision.{greatest, decision_stamp}
use Rattle.core_model.specs.Facts.{steps_now}
use Rattle.core_model.specs.Run.{first_clients}
use Rattle.core_model.specs.State.{ClientState, at_item, zero_stamp}
use Rattle.core_model.specs.Step.{aborting, try_ended, next_item, installed_one}
use Rattle.core_model.proofs.Install.{seen_at-insert}
use Rattle.core_model.proofs.Opening.{first_value}
use Rattle.core_model.proofs.StepsOf.{all_append}
use Rattle.fabric_model.specs.Holds.{HoldsNow, WhileUp, WhileLost}
use Rattle.fabric_model.specs.Laws.{IsReached}
use Rattle.fabric_model.specs.Recovery.{plain_logs, resumed}
use Rattle.fabric_model.specs.Room.{IsSmall, FitsRoom}
use Rattle.fabric_model.specs.Run.{opening, host_rows}
use Rattle.fabric_model.specs.State.{State, client_at}
use Rattle.fabric_model.specs.Step.{lost, granted, refused, released, decided, logged, posted, taken, installed, switched, behind_entry, recovered, replied}
use Rattle.fabric_model.specs.Step as fabric
use Rattle.fabric_model.proofs.Either.{FactsOf, facts_up, fits_now}
use Rattle.fabric_model.proofs.FewEntries.{few_entries, few_packets, few_flights, few_tasks}
use Rattle.fabric_model.proofs.FewRecords.{few_records}
use Rattle.fabric_model.proofs.FewRefusals.{few_refusals}
use Rattle.fabric_model.proofs.Legal.{holds_now, holds_up}
use Rattle.fabric_model.proofs.MoveKinds.{Move, Loses, Grants, Refuses, Releases, Decides, Logs, Posts, Takes, Installs, Moved, ByClient, AtPort, AtStage, Recovers, move_of}
use Rattle.fabric_model.proofs.MovesLeft.{moves_bounded}
use Rattle.fabric_model.proofs.PerClient.{client_now, client_then}
use Rattle.fabric_model.proofs.Present.{reply_to, stamp_of, clients_at_port, clients_at_stage, client_recovered}
use Rattle.fabric_model.proofs.Runs.{of_reached, step_is_counted}
use Rattle.core_model.proofs.Fewer.{same_or_not}

-- the stamp's sub is no greater than this
abbrev IsLow : ℕ → Stamp → Type 0
IsLow m stamp = stamp.sub ≤ m

-- a client's stamps
record LowClient (m : ℕ) (x : ClientState) : Type 0 where
  pub last : IsLow m x.last
  pub noted : AllByRecursion (λ seen. IsLow m seen.stamp) x.noted

-- a state's stamps
record Low (s : State) : Type 0 where
  pub clients : (c : ℕ) → LowClient s.moves (client_at s c)
  pub store : (t : TupleId) → IsLow s.moves (seen_at s.store t).stamp

all_later : (m : ℕ) (l : List Seen) → AllByRecursion (λ seen. IsLow m seen.stamp) l → AllByRecursion (λ seen. IsLow (m + 1) seen.stamp) l
all_later m [] all = tt
all_later m (seen ∷ l) all = (omega (arith, all.0), all_later m l all.1)

client_later : (m : ℕ) (x : ClientState) → LowClient m x → LowClient (m + 1) x
client_later m x low = record { last = omega (arith, low.last); noted = all_later m x.noted low.noted }

first_low : (m n : ℕ) (l : List Seen) → AllByRecursion (λ seen. IsLow m seen.stamp) l → AllByRecursion (λ seen. IsLow m seen.stamp) (take n l)
first_low m zero l all = tt
first_low m (suc n) [] all = tt
first_low m (suc n) (seen ∷ l) all = (all.0, first_low m n l all.1)

greater_low : (m : ℕ) (a b : Stamp) → IsLow m a → IsLow m b → IsLow m (greater a b)
greater_low m a b left right = by (is_lt (stamp_cmp a b))
  where
    by : (t : Bool) → IsLow m (if t then b else a)
    by true = right
    by false = left

greatest_low : (m : ℕ) (stamp : Stamp) (l : List Seen) → IsLow m stamp → AllByRecursion (λ seen. IsLow m seen.stamp) l → IsLow m (greatest stamp l)
greatest_low m stamp [] low all = low
greatest_low m stamp (seen ∷ l) low all = greatest_low m (greater stamp seen.stamp) l (greater_low m stamp seen.stamp low all.0) all.1

decision_low : (m : ℕ) (last : Stamp) (noted : List Seen) → IsLow m last → AllByRecursion (λ seen. IsLow m seen.stamp) noted → IsLow (m + 1) (decision_stamp last noted)
decision_low m last noted low all = omega (arith, greatest_low m last noted low all)

try_low : (plan : Plan) (c m : ℕ) (x : ClientState) → IsLow m x.last → LowClient m (try_ended plan c x)
try_low plan c m x low = by (x.refused + 1 == plan.tries)
  where
    by : (b : Bool) → LowClient m (if b then next_item plan c x else record { phase = Ready; seq = x.seq; refused = x.refused + 1; noted = []; installed = 0; last = x.last; reply = [] })
    by true = record { last = low; noted = tt }
    by false = record { last = low; noted = tt }

abort_low : (plan : Plan) (c m : ℕ) (x : ClientState) (front : List Seen) → IsLow m x.last → AllByRecursion (λ seen. IsLow m seen.stamp) front → LowClient m (aborting plan c x front)
abort_low plan c m x [] low all = try_low plan c m x low
abort_low plan c m x (seen ∷ others) low all = record { last = low; noted = all }

install_low : (plan : Plan) (c m : ℕ) (x : ClientState) (all : ℕ) → LowClient m x → LowClient m (installed_one plan c x all)
install_low plan c m x all low = by (x.installed + 1 == all)
  where
    by : (b : Bool) → LowClient m (if b then next_item plan c x else record x { installed = x.installed + 1 })
    by true = record { last = low.last; noted = tt }
    by false = record { last = low.last; noted = low.noted }

replied_low : (plan : Plan) (c m : ℕ) (x : ClientState) (stamp : Stamp) (reply : List Pair) → IsLow m stamp → LowClient m x → LowClient m (replied plan c x stamp reply)
replied_low plan c m x stamp reply here low = by (length x.noted == 0)
  where
    by : (b : Bool) → LowClient m (if b then next_item plan c (record x { phase = Installing; last = stamp; reply = reply }) else record x { phase = Installing; last = stamp; reply = reply })
    by true = record { last = here; noted = tt }
    by false = record { last = here; noted = low.noted }

-- a tuple gets a value
stored_low : (m : ℕ) (store : stores.Store) (k : TupleId) (value : ℤ) (stamp : Stamp) → IsLow m stamp → ((t : TupleId) → IsLow m (seen_at store t).stamp) → (t : TupleId) → IsLow m (seen_at (stores.installed store k value stamp) t).stamp
stored_low m store k value stamp low all t =
    subst (λ (seen : Seen). IsLow m seen.stamp) (sym (seen_at-insert store k seen_now t)) (by (k.0 == t.0))
  where
    seen_now : Seen
    seen_now = record { value = value; stamp = greater (seen_at store k).stamp stamp }

    by : (b : Bool) → IsLow m (if b then record { value = value; stamp = greater (seen_at store k).stamp stamp } else seen_at store t).stamp
    by true = greater_low m (seen_at store k).stamp stamp (all k) low
    by false = all t

-- what a move makes of the client and the store
record StaysLow (s : State) (c : ℕ) (after : State) : Type 0 where
  pub y : ClientState
  pub clients : after.clients ≡ set s.clients c y
  pub low : LowClient (s.moves + 1) y
  pub store : (t : TupleId) → IsLow (s.moves + 1) (seen_at after.store t).stamp

store_later : (s after : State) → Low s → after.store ≡ s.store → (t : TupleId) → IsLow (s.moves + 1) (seen_at after.store t).stamp
store_later s after low same = subst (λ (m : stores.Store). (t : TupleId) → IsLow (s.moves + 1) (seen_at m t).stamp) (sym same) (λ t. omega (arith, low.store t))

stays_low : (plan : Plan) (s : State) (c : ℕ) (after : State) → Low s → Move plan s c after → StaysLow s c after
unfolding lost granted refused released decided logged posted taken installed
stays_low plan s c after low (Loses now phase item up is) =
    let x = client_later s.moves (client_at s c) (low.clients c) in
    record { y = next_item plan c (client_at s c); clients = ap (λ (z : State). z.clients) is; low = record { last = x.last; noted = tt }; store = store_later s after low (ap (λ (z : State). z.store) is) }
stays_low plan s c after low (Grants op asks next free is) =
    let x = client_later s.moves (client_at s c) (low.clients c) in
    record {
      y = _;
      clients = ap (λ (z : State). z.clients) is;
      low = record { last = x.last; noted = all_append (λ seen. IsLow (s.moves + 1) seen.stamp) (client_at s c).noted (seen_at s.store op.tuple ∷ []) x.noted (omega (arith, low.store op.tuple), tt) };
      store = store_later s after low (ap (λ (z : State). z.store) is);
    }
stays_low plan s c after low (Refuses op by asks next held is) =
    let x = client_later s.moves (client_at s c) (low.clients c) in
    record {
      y = _;
      clients = ap (λ (z : State). z.clients) is;
      low = abort_low plan c (s.moves + 1) (client_at s c) (client_at s c).noted x.last x.noted;
      store = store_later s after low (ap (λ (z : State). z.store) is);
    }
stays_low plan s c after low (Releases phase is) =
    let x = client_later s.moves (client_at s c) (low.clients c) in
    record {
      y = _;
      clients = ap (λ (z : State). z.clients) is;
      low = abort_low plan c (s.moves + 1) (client_at s c) (take (length (client_at s c).noted - 1) (client_at s c).noted) x.last (first_low (s.moves + 1) (length (client_at s c).noted - 1) (client_at s c).noted x.noted);
      store = store_later s after low (ap (λ (z : State). z.store) is);
    }
stays_low plan s c after low (Decides asks next cold some is) =
    let x = client_later s.moves (client_at s c) (low.clients c) in
    record {
      y = _;
      clients = ap (λ (z : State). z.clients) is;
      low = record { last = decision_low s.moves (client_at s c).last (client_at s c).noted (low.clients c).last (low.clients c).noted; noted = x.noted };
      store = store_later s after low (ap (λ (z : State). z.store) is);
    }
stays_low plan s c after low (Logs asks next hot is) =
    let x = client_later s.moves (client_at s c) (low.clients c) in
    record { y = _; clients = ap (λ (z : State). z.clients) is; low = record { last = x.last; noted = x.noted }; store = store_later s after low (ap (λ (z : State). z.store) is) }
stays_low plan s c after low (Posts now next phase up to is) =
    let x = client_later s.moves (client_at s c) (low.clients c) in
    record { y = _; clients = ap (λ (z : State). z.clients) is; low = record { last = x.last; noted = x.noted }; store = store_later s after low (ap (λ (z : State). z.store) is) }
stays_low plan s c after low (Takes now next answer phase up has to is) =
    let x = client_later s.moves (client_at s c) (low.clients c) in
    record {
      y = replied plan c (client_at s c) (stamp_of answer) (reply_to plan c (client_at s c) answer);
      clients = ap (λ (z : State). z.clients) is;
      low = replied_low plan c (s.moves + 1) (client_at s c) (stamp_of answer) (reply_to plan c (client_at s c) answer) (omega arith) x;
      store = store_later s after low (ap (λ (z : State). z.store) is);
    }
stays_low plan s c after low (Installs p phase at is) =
    let x = client_later s.moves (client_at s c) (low.clients c) in
    record {
      y = installed_one plan c (client_at s c) (length (steps_now plan c (client_at s c)));
      clients = ap (λ (z : State). z.clients) is;
      low = install_low plan c (s.moves + 1) (client_at s c) (length (steps_now plan c (client_at s c))) x;
      store = subst (λ (m : stores.Store). (t : TupleId) → IsLow (s.moves + 1) (seen_at m t).stamp) (sym (ap (λ (z : State). z.store) is))
          (stored_low (s.moves + 1) s.store p.0.tuple p.1.now (client_at s c).last x.last (λ t. omega (arith, low.store t)));
    }

low_moved : (s : State) (c : ℕ) (after : State) → c < length s.clients → Low s → StaysLow s c after → after.moves ≡ s.moves + 1 → Low after
low_moved s c after lt low m count = record {
  clients = λ d. subst (λ (n : ℕ). LowClient n (client_at after d)) (sym count) (client d);
  store = λ t. subst (λ (n : ℕ). IsLow n (seen_at after.store t).stamp) (sym count) (m.store t);
}
  where
    client : (d : ℕ) → LowClient (s.moves + 1) (client_at after d)
    client d = elim (same_or_not d c) [
      | inl e ↦ subst (λ (n : ℕ). LowClient (s.moves + 1) (client_at after n)) (sym e) (subst (LowClient (s.moves + 1)) (sym (client_now s after c m.y lt m.clients)) m.low)
      | inr n ↦ subst (LowClient (s.moves + 1)) (sym (client_then s after c m.y d m.clients n)) (client_later s.moves (client_at s d) (low.clients d))
    ]

-- moves at the switch
store_at_port : (s : State) (c : ℕ) (desk : Desk) (number : ℕ) (next : Switch) → (behind_entry s c desk number next).store ≡ s.store
unfolding fabric.entered switched
store_at_port s c Vacant number next = refl
store_at_port s c (Posted p) number next = refl
store_at_port s c (Entered k) number next = refl

store_at_stage : (s : State) (next : Switch) → (switched s next).store ≡ s.store
unfolding switched
store_at_stage s next = refl

store_recovered : (plan : Plan) (s : State) (order : List Task) → (recovered plan s order).store ≡ s.store
unfolding recovered
store_recovered plan s order = refl

low_still : (s after : State) → after.clients ≡ s.clients → after.store ≡ s.store → after.moves ≡ s.moves + 1 → Low s → Low after
low_still s after clients store count low = record {
  clients = λ d. subst (λ (n : ℕ). LowClient n (client_at after d)) (sym count) (subst (λ (l : List ClientState). LowClient (s.moves + 1) (get_or l d (at_item 0 1 zero_stamp))) (sym clients) (client_later s.moves (client_at s d) (low.clients d)));
  store = λ t. subst (λ (n : ℕ). IsLow n (seen_at after.store t).stamp) (sym count) (store_later s after low store t);
}

low_step : (plan : Plan) (s after : State) (actor : Actor) → after.moves ≡ s.moves + 1 → Low s → Moved plan s after actor → Low after
low_step plan s after actor count low (ByClient c within move) = low_moved s c after within low (stays_low plan s c after low move) count
low_step plan s after actor count low (AtPort c now next up to is) =
    low_still s after (ap (λ (z : State). z.clients) is ∙ clients_at_port s c (desk_at now c) (next_number now) next) (ap (λ (z : State). z.store) is ∙ store_at_port s c (desk_at now c) (next_number now) next) count low
low_step plan s after actor count low (AtStage k now next up to is) =
    low_still s after (ap (λ (z : State). z.clients) is ∙ clients_at_stage s next) (ap (λ (z : State). z.store) is ∙ store_at_stage s next) count low
low_step plan s after actor count low (Recovers order down found is) = record {
  clients = λ d. subst (λ (n : ℕ). LowClient n (client_at after d)) (sym count) (subst (LowClient (s.moves + 1)) (sym (client_recovered plan s after order is d)) (again (client_at s d) (client_later s.moves (client_at s d) (low.clients d))));
  store = λ t. subst (λ (n : ℕ). IsLow n (seen_at after.store t).stamp) (sym count) (store_later s after low (ap (λ (z : State). z.store) is ∙ store_recovered plan s order) t);
}
  where
    again : (x : ClientState) → LowClient (s.moves + 1) x → LowClient (s.moves + 1) (resumed x)
    again x l = record { last = l.last; noted = l.noted }

-- at the opening each stamp is 0.0
first_low_clients : (lists : List (List PlainItem)) (c : ℕ) → LowClient 0 (get_or (first_clients lists) c (at_item 0 1 zero_stamp))
first_low_clients [] c = record { last = omega arith; noted = tt }
first_low_clients (items ∷ lists) zero = record { last = omega arith; noted = tt }
first_low_clients (items ∷ lists) (suc c) = first_low_clients lists c

low_at_opening : (plan : Plan) → Low (opening plan)
unfolding opening
low_at_opening plan = record {
  clients = first_low_clients plan.clients;
  store = λ t. subst (λ (o : Option Seen). IsLow 0 (unwrap_or o (first_seen (pos 0))).stamp) (sym (first_value (host_rows plan) t)) (mapped (fin.find tuple_cmp t (host_rows plan)));
}
  where
    mapped : (o : Option ℤ) → IsLow 0 (unwrap_or (option_map first_seen o) (first_seen (pos 0))).stamp
    mapped None = omega arith
    mapped (Some v) = omega arith

low_of : (plan : Plan) (s : State) → IsReached plan s → Low s
low_of plan s reached = of_reached plan Low (low_at_opening plan) (λ z next actor r low is. low_step plan z next actor (step_is_counted plan z next actor is) low (move_of plan z actor next is)) s reached

-- ---- all parts

small_noted : (plan : Plan) (s : State) (n : ℕ) (l : List Seen) → n ≤ item_count plan → AllByRecursion (λ seen. IsLow s.moves seen.stamp) l → AllByRecursion (λ seen. seen.stamp.number ≤ n) l → AllByRecursion (λ seen. IsSmall plan s seen.stamp) l
small_noted plan s n [] few low numbers = tt
small_noted plan s n (seen ∷ l) few low numbers = (record { number = omega (arith, numbers.0, few); sub = low.0 }, small_noted plan s n l few low.1 numbers.1)

-- the numbers that there are at most
few_numbers : (plan : Plan) (s : State) → IsReached plan s → HoldsNow plan s → (f : FactsOf plan s) × (f.most ≤ item_count plan)
few_numbers plan s reached (WhileUp h) = (record { most = length (entered h.now); facts = facts_up plan s h }, few_packets plan s reached h)
few_numbers plan s reached (WhileLost h) = (record { most = length (tasks_of (plain_logs s.logs)); facts = h.facts }, few_tasks plan s reached)

pub fits_room : (plan : Plan) (s : State) → IsReached plan s → FitsRoom plan s
fits_room plan s reached =
    let known = few_numbers plan s reached (holds_now plan s reached) in
    let f = known.0 in
    let few = known.1 in
    let low = low_of plan s reached in
    record {
      history = few_entries plan s reached;
      refusals = few_refusals plan s reached;
      moves = omega (arith, moves_bounded plan (fits_now plan (holds_now plan)) (holds_up plan) s reached);
      packets = λ now up. few_flights plan s now reached up;
      intents = λ c. (few_records plan s c reached).0;
      outcomes = λ c. (few_records plan s c reached).1;
      last = λ c. record { number = omega (arith, f.facts.covered.last c, few); sub = (low.clients c).last };
      noted = λ c. small_noted plan s f.most (client_at s c).noted few (low.clients c).noted (f.facts.covered.noted c);
      store = λ t. record { number = omega (arith, f.facts.covered.store_has t, few); sub = low.store t };
    }
