-- What holds of a state between any two moves, while the switch is up and while it is lost.
use Rattle.std.specs.Prelude.{◌≡◌, ◌⊎◌, ◌<◌, ◌≤◌, ℕ, true, false, length, List, Some, None}
use Rattle.std.specs.List.{AllByRecursion}
use Rattle.txn_model.specs.declared.op.TupleId.{TupleId}
use Rattle.host_store.specs.Store.{Store, seen_at}
use Rattle.history_model.specs.History.{History, IsInStampOrder, AllAnswered}
use Rattle.placement_model.specs.Placements.{Task, tasks_of, IsPlacement}
use Rattle.switch_packet.specs.Packets.{PlainPacket}
use Rattle.switch_model.specs.Switch.{Switch, Desk, desk_at, entered}
use Rattle.switch_model.specs.Reached.{IsReached}
use Rattle.catalogue.specs.Plan.{Plan, hot_cells}
use Rattle.core_model.specs.declared.phase.Phase.TheVariants.{Logged, Waiting, Installing}
use Rattle.core_model.specs.Facts.{Clients, script_of_entry}
use Rattle.core_model.specs.State.{script_now}
use Rattle.fabric_model.specs.Carried.{is_carried, carried, AreCarriedBy, FitsDesk}
use Rattle.fabric_model.specs.ColdFacts.{ColdFacts}
use Rattle.fabric_model.specs.Recovery.{plain_logs}
use Rattle.fabric_model.specs.State.{State, client_at, answered_ones}
use Rattle.fabric_model.specs.Step.{has_hot}

-- the number parts of all stamps are those of packets that have entered, of which there are so many
pub record AreCovered (most : ℕ) (at : Clients) (store : Store) (h : History) : Type 0 where
  pub last : (c : ℕ) → (at c).last.number ≤ most
  pub noted : (c : ℕ) → AllByRecursion (λ seen. seen.stamp.number ≤ most) (at c).noted
  pub store_has : (t : TupleId) → (seen_at store t).stamp.number ≤ most
  pub entries : AllByRecursion (λ e. e.entry.stamp.number ≤ most) h

-- What holds of the clients, the store of the hosts and the history, whether the switch is up or not.
pub record HostFacts (plan : Plan) (most : ℕ) (at : Clients) (store : Store) (h : History) : Type 0 where
  pub cold : ColdFacts plan at store (answered_ones h)
  pub installs : (c : ℕ) → (at c).phase ≡ Installing → (at c).installed < length (at c).noted
  pub hot_ones : (c : ℕ) → ((at c).phase ≡ Logged) ⊎ ((at c).phase ≡ Waiting) → has_hot plan (script_now plan c (at c)) ≡ true
  pub sorted : IsInStampOrder h
  pub unanswered : AllByRecursion (λ e. e.pairs ≡ None → is_carried e ≡ true) h
  pub hosts : AllByRecursion (λ e. is_carried e ≡ false → has_hot plan (script_of_entry plan e) ≡ false) h
  pub covered : AreCovered most at store h

-- What holds of the clients, the store of the hosts, the history, the clients' desks at the switch and the packets that have
-- entered it.
pub record Ties (plan : Plan) (at : Clients) (store : Store) (h : History) (desks : ℕ → Desk) (packets : List PlainPacket) : Type 0 where
  pub cold : ColdFacts plan at store (answered_ones h)
  -- a client that installs has something left to install
  pub installs : (c : ℕ) → (at c).phase ≡ Installing → (at c).installed < length (at c).noted
  -- a client with a packet has an operation in the switch
  pub hot_ones : (c : ℕ) → ((at c).phase ≡ Logged) ⊎ ((at c).phase ≡ Waiting) → has_hot plan (script_now plan c (at c)) ≡ true
  pub sorted : IsInStampOrder h
  -- only transactions with packets wait for their answers, and only those name tuples in the switch
  pub unanswered : AllByRecursion (λ e. e.pairs ≡ None → is_carried e ≡ true) h
  pub hosts : AllByRecursion (λ e. is_carried e ≡ false → has_hot plan (script_of_entry plan e) ≡ false) h
  pub carried_ones : AreCarriedBy plan at desks 0 (hot_cells plan) (carried h) packets
  pub under_way : (c : ℕ) → FitsDesk plan h c (at c) (desks c)
  pub covered : AreCovered (length packets) at store h

pub record Holds (plan : Plan) (s : State) : Type 0 where
  pub now : Switch
  pub up : s.switch ≡ Some now
  pub reached : IsReached plan.shape (hot_cells plan) now
  pub desks : length now.desks ≡ length s.clients
  pub ties : Ties plan (client_at s) s.store s.history (desk_at now) (entered now)

-- While the switch is lost, all entries are answered, no stamp has a number above that of the intents, and the clients' logs have a
-- placement.
pub record HoldsLost (plan : Plan) (s : State) : Type 0 where
  pub lost : s.switch ≡ None
  pub facts : HostFacts plan (length (tasks_of (plain_logs s.logs))) (client_at s) s.store s.history
  pub answered : AllAnswered s.history
  pub order : List Task
  pub placed : IsPlacement (plain_logs s.logs) (hot_cells plan) order

pub data HoldsNow (plan : Plan) (s : State) : Type 0 where
  WhileUp : Holds plan s → HoldsNow plan s
  WhileLost : HoldsLost plan s → HoldsNow plan s
