-- How the entries of transactions with packets, the packets that have entered the switch, and the clients that wait for them
-- stand to each other.
use Rattle.std.specs.Prelude.{◌≡◌, ◌≢◌, ℕ, ℤ, ◌+◌, ◌<◌, ◌==◌, Bool, List, [], ◌∷◌, filter, Some, None, ⊤, Contains}
use Rattle.std.specs.List.{AllByRecursion}
use Rattle.txn_model.specs.Places.{Places}
use Rattle.txn_model.specs.declared.pairs.Pair.{Pair}
use Rattle.history_model.specs.History.{HistoryEntry, History}
use Rattle.switch_packet.specs.Packets.{PlainPacket}
use Rattle.switch_packet.specs.Replay.{replay}
use Rattle.switch_model.specs.Switch.{Desk, Vacant, Posted, Entered}
use Rattle.warm_split.specs.Joined.{joined}
use Rattle.warm_split.specs.Resolved.{packet_of}
use Rattle.catalogue.specs.Plan.{Plan}
use Rattle.core_model.specs.declared.phase.Phase.TheVariants.{Waiting}
use Rattle.core_model.specs.Facts.{Clients, script_of_entry}
use Rattle.core_model.specs.State.{ClientState}
use Rattle.fabric_model.specs.Intents.{values_of, packet_now}

-- the entry is that of a transaction with a packet
abbrev pub is_carried : HistoryEntry → Bool
is_carried e = e.entry.stamp.sub == 0

abbrev pub carried : History → History
carried h = filter is_carried h

-- The entry's client waits for the packet that entered as number k + 1, which is that of its present item with the values
-- that it noted; the number is above those of all stamps that it knows.
pub record IsPending (plan : Plan) (at : Clients) (desks : ℕ → Desk) (k : ℕ) (e : HistoryEntry) (values : List ℤ) : Type 0 where
  pub phase : (at e.entry.client).phase ≡ Waiting
  pub seq : (at e.entry.client).seq ≡ e.entry.seq
  pub noted : values_of (at e.entry.client).noted ≡ values
  pub desk : desks e.entry.client ≡ Entered k
  pub last : (at e.entry.client).last.number < k + 1
  pub above : AllByRecursion (λ seen. seen.stamp.number < k + 1) (at e.entry.client).noted

-- The packet that entered as number k + 1, with these registers before it when each is executed whole, is that of the entry's
-- transaction, with some values read on hosts. An answered entry has the pairs that are joined of these values and of the
-- packet's replay; an unanswered one is pending.
pub record IsCarriedBy (plan : Plan) (at : Clients) (desks : ℕ → Desk) (k : ℕ) (m : Places) (e : HistoryEntry) (p : PlainPacket) : Type 0 where
  pub stamp : e.entry.stamp ≡ record { number = k + 1; sub = 0 }
  pub values : List ℤ
  pub packet : p ≡ packet_of plan.shape plan.layout e.entry.client e.entry.seq (script_of_entry plan e) values
  pub reply : (pairs : List Pair) → e.pairs ≡ Some pairs → pairs ≡ joined plan.layout (script_of_entry plan e) values (replay p m).pairs
  pub pending : e.pairs ≡ None → IsPending plan at desks k e values

-- the entries are carried by the packets, in order; the first of them entered as number k + 1
abbrev pub AreCarriedBy : Plan → Clients → (ℕ → Desk) → ℕ → Places → History → List PlainPacket → Type 0
AreCarriedBy plan at desks k m [] [] = ⊤
AreCarriedBy plan at desks k m [] (p ∷ ps) = ⊥
AreCarriedBy plan at desks k m (e ∷ es) [] = ⊥
AreCarriedBy plan at desks k m (e ∷ es) (p ∷ ps) = IsCarriedBy plan at desks k m e p × AreCarriedBy plan at desks (k + 1) (replay p m).after es ps

-- the entry of a client's present item with this number, unanswered
abbrev pub pending_entry : ℕ → ClientState → ℕ → HistoryEntry
pending_entry c x number = record { entry = record { stamp = record { number = number; sub = 0 }; client = c; seq = x.seq }; pairs = None }

-- what a client has under way: nothing unless it waits; the packet of its present item, before or after it got its number
abbrev pub FitsDesk : Plan → History → ℕ → ClientState → Desk → Type 0
FitsDesk plan h c x Vacant = x.phase ≢ Waiting
FitsDesk plan h c x (Posted p) = (x.phase ≡ Waiting) × (p ≡ packet_now plan c x)
FitsDesk plan h c x (Entered k) = (x.phase ≡ Waiting) × Contains h (pending_entry c x (k + 1))
