-- Laws over all runs of sessions with transactions in the switch, on hosts, and on both.
use Rattle.std.specs.Prelude.{◌≡◌, ◌⊎◌, ℕ, ℤ, pos, ◌+◌, ◌<◌, ◌≤◌, List, slice_get, Option, Some, None, IsSome}
use Rattle.std.specs.List.{AllByRecursion}
use Rattle.txn_model.specs.Serial.{serial_run}
use Rattle.txn_model.specs.Tuples.{value_at}
use Rattle.txn_model.specs.declared.op.TupleId.{TupleId}
use Rattle.txn_model.specs.declared.place.Place.{Place}
use Rattle.stage_layout.specs.Layout.{place_of}
use Rattle.history_model.specs.History.{HistoryEntry, History, IsInStampOrder, AllAnswered}
use Rattle.history_model.specs.InOrder.{seqs_of}
use Rattle.history_model.specs.Legal.{IsLegal, scripts_of}
use Rattle.host_store.specs.Store.{seen_at}
use Rattle.switch_packet.specs.Replay.{register_at}
use Rattle.switch_model.specs.Switch.{Switch}
use Rattle.catalogue.specs.Plan.{Plan, script_at}
use Rattle.catalogue.specs.Sound.{IsSound, IsActor}
use Rattle.catalogue.specs.declared.actor.Actor.{Actor}
use Rattle.core_model.specs.Laws.{IsAscending}
use Rattle.core_model.specs.StampOrder.{Below}
use Rattle.core_model.specs.State.{ClientState}
use Rattle.core_model.specs.declared.phase.Phase.TheVariants.{Waiting, Installing, Finished}
use Rattle.fabric_model.specs.Bound.{moves_left, move_bound}
use Rattle.fabric_model.specs.Run.{state_of}
use Rattle.fabric_model.specs.State.{State, client_at}
use Rattle.fabric_model.specs.Step.{step}

-- the state is one that some moves make of the opening of a sound session
pub record IsReached (plan : Plan) (s : State) : Type 0 where
  pub sound : IsSound plan
  pub trace : List Actor
  pub run : state_of plan trace ≡ Some s

-- the history is in stamp order and legal
pub record HasLegalHistory (plan : Plan) (s : State) : Type 0 where
  pub sorted : IsInStampOrder s.history
  pub legal : IsLegal (script_at plan) plan.tuples s.history

-- no client has anything left to do
abbrev pub AllFinished : State → Type 0
AllFinished s = AllByRecursion (λ client. client.phase ≡ Finished) s.clients

-- the number in the register at a place; 0 where the switch is lost
abbrev pub register_in : Option Switch → Place → ℤ
register_in None place = pos 0
register_in (Some now) place = register_at now.registers place

abbrev pub value_in : State → TupleId → Option Place → ℤ
value_in s t None = (seen_at s.store t).value
value_in s t (Some place) = register_in s.switch place

-- the value of a tuple: that of its register where it has a place in the switch, else the one that its host stores
abbrev pub tuple_now : Plan → State → TupleId → ℤ
tuple_now plan s t = value_in s t (place_of plan.layout t)

-- all entries are answered, and each tuple has the value that the serial run of the history's scripts leaves
pub record HasSerialValues (plan : Plan) (s : State) : Type 0 where
  pub answered : AllAnswered s.history
  pub values : (t : TupleId) → tuple_now plan s t ≡ value_at (serial_run (scripts_of (script_at plan) s.history) plan.tuples).after t

-- the item is before the client's present one, or it is that one, and its packet has entered the switch or it is decided
abbrev pub IsPast : ClientState → ℕ → Type 0
IsPast x seq = (seq < x.seq) ⊎ ((seq ≡ x.seq) × ((x.phase ≡ Waiting) ⊎ (x.phase ≡ Installing)))

-- Each client's entries stand in its own order, and each of its items has at most one; no later item has one.
pub record HasItemsInOrder (s : State) : Type 0 where
  pub ascending : (c : ℕ) → IsAscending (seqs_of c s.history)
  pub past : (c : ℕ) → AllByRecursion (IsPast (client_at s c)) (seqs_of c s.history)

-- of two entries of one client the one with the lower seq has the lower stamp
abbrev pub HasRisingStamps : State → Type 0
HasRisingStamps s = AllByRecursion (λ e. AllByRecursion (λ f. e.entry.client ≡ f.entry.client → e.entry.seq < f.entry.seq → Below e.entry.stamp f.entry.stamp) s.history) s.history

-- one of the session's actors can move
pub record SomeoneCanMove (plan : Plan) (s : State) : Type 0 where
  pub actor : Actor
  pub is : IsActor plan actor
  pub moves : IsSome (step plan s actor)

-- the moves that were made and those that are left are no more than the session's bound
abbrev pub IsBounded : Plan → State → Type 0
IsBounded plan s = s.moves + moves_left plan s ≤ move_bound plan

-- the history has the entry
abbrev pub HasEntry : History → HistoryEntry → Type 0
HasEntry h e = (k : ℕ) × (slice_get h k ≡ Some e)

-- each answered entry stands as it is
abbrev pub AnswersStand : (before after : History) → Type 0
AnswersStand before after = AllByRecursion (λ e. IsSome e.pairs → HasEntry after e) before
