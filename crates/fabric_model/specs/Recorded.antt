-- How the clients' logs, the history and the packets that have entered the switch stand to each other.
use Rattle.std.specs.Prelude.{◌≡◌, ℕ, ℤ, ◌+◌, ◌<◌, ◌++◌, Bool, true, false, List, [], ◌∷◌, map, slice_get, Option, Some, IsSome, ⊤, if◌then◌else◌}
use Rattle.std.specs.List.{AllByRecursion}
use Rattle.history_model.specs.History.{HistoryEntry, History, AllAnswered}
use Rattle.switch_packet.specs.Packets.{PlainIntent, PlainOutcome}
use Rattle.switch_packet.specs.Replay.{replay_all}
use Rattle.switch_model.specs.Switch.{Switch, entered}
use Rattle.warm_split.specs.Joined.{joined}
use Rattle.warm_split.specs.Resolved.{packet_of}
use Rattle.catalogue.specs.Plan.{Plan, script_at, hot_cells}
use Rattle.core_model.specs.declared.phase.Phase.{Phase}
use Rattle.core_model.specs.declared.phase.Phase.TheVariants.{Ready, Locking, Aborting, Logged, Waiting, Installing, Finished}
use Rattle.core_model.specs.Laws.{IsAscending}
use Rattle.core_model.specs.State.{ClientState}
use Rattle.fabric_model.specs.Carried.{is_carried}
use Rattle.fabric_model.specs.Intents.{intent_now}
use Rattle.fabric_model.specs.Laws.{HasEntry}
use Rattle.fabric_model.specs.State.{Records, State, client_at, log_at}
use Rattle.fabric_model.specs.Step.{has_hot}

-- the client's packet is in its log, and not yet what came of it
abbrev pub has_open : Phase → Bool
has_open Ready = false
has_open Locking = false
has_open Aborting = false
has_open Logged = true
has_open Waiting = true
has_open Installing = false
has_open Finished = false

-- the intent of the client's present item, where it has an open one
abbrev pub open_intent : Plan → ℕ → ClientState → List PlainIntent
open_intent plan c x = if has_open x.phase then intent_now plan c x ∷ [] else []

-- The outcome answers the client's intent, whose item has an operation in the switch. Its number is above the intent's floor. It is that of the item's entry, whose reply is
-- joined of the values that went into the packet and of the outcome's pairs. The packet entered the switch as this number, and
-- the pairs are those of its replay there.
pub record IsAnswer (plan : Plan) (h : History) (switch : Option Switch) (c : ℕ) (intent : PlainIntent) (outcome : PlainOutcome) : Type 0 where
  pub seq : intent.packet.seq ≡ outcome.seq
  pub above : intent.floor < outcome.number
  pub hot : has_hot plan (script_at plan c outcome.seq) ≡ true
  pub values : List ℤ
  pub packet : intent.packet ≡ packet_of plan.shape plan.layout c outcome.seq (script_at plan c outcome.seq) values
  pub entry : HasEntry h (record {
    entry = record { stamp = record { number = outcome.number; sub = 0 }; client = c; seq = outcome.seq };
    pairs = Some (joined plan.layout (script_at plan c outcome.seq) values outcome.pairs);
  })
  pub place : ℕ
  pub number : outcome.number ≡ place + 1
  pub there : (now : Switch) → switch ≡ Some now → (slice_get (entered now) place ≡ Some intent.packet) × (slice_get (replay_all (entered now) (hot_cells plan)).pairs place ≡ Some outcome.pairs)

-- there are as many outcomes, and each answers the intent at its place
abbrev pub AreAnswers : Plan → History → Option Switch → ℕ → List PlainIntent → List PlainOutcome → Type 0
AreAnswers plan h switch c [] [] = ⊤
AreAnswers plan h switch c [] (outcome ∷ outcomes) = ⊥
AreAnswers plan h switch c (intent ∷ intents) [] = ⊥
AreAnswers plan h switch c (intent ∷ intents) (outcome ∷ outcomes) = IsAnswer plan h switch c intent outcome × AreAnswers plan h switch c intents outcomes

-- an answered entry of the client's transactions with packets has its outcome
abbrev pub IsTold : ℕ → List PlainOutcome → HistoryEntry → Type 0
IsTold c outcomes e = e.entry.client ≡ c → is_carried e ≡ true → IsSome e.pairs
    → (j : ℕ) × (outcome : PlainOutcome) × (slice_get outcomes j ≡ Some outcome) × (outcome.number ≡ e.entry.stamp.number) × (outcome.seq ≡ e.entry.seq)

abbrev pub seqs_in : List PlainIntent → List ℕ
seqs_in intents = map (λ intent. intent.packet.seq) intents

-- The client's intents are those that its outcomes answer, in their order, and behind them the open one. They are of its items in
-- its own order. Each answered entry of its transactions with packets has its outcome.
pub record HasRecords (plan : Plan) (s : State) (c : ℕ) : Type 0 where
  pub answered : List PlainIntent
  pub intents : (log_at s c).intents ≡ answered ++ open_intent plan c (client_at s c)
  pub outcomes : AreAnswers plan s.history s.switch c answered (log_at s c).outcomes
  pub ascending : IsAscending (seqs_in (log_at s c).intents)
  pub told : AllByRecursion (IsTold c (log_at s c).outcomes) s.history

-- each client has as many outcomes as intents, each answers the intent at its place, and no entry is unanswered
pub record IsAllAnswered (plan : Plan) (s : State) : Type 0 where
  pub logs : (c : ℕ) → AreAnswers plan s.history s.switch c (log_at s c).intents (log_at s c).outcomes
  pub entries : AllAnswered s.history

-- records have been added, and none was changed or taken away
pub record IsLonger (before after : Records) : Type 0 where
  pub intents : List PlainIntent
  pub outcomes : List PlainOutcome
  pub more_intents : after.intents ≡ before.intents ++ intents
  pub more_outcomes : after.outcomes ≡ before.outcomes ++ outcomes
