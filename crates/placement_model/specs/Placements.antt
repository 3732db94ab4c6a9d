-- Placements: which numbers the packets of a list of logs can have had.
use Rattle.std.specs.Prelude.{◌≡◌, ◌⊎◌, ℕ, ◌+◌, ◌<◌, ◌≤◌, List, [], ◌∷◌, ◌++◌, map, length, Option, None, Some, IsPermutation, ⊤}
use Rattle.txn_model.specs.Places.{Places}
use Rattle.txn_model.specs.declared.pairs.Pair.{Pair}
use Rattle.switch_packet.specs.Packets.{PlainPacket, PlainIntent, PlainOutcome, PlainLog}
use Rattle.switch_packet.specs.Replay.{replay}

-- an intent of a client's log, by its place there, counted from 0, and the outcome that answers it, where there is one
pub record Task : Type 0 where
  pub client : ℕ
  pub index : ℕ
  pub intent : PlainIntent
  pub outcome : Option PlainOutcome

-- the tasks of a client whose log goes on with these records, from this place on: the k-th outcome answers the k-th intent
abbrev pub tasks_from : ℕ → ℕ → List PlainIntent → List PlainOutcome → List Task
tasks_from client k [] outcomes = []
tasks_from client k (intent ∷ intents) [] = record { client = client; index = k; intent = intent; outcome = None } ∷ tasks_from client (k + 1) intents []
tasks_from client k (intent ∷ intents) (outcome ∷ outcomes) = record { client = client; index = k; intent = intent; outcome = Some outcome } ∷ tasks_from client (k + 1) intents outcomes

-- those of the logs of these clients, which begin with this one
abbrev pub tasks_behind : ℕ → List PlainLog → List Task
tasks_behind client [] = []
tasks_behind client (log ∷ logs) = tasks_from client 0 log.intents log.outcomes ++ tasks_behind (client + 1) logs

-- all tasks, by client and then by place; the k-th log is that of client k
abbrev pub tasks_of : List PlainLog → List Task
tasks_of logs = tasks_behind 0 logs

-- the outcome has this number and these pairs, where there is one
abbrev pub HasAnswer : Option PlainOutcome → ℕ → List Pair → Type 0
HasAnswer None number pairs = ⊤
HasAnswer (Some outcome) number pairs = (outcome.number ≡ number) × (outcome.pairs ≡ pairs)

-- a packet can have had this number, and its operations these pairs: the number is above its floor, and an answered one has those that
-- its log has
pub record CanHave (task : Task) (number : ℕ) (pairs : List Pair) : Type 0 where
  pub above : task.intent.floor < number
  pub answer : HasAnswer task.outcome number pairs

-- the tasks can have had the numbers from this one on: each is replayed on the map that the one before left
abbrev pub CanFollow : ℕ → Places → List Task → Type 0
CanFollow number m [] = ⊤
CanFollow number m (task ∷ tasks) =
    CanHave task number (replay task.intent.packet m).pairs × CanFollow (number + 1) (replay task.intent.packet m).after tasks

-- A placement of the logs, from the registers' first numbers on, as an order of all tasks: the first one has number 1. So each intent has
-- one of the numbers from 1 on, logged numbers are kept, each is above its floor, and the replay in this order gives each logged pair.
pub record IsPlacement (logs : List PlainLog) (first : Places) (order : List Task) : Type 0 where
  pub all : IsPermutation (tasks_of logs) order
  pub follows : CanFollow 1 first order

abbrev pub free_client : Task → Option PlainOutcome → List ℕ
free_client task None = task.client ∷ []
free_client task (Some outcome) = []

-- the clients of the tasks without an outcome, in this order: those along the free numbers, from low to high
abbrev pub free_clients : List Task → List ℕ
free_clients [] = []
free_clients (task ∷ tasks) = free_client task task.outcome ++ free_clients tasks

-- lists of clients are compared at their first difference, and the lower client is less
abbrev pub NotAfter : List ℕ → List ℕ → Type 0
NotAfter [] ys = ⊤
NotAfter (x ∷ xs) [] = ⊥
NotAfter (x ∷ xs) (y ∷ ys) = (x < y) ⊎ ((x ≡ y) × NotAfter xs ys)

-- the first placement: no other has a lesser list of clients along the free numbers
pub record IsFirstPlacement (logs : List PlainLog) (first : Places) (order : List Task) : Type 0 where
  pub placement : IsPlacement logs first order
  pub least : (other : List Task) → IsPlacement logs first other → NotAfter (free_clients order) (free_clients other)

-- the packets in this order
abbrev pub packets_of : List Task → List PlainPacket
packets_of order = map (λ task. task.intent.packet) order

-- each client has at most one intent without an outcome, and none of its intents before that one
pub record IsAnsweredButOne (log : PlainLog) : Type 0 where
  pub most : length log.outcomes ≤ length log.intents
  pub least : length log.intents ≤ length log.outcomes + 1

-- a packet with its number and the pairs that its operations have then
pub record PlainSlotted : Type 0 where
  pub number : ℕ
  pub client : ℕ
  pub seq : ℕ
  pub pairs : List Pair

-- those of tasks in this order, from this number and this map on
abbrev pub rows_from : ℕ → Places → List Task → List PlainSlotted
rows_from number m [] = []
rows_from number m (task ∷ tasks) =
    let made = replay task.intent.packet m in
    record { number = number; client = task.client; seq = task.intent.packet.seq; pairs = made.pairs } ∷ rows_from (number + 1) made.after tasks

-- those of a placement
abbrev pub rows_of : Places → List Task → List PlainSlotted
rows_of first order = rows_from 1 first order
