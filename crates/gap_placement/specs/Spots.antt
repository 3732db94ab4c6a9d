-- The tasks of logs, by where they stand.
use Rattle.std.specs.Prelude.{ℕ, zero, suc, ◌+◌, ◌<◌, false, List, [], ◌∷◌, ◌++◌, length, slice_get, slice_index_or}
use Rattle.switch_packet.specs.Packets.{PlainIntent, PlainLog, blank_packet}
use Rattle.placement_model.specs.Placements.{Task}
use Rattle.gap_placement.specs.declared.spot.Spot.{Spot}

abbrev pub blank_log : PlainLog
blank_log = record { intents = []; outcomes = []; torn = false }

abbrev pub blank_intent : PlainIntent
blank_intent = record { floor = 0; packet = blank_packet }

-- the client's log
abbrev pub log_at : List PlainLog → ℕ → PlainLog
log_at logs client = slice_index_or logs client blank_log

-- the task there
abbrev pub task_of : List PlainLog → Spot → Task
task_of logs spot = record {
  client = spot.client;
  index = spot.index;
  intent = slice_index_or (log_at logs spot.client).intents spot.index blank_intent;
  outcome = slice_get (log_at logs spot.client).outcomes spot.index;
}

-- an intent stands there
pub record IsSpot (logs : List PlainLog) (spot : Spot) : Type 0 where
  pub client : spot.client < length logs
  pub index : spot.index < length (log_at logs spot.client).intents

-- the places of a client's intents, from this one on, of which there are so many
abbrev pub spots_from : ℕ → ℕ → ℕ → List Spot
spots_from client k zero = []
spots_from client k (suc n) = record { client = client; index = k } ∷ spots_from client (k + 1) n

-- those of all intents of the logs of these clients, which begin with this one
abbrev pub spots_behind : ℕ → List PlainLog → List Spot
spots_behind client [] = []
spots_behind client (log ∷ logs) = spots_from client 0 (length log.intents) ++ spots_behind (client + 1) logs
