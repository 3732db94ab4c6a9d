-- States of the fabric: what there is between two moves.
use Rattle.std.specs.Prelude.{ℕ, Bool, List, [], filter, is_some, Option, slice_index_or}
use Rattle.history_model.specs.History.{HistoryEntry, History}
use Rattle.host_store.specs.Store.{Store}
use Rattle.switch_packet.specs.Packets.{PlainIntent, PlainOutcome}
use Rattle.switch_model.specs.Switch.{Switch}
use Rattle.core_model.specs.declared.refusal.Refusal.{Refusal}
use Rattle.core_model.specs.State.{ClientState, at_item, zero_stamp}

-- what a client's log has: what it was about to do in the switch, and what came of it, each in order
pub record Records : Type 0 where
  pub intents : List PlainIntent
  pub outcomes : List PlainOutcome

abbrev pub no_records : Records
no_records = record { intents = []; outcomes = [] }

-- the clients and their logs, the switch, where it isn't lost, the store of the hosts, the history, the refusals so far, and
-- how many moves were made
pub record State : Type 0 where
  pub clients : List ClientState
  pub logs : List Records
  pub switch : Option Switch
  pub store : Store
  pub history : History
  pub refusals : List Refusal
  pub moves : ℕ

abbrev pub client_at : State → ℕ → ClientState
client_at s c = slice_index_or s.clients c (at_item 0 1 zero_stamp)

abbrev pub log_at : State → ℕ → Records
log_at s c = slice_index_or s.logs c no_records

abbrev pub is_answered : HistoryEntry → Bool
is_answered e = is_some e.pairs

-- the answered entries
abbrev pub answered_ones : History → History
answered_ones h = filter is_answered h
