-- What contracts see of a source, a sink and racks in memory.
use Rattle.std.specs.Prelude.{ℕ, ◌==◌, if◌then◌else◌, List, Option, Some, slice_set}
use Rattle.port_io.specs.Calls.{CallCount}
use Rattle.port_io.specs.LogRack.{log_of}

-- the bytes that are still to come, and the calls so far
pub record SourceInMemory : Type 0 where
  pub left : List ℕ
  pub calls : CallCount

-- the bytes that were taken, the most that one call takes, and the calls so far
pub record SinkInMemory : Type 0 where
  pub content : List ℕ
  pub most : ℕ
  pub calls : CallCount

-- the logs, and the calls so far
pub record RackInMemory : Type 0 where
  pub logs : List (List ℕ)
  pub calls : CallCount

-- a byte that reads of this client's log give at this place
pub record Damage : Type 0 where
  pub client : ℕ
  pub at : ℕ
  pub byte : ℕ

-- the logs that are kept, and the damage that their reads show
pub record DamagedLogs : Type 0 where
  pub logs : List (List ℕ)
  pub damage : Damage

-- each log is told as it is kept
abbrev pub told_logs : List (List ℕ) → ℕ → Option (List ℕ)
told_logs logs client = Some (log_of logs client)

-- a client's log as its reads give it: with the damage, where it is that client's and the log is that long
abbrev pub damaged_log : DamagedLogs → ℕ → List ℕ
damaged_log rack client =
    if client == rack.damage.client then slice_set (log_of rack.logs client) rack.damage.at rack.damage.byte else log_of rack.logs client

-- each log is told as its reads give it
abbrev pub told_damaged : DamagedLogs → ℕ → Option (List ℕ)
told_damaged rack client = Some (damaged_log rack client)
