-- The records of a client, as plain data.
use Rattle.std.specs.Prelude.{ℕ, List}
use Rattle.switch_packet.specs.Packets.{PlainIntent, PlainOutcome}

-- what a client was about to do in the switch, and what came of it, each in order; and for how many of each there is room
pub record PlainRecords : Type 0 where
  pub intents : List PlainIntent
  pub outcomes : List PlainOutcome
  pub room : ℕ
