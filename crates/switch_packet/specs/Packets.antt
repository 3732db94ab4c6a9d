-- Packets and the records of a log as plain data, without the room that their lists are kept in.
use Rattle.std.specs.Prelude.{ℕ, ◌+◌, Bool, List, [], length, map}
use Rattle.txn_model.specs.Listed.{Listed}
use Rattle.txn_model.specs.declared.pairs.Pair.{Pair}
use Rattle.switch_packet.specs.declared.packet.PacketOp.{PacketOp}
use Rattle.switch_packet.specs.declared.packet.Packet.{Packet}
use Rattle.switch_packet.specs.declared.record.Intent.{Intent}
use Rattle.switch_packet.specs.declared.record.Outcome.{Outcome}
use Rattle.switch_packet.specs.declared.record.LogView.{LogView}

-- how many items a list can hold without memory
abbrev pub room_of : {T : Type 0} → Listed T → ℕ
room_of list = length list.items + list.spare

-- a packet
pub record PlainPacket : Type 0 where
  pub client : ℕ
  pub seq : ℕ
  pub passes : ℕ
  pub halves : ℕ
  pub ops : List PacketOp

-- a packet as it is held, seen so
abbrev pub plain : Packet → PlainPacket
plain p = record { client = p.client; seq = p.seq; passes = p.passes; halves = p.halves; ops = p.ops.items }

-- no operations, and all numbers 0
abbrev pub blank_packet : PlainPacket
blank_packet = record { client = 0; seq = 0; passes = 0; halves = 0; ops = [] }

-- what stands in a log before a packet is posted
pub record PlainIntent : Type 0 where
  pub floor : ℕ
  pub packet : PlainPacket

abbrev pub plain_intent : Intent → PlainIntent
plain_intent i = record { floor = i.floor; packet = plain i.packet }

-- what stands in a log before the caller has the answer
pub record PlainOutcome : Type 0 where
  pub seq : ℕ
  pub number : ℕ
  pub pairs : List Pair

abbrev pub plain_outcome : Outcome → PlainOutcome
plain_outcome o = record { seq = o.seq; number = o.number; pairs = o.pairs.items }

-- what a log says: the k-th outcome answers the k-th intent
pub record PlainLog : Type 0 where
  pub intents : List PlainIntent
  pub outcomes : List PlainOutcome
  pub torn : Bool

abbrev pub plain_log : LogView → PlainLog
plain_log v = record { intents = map plain_intent v.intents.items; outcomes = map plain_outcome v.outcomes.items; torn = v.torn }
