-- What is seen of the pipeline: registers, slots, waiting packets, boxes, halves and the next number.
use Rattle.std.specs.Prelude.{ℕ, List, Option}
use Rattle.txn_model.specs.Places.{Places}
use Rattle.txn_model.specs.declared.pairs.Pair.{Pair}
use Rattle.stage_layout.specs.declared.shape.Shape.{Shape}
use Rattle.switch_packet.specs.Packets.{PlainPacket}
use Rattle.pipeline_locks.specs.Holders.{Holders}

-- a packet on its way, with the pairs of its operations (zeros for one that wasn't executed yet), the pass that it is in or waits
-- for, and its number, 0 before its first pass
pub record PlainFlight : Type 0 where
  pub packet : PlainPacket
  pub pairs : List Pair
  pub pass : ℕ
  pub number : ℕ

-- an answer: the packet's number, and the pairs of its operations
pub record PlainBox : Type 0 where
  pub number : ℕ
  pub pairs : List Pair

-- a number at each place of the switch; for each stage the packet in its slot; for each client the packet that waits at the port and
-- the answer in its box; the holders of the halves; and the number that the next packet gets
pub record PlainPipeline : Type 0 where
  pub shape : Shape
  pub registers : Places
  pub slots : List (Option PlainFlight)
  pub waiting : List (Option PlainFlight)
  pub boxes : List (Option PlainBox)
  pub halves : Holders
  pub next : ℕ
