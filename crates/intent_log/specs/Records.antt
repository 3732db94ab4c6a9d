-- Which records have a text.
use Rattle.std.specs.Prelude.{◌<◌, ◌≤◌, ◌^◌, length, FitsSigned}
use Rattle.std.specs.Int.{w64}
use Rattle.std.specs.List.{AllByRecursion}
use Rattle.txn_model.specs.declared.pairs.Pair.{Pair}
use Rattle.switch_packet.specs.Packets.{PlainIntent, PlainOutcome}
use Rattle.switch_packet.specs.Ranges.{IsPacket}

-- an intent that has a text
pub record IsIntent (i : PlainIntent) : Type 0 where
  pub floor : i.floor < 2 ^ 64
  pub packet : IsPacket i.packet

-- an outcome has 1 to 16 pairs
abbrev pub HasPairs : PlainOutcome → Type 0
HasPairs o = (1 ≤ length o.pairs) × (length o.pairs ≤ 16)

-- the numbers of a pair are those of their type
pub record IsPair (p : Pair) : Type 0 where
  pub was : FitsSigned w64 p.was
  pub now : FitsSigned w64 p.now

-- an outcome that has a text
pub record IsOutcome (o : PlainOutcome) : Type 0 where
  pub seq : o.seq < 2 ^ 32
  pub number : o.number < 2 ^ 64
  pub count : HasPairs o
  pub pairs : AllByRecursion IsPair o.pairs
