-- The room for a client's records.
use Rattle.std.specs.Prelude.{◌≡◌, ℕ, ◌+◌, ◌≤◌, [], All, Vec, length}
use Rattle.std.specs.Global.{Global}
use Rattle.txn_model.specs.Listed.{Listed}
use Rattle.txn_model.specs.declared.pairs.Pair.{Pair}
use Rattle.switch_packet.specs.Packets.{plain, blank_packet}
use Rattle.switch_packet.specs.declared.packet.Packet.{Packet}
use Rattle.switch_packet.specs.declared.record.Intent.{Intent}
use Rattle.switch_packet.specs.declared.record.Outcome.{Outcome}

-- the packet is blank, with room for 16 operations
pub record IsBlank (packet : Packet) : Type 0 where
  pub blank : plain packet ≡ blank_packet
  pub room : 16 ≤ packet.ops.spare

-- there are no pairs, and room for 16
pub record IsBare (pairs : Listed Pair) : Type 0 where
  pub none : pairs.items ≡ []
  pub room : 16 ≤ pairs.spare

-- there is room for so many intents and outcomes, or they are there
pub record HasRoom (room : ℕ) (intents : Listed Intent) (outcomes : Listed Outcome) (blanks : Vec Packet Global) (bares : Vec (Listed Pair) Global) : Type 0 where
  pub packets : length blanks.items + length intents.items ≡ room
  pub replies : length bares.items + length outcomes.items ≡ room
  pub blank : All IsBlank blanks.items
  pub bare : All IsBare bares.items
  pub for_intents : length blanks.items ≤ intents.spare
  pub for_outcomes : length bares.items ≤ outcomes.spare
