-- The text of a log: its records, one after another. Numbers are big-endian, and signed ones in two's complement.
use Rattle.std.specs.Prelude.{ℕ, List, [], ◌∷◌, ◌++◌, length}
use Rattle.std.specs.List.{flat_map}
use Rattle.std.specs.Int.{w32, w64, to_be_bytes}
use Rattle.txn_model.specs.declared.pairs.Pair.{Pair}
use Rattle.switch_packet.specs.Packets.{PlainIntent, PlainOutcome, PlainLog}
use Rattle.switch_packet.specs.PacketText.{i64_text, packet_text}

-- the letter I, version 1 and two bytes of 0, the floor, and the packet's text
unfoldable pub intent_text : PlainIntent → List ℕ
intent_text i = 0x49 ∷ 1 ∷ 0 ∷ 0 ∷ to_be_bytes w64 i.floor ++ packet_text i.packet

-- what was found, and what was left
unfoldable pub pair_text : Pair → List ℕ
pair_text p = i64_text p.was ++ i64_text p.now

-- the letter O, version 1, how many pairs there are and a byte of 0, the item, the packet's number, and the pairs
unfoldable pub outcome_text : PlainOutcome → List ℕ
outcome_text o = 0x4f ∷ 1 ∷ length o.pairs ∷ 0 ∷ to_be_bytes w32 o.seq ++ to_be_bytes w64 o.number ++ flat_map pair_text o.pairs

-- the intents, each followed by its outcome where there is one
abbrev pub records_text : List PlainIntent → List PlainOutcome → List ℕ
records_text [] outcomes = []
records_text (i ∷ intents) [] = intent_text i ++ records_text intents []
records_text (i ∷ intents) (o ∷ outcomes) = intent_text i ++ (outcome_text o ++ records_text intents outcomes)

-- what whole records say of a log, as they stand in it
abbrev pub log_text : PlainLog → List ℕ
log_text log = records_text log.intents log.outcomes
