-- What a client's log has of a transaction with a packet.
use Rattle.std.specs.Prelude.{ℕ, ℤ, List, [], ◌∷◌, ◌++◌, map}
use Rattle.txn_model.specs.declared.stamp.Seen.{Seen}
use Rattle.switch_packet.specs.Packets.{PlainPacket, PlainIntent, PlainOutcome}
use Rattle.warm_split.specs.Resolved.{packet_of}
use Rattle.catalogue.specs.Plan.{Plan}
use Rattle.core_model.specs.State.{ClientState, script_now}
use Rattle.core_model.specs.Decision.{greatest}
use Rattle.fabric_model.specs.State.{Records}

abbrev pub values_of : List Seen → List ℤ
values_of noted = map (λ seen. seen.value) noted

-- the packet of a client's present item, with what it read under its locks
abbrev pub packet_now : Plan → ℕ → ClientState → PlainPacket
packet_now plan c client = packet_of plan.shape plan.layout c client.seq (script_now plan c client) (values_of client.noted)

-- the packet's number will be above that of the client's last stamp and above those of the stamps that it read
abbrev pub intent_now : Plan → ℕ → ClientState → PlainIntent
intent_now plan c client = record { floor = (greatest client.last client.noted).number; packet = packet_now plan c client }

abbrev pub with_intent : PlainIntent → Records → Records
with_intent intent log = record log { intents = log.intents ++ intent ∷ [] }

abbrev pub with_outcome : PlainOutcome → Records → Records
with_outcome outcome log = record log { outcomes = log.outcomes ++ outcome ∷ [] }
