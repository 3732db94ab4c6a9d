-- The operations that were executed so far.
use Rattle.std.specs.Prelude.{List, filter}
use Rattle.std.specs.List.{flat_map}
use Rattle.switch_packet.specs.PlaceChain.{PacketStep, packet_steps}
use Rattle.switch_model.specs.Flight.{Flight, is_executed}

-- those of a packet, with their pairs
abbrev pub executed_steps : Flight → List PacketStep
executed_steps f = filter (λ step. is_executed f step.0) (packet_steps f.packet.ops f.pairs)

-- those of all packets, in the order of their numbers
abbrev pub all_executed : List Flight → List PacketStep
all_executed flights = flat_map executed_steps flights
