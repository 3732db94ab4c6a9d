-- Packets of a session that fit its switch.
use Rattle.std.specs.Prelude.{◌≡◌, ℕ, ℤ, true, List}
use Rattle.switch_packet.specs.Packets.{PlainPacket}
use Rattle.switch_packet.specs.Ranges.{Fits}
use Rattle.switch_model.specs.Fitting.{FitsSwitch, IsPlanned}
use Rattle.warm_split.specs.Resolved.{packet_of}
use Rattle.catalogue.specs.Plan.{Plan, script_at}
use Rattle.fabric_model.specs.Step.{has_hot}

-- that holds of the packet of each transaction with an operation in the switch, whatever its operations on hosts find
abbrev pub OfPackets : Plan → (PlainPacket → Type 0) → Type 0
OfPackets plan P = (client seq : ℕ) (values : List ℤ) → has_hot plan (script_at plan client seq) ≡ true → P (packet_of plan.shape plan.layout client seq (script_at plan client seq) values)

-- they fit the switch
abbrev pub PacketsFit : Plan → Type 0
PacketsFit plan = OfPackets plan (FitsSwitch plan.shape)

-- they were planned for it
abbrev pub PacketsArePlanned : Plan → Type 0
PacketsArePlanned plan = OfPackets plan (IsPlanned plan.shape)

-- all their fields are in the ranges that a packet's text has
abbrev pub PacketsHaveRanges : Plan → Type 0
PacketsHaveRanges plan = OfPackets plan Fits
