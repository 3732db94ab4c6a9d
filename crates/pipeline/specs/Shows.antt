-- When a pipeline shows a state of the switch's model.
use Rattle.std.specs.Prelude.{◌≡◌, ℕ, ◌<◌, length}
use Rattle.stage_layout.specs.declared.shape.Shape.{Shape}
use Rattle.switch_packet.specs.Packets.{PlainPacket}
use Rattle.switch_model.specs.Fitting.{IsPlanned}
use Rattle.switch_model.specs.Flight.{flight_at}
use Rattle.switch_model.specs.Switch.{Switch, Posted, desk_at}
use Rattle.pipeline.specs.Plain.{PlainPipeline}
use Rattle.pipeline.specs.Seen.{seen_of}

-- all packets that have entered, and those that wait for their first pass, are planned for this shape
pub record ArePlanned (shape : Shape) (s : Switch) : Type 0 where
  pub entered : (k : ℕ) → k < length s.flights → IsPlanned shape (flight_at s.flights k).packet
  pub posted : (c : ℕ) (p : PlainPacket) → desk_at s c ≡ Posted p → IsPlanned shape p

-- what is seen of the pipeline is what is seen of the state
pub record Shows (shape : Shape) (seen : PlainPipeline) (s : Switch) : Type 0 where
  pub is : seen ≡ seen_of shape s
  pub planned : ArePlanned shape s
