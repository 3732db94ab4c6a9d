-- Packets that may be posted.
use Rattle.std.specs.Prelude.{◌≡◌, ℕ, ◌<◌, List, map, length, IsTrue}
use Rattle.std.specs.List.{AllByRecursion}
use Rattle.stage_layout.specs.Passes.{plan_of, greatest}
use Rattle.stage_layout.specs.Shape.{has_place}
use Rattle.stage_layout.specs.declared.pass_plan.HotOp.{HotOp}
use Rattle.stage_layout.specs.declared.shape.Shape.{Shape}
use Rattle.switch_packet.specs.PacketText.{packet_text}
use Rattle.switch_packet.specs.Packets.{PlainPacket}
use Rattle.switch_packet.specs.Ranges.{IsPacket}
use Rattle.pipeline.specs.Plain.{PlainPipeline}
use Rattle.pipeline.specs.Rows.{IsVacant}

-- the operations as a pass plan has them
abbrev pub hot_ops : PlainPacket → List HotOp
hot_ops p = map (λ op. record { place = op.place; needs = op.needs }) p.ops

-- the packet's places are in the shape, and its passes and halves are those of the pass plan of its operations
pub record HasPlan (shape : Shape) (p : PlainPacket) : Type 0 where
  pub places : AllByRecursion (λ op. IsTrue (has_place shape op.place)) p.ops
  pub each : map (λ op. op.pass) p.ops ≡ (plan_of shape (hot_ops p)).passes
  pub passes : p.passes ≡ greatest (plan_of shape (hot_ops p)).passes
  pub halves : p.halves ≡ (plan_of shape (hot_ops p)).halves

-- the bytes are the text of a packet of this client that is planned so, and the client has nothing under way
pub record IsPosting (s : PlainPipeline) (client : ℕ) (bytes : List ℕ) : Type 0 where
  pub packet : PlainPacket
  pub is_packet : IsPacket packet
  pub text : bytes ≡ packet_text packet
  pub own : packet.client ≡ client
  pub planned : HasPlan s.shape packet
  pub there : client < length s.waiting
  pub vacant : IsVacant s client
