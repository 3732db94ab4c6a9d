use Rattle.std.proofs.Common.{◌≡◌, sym, ap, subst, ◌∙◌}
use Rattle.switch_packet.specs.PacketText.{packet_text}
use Rattle.switch_packet.specs.Packets.{PlainPacket}
use Rattle.switch_packet.specs.Ranges.{IsPacket}
use Rattle.pipeline.specs.Plain.{PlainPipeline}
use Rattle.pipeline.specs.Planned.{IsPosting}
use Rattle.pipeline.specs.Rows.{posted}
use Rattle.pipeline.proofs.Posts.{IsPostedSeat, posted_keeps, posted_shown}
use Rattle.pipeline.proofs.Views.{view}
use Rattle.pipeline.proofs.pipeline.Pipeline.post.Goals as goal

abbrev before : goal.After-self-1 → PlainPipeline
before c = view c.self.inside.shape c.self.inside.stages.items c.self.inside.slots.items c.self.inside.seats.items c.self.inside.halves c.self.inside.next

posting : (c : goal.After-self-1) → IsPosting (before c) c.args.client c.args.bytes.now
posting c = subst (λ (p : PlainPipeline). IsPosting p c.args.client c.args.bytes.now) (sym c.self.view_is) c.requires

seat_is : (c : goal.After-self-1) (packet : PlainPacket) → IsPacket packet → c.args.bytes.now ≡ packet_text packet → IsPostedSeat packet c.post.new.self
seat_is c packet is text = let h = c.post.ensures in record { spot = h.spot; packet = h.packet packet is text; pairs = h.pairs; pass = h.pass.0; number = h.pass.1; room = h.room }

pub invariant_of-self : goal.invariant_of-self
invariant_of-self c =
    let p = posting c in
    record {
      stages = c.self.invariant.stages;
      seated = posted_keeps c.self.inside.shape c.self.inside.stages.items c.self.inside.slots.items c.self.inside.seats.items c.self.inside.halves c.self.inside.next c.args.client c.args.bytes.now
          c.post.new.self c.self.invariant.seated p (seat_is c p.packet p.is_packet p.text);
    }

pub returns : goal.returns
returns c packet is text =
    posted_shown c.self.inside.shape c.self.inside.stages.items c.self.inside.slots.items c.self.inside.seats.items c.self.inside.halves c.self.inside.next c.args.client packet c.post.new.self
    c.self.invariant.seated (posting c).vacant (seat_is c packet is text)
    ∙ ap (λ (p : PlainPipeline). posted p c.args.client packet) c.self.view_is
