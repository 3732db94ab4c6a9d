use Rattle.std.proofs.Common.{refl}
use Rattle.txn_model.specs.Needs.{needs_list}
use Rattle.switch_packet.specs.PacketText.{need_text}
use Rattle.switch_packet.proofs.WritingLaws.{Adds-as, IsAdding-more}
use Rattle.switch_packet.proofs.encode.push_needs.Goals as goal

pub loop-i-preserved : goal.loop-i-preserved
loop-i-preserved c =
    IsAdding-more need_text (needs_list c.args.needs.now) c.loop-i.i c.get-need.result c.args.to.now c.loop-i.to c.push_bytes.new.to _ c.get-need.ensures c.loop-i.invariant
    (Adds-as (rw c.which_byte.ensures refl) c.push_bytes.ensures)
