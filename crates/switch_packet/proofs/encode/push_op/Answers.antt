use Rattle.std.proofs.Common.{refl, rules, w64, SFits}
use Rattle.std.proofs.lemmas.Int.{to_z-of_z}
use Rattle.switch_packet.specs.PacketText.{op_text}
use Rattle.switch_packet.proofs.WritingLaws.{Adds-then, Adds-as}
use Rattle.switch_packet.proofs.encode.push_op.Goals as goal

pub returns-clause-added : goal.returns-clause-added
unfolding op_text
returns-clause-added c =
    let fits : SFits w64 c.args.op.now.bias = search rules in
    let bias = rw (to_z-of_z w64 c.args.op.now.bias fits) at c.push_i64.ensures in
    Adds-as (rw (c.act_byte.ensures, c.len.ensures.value) refl)
    (Adds-then (Adds-then (Adds-then (Adds-then (Adds-then c.push_bytes.ensures c.push_u16.ensures) c.push_bytes-2.ensures) bias) c.push_act.ensures.added) c.push_needs.ensures)

pub returns-clause-typed : goal.returns-clause-typed
returns-clause-typed c = record { bias = search rules; act = c.push_act.ensures.typed }
