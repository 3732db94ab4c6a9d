-- How long texts are.
use Rattle.std.proofs.Common.{◌≡◌, ℕ, ◌+◌, ◌*◌, ◌≤◌, ℤ, List, [], ◌∷◌, length, refl, arith}
use Rattle.std.specs.List.{flat_map}
use Rattle.std.proofs.lemmas.List.{length-append}
use Rattle.txn_model.specs.Needs.{needs_list}
use Rattle.txn_model.specs.declared.op.Act.{Act}
use Rattle.txn_model.specs.declared.op.Act.TheVariants.{Read, Put, Add, Choose}
use Rattle.txn_model.specs.declared.op.Need.{Need}
use Rattle.txn_model.proofs.NeedsLaws.{length-needs_list-le}
use Rattle.switch_packet.specs.declared.packet.PacketOp.{PacketOp}
use Rattle.switch_packet.specs.Packets.{PlainPacket}
use Rattle.switch_packet.specs.Ranges.{OpsFit, Fits, act_numbers}
use Rattle.switch_packet.specs.PacketText.{i64_text, need_text, op_text, packet_text}
use Rattle.switch_packet.proofs.NeedsLaws.{none_below}

length-i64_texts : (zs : List ℤ) → length (flat_map i64_text zs) ≡ 8 * length zs
length-i64_texts [] = refl
length-i64_texts (z ∷ zs) = omega (arith, length-i64_texts zs, length-append (i64_text z) (flat_map i64_text zs))

length-need_texts : (ns : List Need) → length (flat_map need_text ns) ≡ 2 * length ns
length-need_texts [] = refl
length-need_texts (n ∷ ns) = omega (arith, length-need_texts ns)

length-act_numbers-le : (act : Act) → length (act_numbers act) ≤ 3
length-act_numbers-le Read = omega arith
length-act_numbers-le (Put base) = omega arith
length-act_numbers-le (Add base) = omega arith
length-act_numbers-le (Choose limit above below) = omega arith

pub length-op_text : (op : PacketOp) → length (op_text op) ≡ 16 + 8 * length (act_numbers op.act) + 2 * length (needs_list op.needs)
unfolding op_text
length-op_text op =
    omega (arith, length-append (flat_map i64_text (act_numbers op.act)) (flat_map need_text (needs_list op.needs)), length-i64_texts (act_numbers op.act), length-need_texts (needs_list op.needs))

length-op_text-le : (op : PacketOp) → length (op_text op) ≤ 40 + 2 * length (needs_list op.needs)
length-op_text-le op = omega (arith, length-op_text op, length-act_numbers-le op.act)

length-op_texts-le : (ops : List PacketOp) → length (flat_map op_text ops) ≤ 48 * length ops
length-op_texts-le [] = omega arith
length-op_texts-le (op ∷ ops) =
    omega (arith, length-op_texts-le ops, length-op_text-le op, length-needs_list-le op.needs, length-append (op_text op) (flat_map op_text ops))

-- the first operation has no needs
length-all_ops-le : (passes : ℕ) (ops : List PacketOp) → OpsFit passes 0 ops → 1 ≤ length ops → length (flat_map op_text ops) + 8 ≤ 48 * length ops
length-all_ops-le passes [] fits some = absurd (omega arith)
length-all_ops-le passes (op ∷ ops) fits some =
    omega (arith, length-op_texts-le ops, length-op_text-le op, none_below (needs_list op.needs) fits.0.earlier, length-append (op_text op) (flat_map op_text ops))

pub length-packet_text-le : (p : PlainPacket) → Fits p → length (packet_text p) ≤ 772
unfolding packet_text
length-packet_text-le p fits = omega (arith, length-all_ops-le p.passes p.ops fits.ops fits.count.0, fits.count.1)
