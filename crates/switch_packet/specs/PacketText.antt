-- A packet as bytes. Numbers are big-endian, and signed ones are in two's complement.
use Rattle.std.specs.Prelude.{ℕ, ℤ, List, [], ◌∷◌, ◌++◌, length}
use Rattle.std.specs.List.{flat_map}
use Rattle.std.specs.Int.{w16, w32, w64, to_be_bytes, cast_unsigned}
use Rattle.txn_model.specs.Needs.{needs_list}
use Rattle.txn_model.specs.declared.op.Act.{Act}
use Rattle.txn_model.specs.declared.op.Act.TheVariants.{Read, Put, Add, Choose}
use Rattle.txn_model.specs.declared.op.Need.{Need}
use Rattle.txn_model.specs.declared.op.Which.{Which}
use Rattle.txn_model.specs.declared.op.Which.TheVariants.{Old, Moved}
use Rattle.switch_packet.specs.declared.packet.PacketOp.{PacketOp}
use Rattle.switch_packet.specs.Packets.{PlainPacket}
use Rattle.switch_packet.specs.Ranges.{act_numbers}

-- a signed number in 8 bytes
abbrev pub i64_text : ℤ → List ℕ
i64_text z = to_be_bytes w64 (cast_unsigned w64 z)

-- which act it is
abbrev pub act_byte : Act → ℕ
act_byte Read = 0
act_byte (Put base) = 1
act_byte (Add base) = 2
act_byte (Choose limit above below) = 3

-- which part of an earlier pair is needed
abbrev pub which_byte : Which → ℕ
which_byte Old = 0
which_byte Moved = 1

-- the operation that is needed, and which part of its pair
abbrev pub need_text : Need → List ℕ
need_text need = need.from ∷ which_byte need.which ∷ []

-- 16 bytes, then the numbers of the act, then the needs
unfoldable pub op_text : PacketOp → List ℕ
op_text op =
    op.pass ∷ op.place.stage ∷ op.place.array ∷ act_byte op.act ∷ to_be_bytes w16 op.place.cell
    ++ length (needs_list op.needs) ∷ 0 ∷ i64_text op.bias
    ++ flat_map i64_text (act_numbers op.act)
    ++ flat_map need_text (needs_list op.needs)

-- 12 bytes, then the operations
unfoldable pub packet_text : PlainPacket → List ℕ
packet_text p =
    0x50 ∷ 1 ∷ p.client ∷ 0 ∷ to_be_bytes w32 p.seq
    ++ p.passes ∷ p.halves ∷ length p.ops ∷ 0 ∷ []
    ++ flat_map op_text p.ops
