-- Reading a packet from left to right, with the first fault that is met.
use Rattle.std.specs.Prelude.{◌≡◌, drop, ℕ, zero, suc, ℤ, pos, ◌-◌, ◌/◌, List, [], ◌∷◌, Result, Ok, Err, ◌||◌, ◌==◌, if◌then◌else◌}
use Rattle.std.specs.Int.{w16, from_be_bytes}
use Rattle.txn_model.specs.Needs.{needs_of}
use Rattle.txn_model.specs.declared.op.Act.{Act}
use Rattle.txn_model.specs.declared.op.Act.TheVariants.{Read, Put, Add, Choose}
use Rattle.txn_model.specs.declared.op.Need.{Need}
use Rattle.txn_model.specs.declared.op.Needs.{Needs}
use Rattle.txn_model.specs.declared.op.Which.{Which}
use Rattle.txn_model.specs.declared.op.Which.TheVariants.{Old, Moved}
use Rattle.switch_packet.specs.declared.fault.PacketFault.{PacketFault}
use Rattle.switch_packet.specs.declared.decode.OpHead.{OpHead}
use Rattle.switch_packet.specs.declared.decode.PacketHead.{PacketHead}
use Rattle.switch_packet.specs.declared.packet.PacketOp.{PacketOp}
use Rattle.switch_packet.specs.Packets.{PlainPacket}
use Rattle.switch_packet.specs.Reading.{Cursor, ◌>>=◌, byte_at, zeros_at, u32_at, i64_at, each_at}

-- ---- operations

-- a cell, the highest byte first: below 4,096
unfoldable pub cell_at : Cursor → Result (ℕ × Cursor) PacketFault
cell_at c = do
  high ← byte_at 0 15 c
  low ← byte_at 0 255 high.1
  Ok (from_be_bytes w16 (high.0 ∷ low.0 ∷ []), low.1)

-- the most needs that operation k may have, where the act has this byte
abbrev pub most_needs : ℕ → ℕ → ℕ
most_needs act k = if act == 0 || k == 0 then 0 else 4

-- the first 8 bytes of operation k
unfoldable pub op_head_at : ℕ → ℕ → Cursor → Result (OpHead × Cursor) PacketFault
op_head_at passes k c = do
  pass ← byte_at 1 passes c
  stage ← byte_at 0 11 pass.1
  array ← byte_at 0 3 stage.1
  act ← byte_at 0 3 array.1
  cell ← cell_at act.1
  needs ← byte_at 0 (most_needs act.0 k) cell.1
  reserved ← byte_at 0 0 needs.1
  Ok (record { pass = pass.0; place = record { stage = stage.0; array = array.0; cell = cell.0 }; act = act.0; needs = needs.0 }, reserved.1)

-- the bias of an operation whose act has this byte
unfoldable pub bias_at : ℕ → Cursor → Result (ℤ × Cursor) PacketFault
bias_at zero c = do
  zeros ← zeros_at 8 c
  Ok (pos 0, zeros.1)
bias_at (suc act) c = i64_at c

-- the act that has this byte: read, put, add and choose in this order
unfoldable pub act_at : ℕ → Cursor → Result (Act × Cursor) PacketFault
act_at zero c = Ok (Read, c)
act_at (suc zero) c = do
  base ← i64_at c
  Ok (Put base.0, base.1)
act_at (suc (suc zero)) c = do
  base ← i64_at c
  Ok (Add base.0, base.1)
act_at (suc (suc (suc act))) c = do
  limit ← i64_at c
  above ← i64_at limit.1
  below ← i64_at above.1
  Ok (Choose limit.0 above.0 below.0, below.1)

-- what this byte stands for
abbrev pub which_of : ℕ → Which
which_of zero = Old
which_of (suc b) = Moved

-- a need of operation k
unfoldable pub need_at : ℕ → Cursor → Result (Need × Cursor) PacketFault
need_at k c = do
  from ← byte_at 0 (k - 1) c
  which ← byte_at 0 1 from.1
  Ok (record { from = from.0; which = which_of which.0 }, which.1)

-- so many needs of operation k
unfoldable pub needs_at : ℕ → ℕ → Cursor → Result (Needs × Cursor) PacketFault
needs_at k count c = do
  needs ← each_at (λ _. need_at k) 0 count c
  Ok (needs_of needs.0, needs.1)

-- operation k of a packet of so many passes
unfoldable pub op_at : ℕ → ℕ → Cursor → Result (PacketOp × Cursor) PacketFault
op_at passes k c = do
  head ← op_head_at passes k c
  bias ← bias_at head.0.act head.1
  act ← act_at head.0.act bias.1
  needs ← needs_at k head.0.needs act.1
  Ok (record { pass = head.0.pass; place = head.0.place; act = act.0; bias = bias.0; needs = needs.0 }, needs.1)

-- ---- packets

-- the first 12 bytes
unfoldable pub packet_head_at : Cursor → Result (PacketHead × Cursor) PacketFault
packet_head_at c = do
  mark ← byte_at 0x50 0x50 c
  version ← byte_at 1 1 mark.1
  client ← byte_at 0 7 version.1
  reserved ← byte_at 0 0 client.1
  seq ← u32_at reserved.1
  passes ← byte_at 1 16 seq.1
  halves ← byte_at 1 3 passes.1
  ops ← byte_at 1 16 halves.1
  reserved_too ← byte_at 0 0 ops.1
  Ok (record { client = client.0; seq = seq.0; passes = passes.0; halves = halves.0; ops = ops.0 }, reserved_too.1)

-- a packet
unfoldable pub packet_at : Cursor → Result (PlainPacket × Cursor) PacketFault
packet_at c = do
  head ← packet_head_at c
  ops ← each_at (op_at head.0.passes) 0 head.0.ops head.1
  Ok (record { client = head.0.client; seq = head.0.seq; passes = head.0.passes; halves = head.0.halves; ops = ops.0 }, ops.1)

-- what decoding answered is what reading gives
abbrev pub Decodes : PlainPacket → List ℕ → Result ℕ PacketFault → Result (PlainPacket × Cursor) PacketFault → Type 0
Decodes to bytes (Ok n) read = read ≡ Ok (to, record { at = n; left = drop n bytes })
Decodes to bytes (Err e) read = read ≡ Err e
