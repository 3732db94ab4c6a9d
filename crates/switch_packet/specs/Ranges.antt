-- The ranges of a packet's fields.
use Rattle.std.specs.Prelude.{◌≡◌, ℕ, ◌+◌, ◌≤◌, ◌<◌, ◌^◌, ℤ, pos, IsTrue, List, [], ◌∷◌, length, FitsSigned}
use Rattle.std.specs.Int.{w64}
use Rattle.std.specs.List.{AllByRecursion}
use Rattle.txn_model.specs.Needs.{needs_list}
use Rattle.txn_model.specs.ScriptCheck.{is_read}
use Rattle.txn_model.specs.declared.op.Act.{Act}
use Rattle.txn_model.specs.declared.op.Act.TheVariants.{Read, Put, Add, Choose}
use Rattle.switch_packet.specs.declared.packet.PacketOp.{PacketOp}
use Rattle.switch_packet.specs.Packets.{PlainPacket}

-- n is one of 1 to most
abbrev pub IsOneTo : ℕ → ℕ → Type 0
IsOneTo most n = (1 ≤ n) × (n ≤ most)

-- operation k of a packet of so many passes has its fields in their ranges
pub record OpFits (passes k : ℕ) (op : PacketOp) : Type 0 where
  pub pass : IsOneTo passes op.pass
  pub stage : op.place.stage < 12
  pub array : op.place.array < 4
  pub cell : op.place.cell < 4096
  pub earlier : AllByRecursion (λ need. need.from < k) (needs_list op.needs)
  pub read : IsTrue (is_read op.act) → (op.bias ≡ pos 0) × (needs_list op.needs ≡ [])

-- so have the operations from operation k on
abbrev pub OpsFit : ℕ → ℕ → List PacketOp → Type 0
OpsFit passes k [] = Unit {0}
OpsFit passes k (op ∷ ops) = OpFits passes k op × OpsFit passes (k + 1) ops

-- the packet has its fields in their ranges, and its operations theirs
pub record Fits (p : PlainPacket) : Type 0 where
  pub client : p.client < 8
  pub passes : IsOneTo 16 p.passes
  pub halves : IsOneTo 3 p.halves
  pub count : IsOneTo 16 (length p.ops)
  pub ops : OpsFit p.passes 0 p.ops

-- the numbers that an act carries
abbrev pub act_numbers : Act → List ℤ
act_numbers Read = []
act_numbers (Put base) = base ∷ []
act_numbers (Add base) = base ∷ []
act_numbers (Choose limit above below) = limit ∷ above ∷ below ∷ []

-- the signed numbers are those of their type, as in every operation that a program holds
pub record OpIsTyped (op : PacketOp) : Type 0 where
  pub bias : FitsSigned w64 op.bias
  pub act : AllByRecursion (FitsSigned w64) (act_numbers op.act)

-- all numbers are those of their types, as in every packet that a program holds
pub record IsTyped (p : PlainPacket) : Type 0 where
  pub seq : p.seq < 2 ^ 32
  pub ops : AllByRecursion OpIsTyped p.ops

-- a packet that has a text
pub record IsPacket (p : PlainPacket) : Type 0 where
  pub fits : Fits p
  pub typed : IsTyped p
