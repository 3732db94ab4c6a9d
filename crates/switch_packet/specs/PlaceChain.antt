-- Chains of numbers at places: what each operation on a place finds is what the one before on that place left.
use Rattle.std.specs.Prelude.{◌≡◌, ℤ, Bool, List, [], ◌∷◌, ◌++◌, MatchBool, if◌then◌else◌, ⊤}
use Rattle.std.specs.List.{flat_map, AllByRecursion}
use Rattle.std.specs.Ordering.{is_eq}
use Rattle.txn_model.specs.Needs.{needs_list}
use Rattle.txn_model.specs.Places.{Places, place_cmp}
use Rattle.txn_model.specs.Serial.{operand, effect}
use Rattle.txn_model.specs.declared.pairs.Pair.{Pair}
use Rattle.txn_model.specs.declared.place.Place.{Place}
use Rattle.switch_packet.specs.declared.packet.PacketOp.{PacketOp}
use Rattle.switch_packet.specs.Packets.{PlainPacket}
use Rattle.switch_packet.specs.Replay.{register_at}

-- a packet with the pairs of its operations
abbrev pub AnsweredPacket : Type 0
AnsweredPacket = PlainPacket × List Pair

-- an operation with its pair
abbrev pub PacketStep : Type 0
PacketStep = PacketOp × Pair

-- the operations of a packet with their pairs
abbrev pub packet_steps : List PacketOp → List Pair → List PacketStep
packet_steps [] pairs = []
packet_steps (op ∷ ops) [] = []
packet_steps (op ∷ ops) (p ∷ ps) = (op, p) ∷ packet_steps ops ps

-- the operations of all packets with their pairs, in order
abbrev pub all_packet_steps : List AnsweredPacket → List PacketStep
all_packet_steps h = flat_map (λ e. packet_steps e.0.ops e.1) h

-- behind the pairs in done, there is a pair for each operation, and what it leaves is the effect of what it found and of the
-- packet's own pairs
abbrev pub IsLocalFrom : List Pair → List PacketOp → List Pair → Type 0
IsLocalFrom done [] [] = ⊤
IsLocalFrom done [] (p ∷ ps) = ⊥
IsLocalFrom done (op ∷ ops) [] = ⊥
IsLocalFrom done (op ∷ ops) (p ∷ ps) = (p.now ≡ effect op.act p.was (operand (needs_list op.needs) op.bias done)) × IsLocalFrom (done ++ p ∷ []) ops ps

-- the pairs of a packet are local: they follow from what was found alone
abbrev pub IsLocalPacket : AnsweredPacket → Type 0
IsLocalPacket e = IsLocalFrom [] e.0.ops e.1

-- the step is on the place
abbrev pub is_on : Place → PacketStep → Bool
is_on place step = is_eq (place_cmp place step.0.place)

-- from v on, each step on the place finds what the one before left
abbrev pub PlaceChain : Place → ℤ → List PacketStep → Type 0
PlaceChain place v [] = ⊤
PlaceChain place v (step ∷ steps) = MatchBool (is_on place step) ((step.1.was ≡ v) × PlaceChain place step.1.now steps) (PlaceChain place v steps)

-- the number that the last step on the place left, and v where there is none
abbrev pub last_number : Place → ℤ → List PacketStep → ℤ
last_number place v [] = v
last_number place v (step ∷ steps) = last_number place (if is_on place step then step.1.now else v) steps

-- local packets whose numbers form chains from this map on, and what they leave is the other map
pub record HasPlaceChains (h : List AnsweredPacket) (m after : Places) : Type 0 where
  pub local : AllByRecursion IsLocalPacket h
  pub chains : (place : Place) → PlaceChain place (register_at m place) (all_packet_steps h)
  pub last : (place : Place) → register_at after place ≡ last_number place (register_at m place) (all_packet_steps h)

-- packets with these pairs; those beyond the shorter list are left out
abbrev pub with_pairs : List PlainPacket → List (List Pair) → List AnsweredPacket
with_pairs [] pairs = []
with_pairs (p ∷ ps) [] = []
with_pairs (p ∷ ps) (pairs ∷ rest) = (p, pairs) ∷ with_pairs ps rest
