-- What packets do, one after another, to one place map.
use Rattle.std.specs.Prelude.{◌≡◌, ℕ, ℤ, pos, Bool, true, false, List, [], ◌∷◌, ◌++◌, drop, Some, slice_get, unwrap_or}
use Rattle.std.specs.FinMap as fin
use Rattle.txn_model.specs.Needs.{needs_list}
use Rattle.txn_model.specs.Places.{Places}
use Rattle.txn_model.specs.Serial.{operand, effect, pair_at}
use Rattle.txn_model.specs.declared.pairs.Pair.{Pair}
use Rattle.txn_model.specs.declared.place.Place.{Place}
use Rattle.switch_packet.specs.declared.packet.PacketOp.{PacketOp}
use Rattle.switch_packet.specs.Packets.{PlainPacket}

-- the number in the register at the place, and 0 where it isn't there
abbrev pub register_at : Places → Place → ℤ
register_at m place = unwrap_or (fin.get m place) (pos 0)

-- the pair of an operation that finds this number, after these pairs
abbrev pub packet_pair : PacketOp → List Pair → ℤ → Pair
packet_pair op done was = record { was = was; now = effect op.act was (operand (needs_list op.needs) op.bias done) }

-- the pair that an operation has then: that of its execution after these pairs where it is executed, and else its old one
abbrev pub pair_now : Bool → PacketOp → List Pair → Pair → ℤ → Pair
pair_now true op done old was = packet_pair op done was
pair_now false op done old was = old

-- the map then: where the operation is executed, its place has the new number
abbrev pub map_now : Bool → Places → Place → ℤ → Places
map_now true m place now = fin.insert m place now
map_now false m place now = m

-- the pairs of a packet's operations, and the map after them
pub record Replayed : Type 0 where
  pub pairs : List Pair
  pub after : Places

-- those of these operations that are due are executed in order, each on its place, behind operations with the pairs in done;
-- the others keep their pairs in rest
unfoldable pub execute : (PacketOp → Bool) → List PacketOp → List Pair → List Pair → Places → Replayed
execute due [] done rest m = record { pairs = done; after = m }
execute due (op ∷ ops) done rest m =
    let pair = pair_now (due op) op done (pair_at rest 0) (register_at m op.place) in
    execute due ops (done ++ pair ∷ []) (drop 1 rest) (map_now (due op) m op.place pair.now)

-- every operation is due
abbrev pub always : PacketOp → Bool
always op = true

-- the replay of a packet: all its operations in order, each on its place
abbrev pub replay : PlainPacket → Places → Replayed
replay p m = execute always p.ops [] [] m

-- no two operations are on one place
abbrev pub PlacesDiffer : List PacketOp → Type 0
PlacesDiffer ops = (i j : ℕ) (a b : PacketOp) → slice_get ops i ≡ Some a → slice_get ops j ≡ Some b → a.place ≡ b.place → i ≡ j

-- the pairs of each packet, and the map after the last
pub record ReplayedAll : Type 0 where
  pub pairs : List (List Pair)
  pub after : Places

-- the replay of a list of packets: each is executed whole on the map that the one before left
unfoldable pub replay_all : List PlainPacket → Places → ReplayedAll
replay_all [] m = record { pairs = []; after = m }
replay_all (p ∷ ps) m =
    let first = replay p m in
    let rest = replay_all ps first.after in
    record { pairs = first.pairs ∷ rest.pairs; after = rest.after }
