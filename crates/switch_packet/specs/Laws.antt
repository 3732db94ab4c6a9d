-- Laws of packets.
use Rattle.std.specs.Prelude.{◌≡◌, ◌≤◌, ℕ, List, ◌++◌, length}
use Rattle.switch_packet.specs.Packets.{PlainPacket}
use Rattle.switch_packet.specs.Ranges.{Fits, IsPacket}
use Rattle.switch_packet.specs.PacketText.{packet_text}
use Rattle.switch_packet.specs.Replay.{replay, replay_all}
use Rattle.switch_packet.specs.PlaceChain.{HasPlaceChains, with_pairs}
use Rattle.txn_model.specs.Places.{Places}

-- each text is that of one packet, and none begins another, whatever follows
abbrev pub TextsDiffer : Type 0
TextsDiffer = (p q : PlainPacket) (x y : List ℕ) → IsPacket p → IsPacket q → packet_text p ++ x ≡ packet_text q ++ y → (p ≡ q) × (x ≡ y)

-- no text is longer, and some packet has a text of this length
abbrev pub IsLongestText : ℕ → Type 0
IsLongestText most = ((p : PlainPacket) → Fits p → length (packet_text p) ≤ most) × ((p : PlainPacket) × IsPacket p × (length (packet_text p) ≡ most))

-- a packet gives one pair per operation
abbrev pub OnePairEach : Type 0
OnePairEach = (p : PlainPacket) (m : Places) → length (replay p m).pairs ≡ length p.ops

-- first the packets of a, and then those of b on the map that the former left
abbrev pub ReplaysInTurn : Type 0
ReplaysInTurn = (a b : List PlainPacket) (m : Places) →
    let first = replay_all a m in
    let second = replay_all b first.after in
    replay_all (a ++ b) m ≡ record { pairs = first.pairs ++ second.pairs; after = second.after }

-- the pairs of a replay are local and form a chain at each place, and its last map has what the chains end with
abbrev pub ReplaysAreChains : Type 0
ReplaysAreChains = (ps : List PlainPacket) (m : Places) → HasPlaceChains (with_pairs ps (replay_all ps m).pairs) m (replay_all ps m).after
