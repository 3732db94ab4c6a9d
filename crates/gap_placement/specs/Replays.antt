-- What is asked of packets and changes before a map is changed by them.
use Rattle.std.specs.Prelude.{◌≡◌, ◌<◌, ◌≤◌, ℕ, List, length, slice_get, Some, is_some, true}
use Rattle.std.specs.FinMap as fin
use Rattle.std.specs.List.{AllByRecursion}
use Rattle.txn_model.specs.Needs.{needs_list}
use Rattle.txn_model.specs.Places.{Places}
use Rattle.txn_model.specs.declared.place.Place.{Place}
use Rattle.switch_packet.specs.declared.packet.PacketOp.{PacketOp}
use Rattle.switch_packet.specs.Packets.{PlainPacket}
use Rattle.gap_placement.specs.declared.change.Change.{Change}

-- each operation needs earlier ones alone
abbrev pub NeedsEarlier : List PacketOp → Type 0
NeedsEarlier ops = (i : ℕ) (op : PacketOp) → slice_get ops i ≡ Some op → AllByRecursion (λ need. need.from < i) (needs_list op.needs)

-- the changes' places are in the map
abbrev pub HasPlaces : Places → List Change → Type 0
HasPlaces m changes = AllByRecursion (λ c. is_some (fin.get m c.place) ≡ true) changes

-- the packet can be replayed on the map
pub record CanReplay (m : Places) (p : PlainPacket) : Type 0 where
  pub few : length p.ops ≤ 16
  pub earlier : NeedsEarlier p.ops
  pub there : (i : ℕ) (op : PacketOp) → slice_get p.ops i ≡ Some op → is_some (fin.get m op.place) ≡ true

-- the maps have the same places
abbrev pub SamePlaces : Places → Places → Type 0
SamePlaces m n = (place : Place) → is_some (fin.get n place) ≡ is_some (fin.get m place)
