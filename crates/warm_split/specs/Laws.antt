-- Laws of warm transactions.
use Rattle.std.specs.Prelude.{◌≡◌, ◌↔◌, ℕ, ℤ, List, [], length, Some}
use Rattle.std.specs.List.{AllByRecursion}
use Rattle.txn_model.specs.Local as script
use Rattle.txn_model.specs.Places.{Places}
use Rattle.txn_model.specs.Serial.{serial}
use Rattle.txn_model.specs.Tuples.{Tuples, value_at}
use Rattle.txn_model.specs.declared.op.Op.{Op}
use Rattle.txn_model.specs.declared.op.TupleId.{TupleId}
use Rattle.txn_model.specs.declared.pairs.Pair.{Pair}
use Rattle.txn_model.specs.declared.place.Place.{Place}
use Rattle.stage_layout.specs.Layout.{place_of}
use Rattle.stage_layout.specs.declared.layout.LayoutRow.{LayoutRow}
use Rattle.stage_layout.specs.declared.shape.Shape.{Shape}
use Rattle.switch_packet.specs.PlaceChain as packet
use Rattle.switch_packet.specs.Replay.{register_at, replay}
use Rattle.warm_split.specs.Joined.{joined}
use Rattle.warm_split.specs.Resolved.{packet_of}
pub use Rattle.warm_split.specs.Sides.{IsOneVisit}
use Rattle.warm_split.specs.Sides.{hot_ops, hot_place, cold_values}

-- two tuples have two places
abbrev pub HavePlacesOfTheirOwn : List LayoutRow → Type 0
HavePlacesOfTheirOwn rows = (t u : TupleId) (place : Place) → place_of rows t ≡ Some place → place_of rows u ≡ Some place → t ≡ u

-- the registers of the script's hot tuples have their values in the map
abbrev pub HasRegisters : List LayoutRow → List Op → Tuples → Places → Type 0
HasRegisters rows ops m registers = AllByRecursion (λ op. register_at registers (hot_place rows op.tuple) ≡ value_at m op.tuple) (hot_ops rows ops)

-- what the operations on hosts find in a map and what the packet's find in its registers, joined, is the script's reply on the map
abbrev pub WarmRepliesAreSerial : Type 0
WarmRepliesAreSerial = (shape : Shape) (rows : List LayoutRow) (client seq : ℕ) (ops : List Op) (m : Tuples) (registers : Places) →
    IsOneVisit rows ops → HavePlacesOfTheirOwn rows → HasRegisters rows ops m registers →
    let values = cold_values rows ops m in
    let hot = (replay (packet_of shape rows client seq ops values) registers).pairs in
    joined rows ops values hot ≡ (serial ops m).reply

-- joined pairs follow from what the script's operations found exactly where the hot pairs follow from what the packet's did
abbrev pub JoinedAreLocal : Type 0
JoinedAreLocal = (shape : Shape) (rows : List LayoutRow) (client seq : ℕ) (ops : List Op) (values : List ℤ) (hot : List Pair) →
    IsOneVisit rows ops → length hot ≡ length (hot_ops rows ops) →
    script.IsLocalFrom [] ops (joined rows ops values hot) ↔ packet.IsLocalFrom [] (packet_of shape rows client seq ops values).ops hot
