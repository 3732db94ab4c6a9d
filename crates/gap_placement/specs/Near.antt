-- The places that open packets touch, which are near, and legs that are shortened to them.
use Rattle.std.specs.Prelude.{◌≡◌, ℕ, Bool, true, ◌&&◌, ◌||◌, not, List, map, slice_get, Option, None, Some, is_some, if◌then◌else◌, ⊤}
use Rattle.std.specs.BTreeSet as set
use Rattle.std.specs.BTreeSet.{BTreeSet}
use Rattle.std.specs.FinMap as fin
use Rattle.std.specs.List.{list_any}
use Rattle.std.specs.Ordering.{is_eq}
use Rattle.txn_model.specs.Places.{Places, place_cmp}
use Rattle.txn_model.specs.declared.place.Place.{Place}
use Rattle.switch_packet.specs.Replay.{register_at}
use Rattle.switch_packet.specs.declared.packet.PacketOp.{PacketOp}
use Rattle.placement_model.specs.Placements.{Task}
use Rattle.gap_placement.specs.Changes.{walk}
use Rattle.gap_placement.specs.Facts.{Each, IfThere}
use Rattle.gap_placement.specs.Legs.{PlainLeg, start}
use Rattle.gap_placement.specs.Replays.{HasPlaces}
use Rattle.gap_placement.specs.declared.change.Change.{Change}

-- the place is in the map
abbrev pub has_place : Places → Place → Bool
has_place m place = is_some (fin.get m place)

-- the near map has rows of the whole one alone
abbrev pub IsPart : Places → Places → Type 0
IsPart near whole = (place : Place) → has_place near place ≡ true → fin.get whole place ≡ fin.get near place

-- the packet touches near places alone
abbrev pub OpsTouch : Places → List PacketOp → Type 0
OpsTouch near ops = (i : ℕ) (op : PacketOp) → slice_get ops i ≡ Some op → has_place near op.place ≡ true

abbrev pub Touches : Places → Task → Type 0
Touches near task = OpsTouch near task.intent.packet.ops

-- so does each packet that stands open
abbrev pub AllTouch : Places → List (Option Task) → Type 0
AllTouch near standing = Each (IfThere (Touches near)) standing

-- the whole map has at the near places what this one has, and what is known at the others
abbrev pub Splits : Places → Places → Places → Places → Type 0
Splits near known whole m = (place : Place) → register_at whole place ≡ (if has_place near place then register_at m place else register_at known place)

-- neither map is there, or both are, and the whole one is split so
abbrev pub BothSplit : Places → Places → Option Places → Option Places → Type 0
BothSplit near known None None = ⊤
BothSplit near known None (Some m) = ⊥
BothSplit near known (Some whole) None = ⊥
BothSplit near known (Some whole) (Some m) = Splits near known whole m

-- at the near places the short changes do what the changes do, which leave at the others what is known then
abbrev pub IsShort : Places → Places → List Change → Places → List Change → Type 0
IsShort near known changes after short = (whole m : Places) → Splits near known whole m → BothSplit near after (walk changes whole) (walk short m)

-- wherever that much is known, one of the changes contradicts
abbrev pub Contradicts : Places → Places → List Change → Type 0
Contradicts near known changes = (whole m : Places) → Splits near known whole m → walk changes whole ≡ None

pub record IsShortLeg (near known : Places) (leg : PlainLeg) (after : Places) (short : PlainLeg) : Type 0 where
  pub number : short.number ≡ leg.number
  pub changes : IsShort near known leg.changes after short.changes
  pub places : HasPlaces near short.changes

-- the leg that is shortened; none where it contradicts
abbrev pub IsShortOrNone : Places → Places → PlainLeg → Places → Option PlainLeg → Type 0
IsShortOrNone near known leg after None = Contradicts near known leg.changes
IsShortOrNone near known leg after (Some short) = IsShortLeg near known leg after short

-- what is found from these legs on; nothing where there are none
abbrev pub start_any : Option (List PlainLeg) → Places → List (Option Task) → Option (List Task)
start_any None m standing = None
start_any (Some legs) m standing = start legs m standing

-- from the short legs and the near map on the same is found as from the legs and the whole map
abbrev pub FindsAlike : Places → Option (List PlainLeg) → Places → List PlainLeg → Type 0
FindsAlike near short whole legs = (standing : List (Option Task)) → AllTouch near standing → start_any short near standing ≡ start legs whole standing

-- one of the changes is at the place
abbrev pub touched : List Change → Place → Bool
touched changes place = list_any (λ c. is_eq (place_cmp c.place place)) changes

-- the changes, each of which leaves what this map has at its place
abbrev pub leaving : Places → List Change → List Change
leaving m changes = map (λ c. record { place = c.place; was = c.was; now = register_at m c.place }) changes

-- the operations' places are in the set
abbrev pub AreIn : BTreeSet Place → List PacketOp → Type 0
AreIn places ops = (i : ℕ) (op : PacketOp) → slice_get ops i ≡ Some op → set.contains place_cmp places op.place ≡ true

-- what is in the one set is in the other
abbrev pub StayIn : BTreeSet Place → BTreeSet Place → Type 0
StayIn places more = (place : Place) → set.contains place_cmp places place ≡ true → set.contains place_cmp more place ≡ true

-- the place is near, and not yet among these
abbrev pub is_first_at : Places → BTreeSet Place → Place → Bool
is_first_at near places place = has_place near place && not (set.contains place_cmp places place)

-- the place is among them then, where it is the first one
abbrev pub IsTouched : Bool → Place → BTreeSet Place → BTreeSet Place → Type 0
IsTouched is_first place places more = (other : Place) → set.contains place_cmp more other ≡ (set.contains place_cmp places other || (is_first && is_eq (place_cmp place other)))
