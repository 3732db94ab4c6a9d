-- Laws over the states that the switch reaches.
use Rattle.std.specs.Prelude.{◌≡◌, ◌≢◌, ℕ, ◌+◌, ◌-◌, ◌*◌, ◌<◌, ◌≤◌, ◌==◌, ◌&&◌, ◌||◌, Bool, true, false, not, nat_le, List, [], ◌∷◌, ◌++◌, length, slice_get, slice_index_or, Some, IsSome}
use Rattle.std.specs.List.{AllByRecursion}
use Rattle.txn_model.specs.Places.{Places}
use Rattle.txn_model.specs.declared.place.Place.{Place}
use Rattle.stage_layout.specs.declared.shape.Shape.{Shape}
use Rattle.switch_packet.specs.Packets.{PlainPacket, blank_packet}
use Rattle.switch_packet.specs.PlaceChain.{PlaceChain, last_number}
use Rattle.switch_packet.specs.Replay.{register_at, replay_all}
use Rattle.switch_model.specs.Flight.{Flight, flight_at, is_done, is_early, is_held, packet_touches}
use Rattle.switch_model.specs.Switch.{Switch, Desk, Vacant, Posted, Entered, Answer, desk_at, entered, answer_of, restored, fresh_switch}
use Rattle.switch_model.specs.Event.{Event, Post, Enter, Advance, Take, step, enter, advance, take_answer}
use Rattle.switch_model.specs.Executed.{all_executed}
use Rattle.switch_model.specs.Fitting.{FitsSwitch}
use Rattle.switch_model.specs.Reached.{FitsEvent, FitsDesk, IsReached}

-- ---- the switch takes whole packets one after another

-- the answer is that of a packet of this client, and has the pairs of its replay: all packets that have entered are executed
-- whole, one after another in the order of their numbers
pub record IsReplayed (first : Places) (s : Switch) (c : ℕ) (answer : Answer) : Type 0 where
  pub place : ℕ
  pub number : answer.number ≡ place + 1
  pub there : place < length (entered s)
  pub client : (slice_index_or (entered s) place blank_packet).client ≡ c
  pub pairs : slice_get (replay_all (entered s) first).pairs place ≡ Some answer.pairs

abbrev pub AnswersAreReplayed : Type 0
AnswersAreReplayed = (shape : Shape) (first : Places) (s : Switch) (c : ℕ) (answer : Answer) → IsReached shape first s → answer_of s c ≡ Some answer → IsReplayed first s c answer

-- no client has a packet in the pipeline or waiting for a later pass
abbrev pub IsQuiet : Switch → Type 0
IsQuiet s = (c k : ℕ) → desk_at s c ≡ Entered k → is_done (flight_at s.flights k) ≡ true

-- then the registers are what the packets leave that were executed whole, one after another
abbrev pub RegistersAreReplayed : Type 0
RegistersAreReplayed = (shape : Shape) (first : Places) (s : Switch) → IsReached shape first s → IsQuiet s → s.registers ≡ (replay_all (entered s) first).after

-- ---- the switch goes on

-- the packet that enters with this event for its first pass
abbrev pub entering : Desk → List PlainPacket
entering Vacant = []
entering (Posted p) = p ∷ []
entering (Entered k) = []

abbrev pub added_by : Switch → Event → List PlainPacket
added_by s (Post c p) = []
added_by s (Enter c) = entering (desk_at s c)
added_by s (Advance x) = []
added_by s (Take c) = []

-- a fresh switch is a state to begin with, and so is a restored one
abbrev pub FreshIsReached : Type 0
FreshIsReached = (shape : Shape) (first : Places) (clients : ℕ) → 1 ≤ shape.stages → IsReached shape first (fresh_switch first clients)

abbrev pub RestoredIsReached : Type 0
RestoredIsReached = (shape : Shape) (first : Places) (packets : List PlainPacket) (desks : List Desk)
    → 1 ≤ shape.stages → AllByRecursion (FitsSwitch shape) packets → ((c : ℕ) → FitsDesk shape packets c (slice_index_or desks c Vacant))
    → IsReached shape first (restored first packets desks)

-- what has entered is what had entered before, and behind it what the event adds
pub record GoesOnBy (shape : Shape) (first : Places) (s next : Switch) (event : Event) : Type 0 where
  pub reached : IsReached shape first next
  pub adds : entered next ≡ entered s ++ added_by s event
  pub desks : length next.desks ≡ length s.desks

abbrev pub SwitchesGoOn : Type 0
SwitchesGoOn = (shape : Shape) (first : Places) (s next : Switch) (event : Event) → IsReached shape first s → FitsEvent shape event → step shape s event ≡ Some next → GoesOnBy shape first s next event

-- a restored switch has these packets behind it
abbrev pub RestoredHasEntered : Type 0
RestoredHasEntered = (first : Places) (packets : List PlainPacket) (desks : List Desk) → entered (restored first packets desks) ≡ packets

-- ---- packets come through

-- something can go on: a stage, a port, or a client that takes its answer
pub data CanGoOn (shape : Shape) (s : Switch) : Type 0 where
  AtStage : (x : ℕ) → x < shape.stages → IsSome (advance shape s x) → CanGoOn shape s
  AtPort : (c : ℕ) → c < length s.desks → IsSome (enter shape s c) → CanGoOn shape s
  AtDesk : (c : ℕ) → c < length s.desks → IsSome (take_answer s c) → CanGoOn shape s

abbrev pub NoPacketIsStuck : Type 0
NoPacketIsStuck = (shape : Shape) (first : Places) (s : Switch) (c : ℕ) → IsReached shape first s → desk_at s c ≢ Vacant → CanGoOn shape s

-- how often a packet still enters or leaves a stage: once for its entry and once for each stage, in each pass
abbrev pub left_of_flight : Shape → Flight → ℕ
left_of_flight shape f = (f.packet.passes + 1 - f.pass) * (shape.stages + 1) - f.depth

abbrev pub left_on : Shape → List Flight → Desk → ℕ
left_on shape flights Vacant = 0
left_on shape flights (Posted p) = p.passes * (shape.stages + 1)
left_on shape flights (Entered k) = left_of_flight shape (flight_at flights k)

-- the entries and the stages that a client's packet still has before it
abbrev pub left : Shape → Switch → ℕ → ℕ
left shape s c = left_on shape s.flights (desk_at s c)

-- one client has one less before it, and all others have as many
pub record LessensOne (shape : Shape) (s next : Switch) : Type 0 where
  pub client : ℕ
  pub there : client < length s.desks
  pub less : left shape next client + 1 ≡ left shape s client
  pub others : (c : ℕ) → c ≢ client → left shape next c ≡ left shape s c

-- of an event: entries and stages lessen one client's; a posted packet has all its passes before it; an answer that is taken
-- has nothing left
abbrev pub LessensBy : Shape → Switch → Switch → Event → Type 0
LessensBy shape s next (Post c p) = (left shape s c ≡ 0) × (left shape next c ≡ p.passes * (shape.stages + 1)) × ((d : ℕ) → d ≢ c → left shape next d ≡ left shape s d)
LessensBy shape s next (Enter c) = (left shape next c + 1 ≡ left shape s c) × ((d : ℕ) → d ≢ c → left shape next d ≡ left shape s d)
LessensBy shape s next (Advance x) = LessensOne shape s next
LessensBy shape s next (Take c) = (d : ℕ) → left shape next d ≡ left shape s d

abbrev pub PacketsComeThrough : Type 0
PacketsComeThrough = (shape : Shape) (first : Places) (s next : Switch) (event : Event) → IsReached shape first s → FitsEvent shape event → step shape s event ≡ Some next → LessensBy shape s next event

-- ---- regions are held in turn

-- the region behind the entry from this desk: a packet of two or more passes takes the regions that it touches at its first
-- entry, and gives them back at the entry for its last pass
abbrev pub held_behind_entry : Shape → Switch → ℕ → Desk → Bool
held_behind_entry shape s region Vacant = is_held shape s.flights region
held_behind_entry shape s region (Posted p) = is_held shape s.flights region || (nat_le 2 p.passes && packet_touches shape p region)
held_behind_entry shape s region (Entered k) =
    let f = flight_at s.flights k in
    is_held shape s.flights region && not (f.pass == f.packet.passes && packet_touches shape f.packet region)

abbrev pub held_behind : Shape → Switch → ℕ → Event → Bool
held_behind shape s region (Post c p) = is_held shape s.flights region
held_behind shape s region (Enter c) = held_behind_entry shape s region (desk_at s c)
held_behind shape s region (Advance x) = is_held shape s.flights region
held_behind shape s region (Take c) = is_held shape s.flights region

abbrev pub RegionsAreHeldInTurn : Type 0
RegionsAreHeldInTurn = (shape : Shape) (first : Places) (s next : Switch) (event : Event) (region : ℕ) → IsReached shape first s → FitsEvent shape event → step shape s event ≡ Some next → is_held shape next.flights region ≡ held_behind shape s region event

-- ---- where packets are

-- two packets that have entered, the first with the smaller number
pub record BothEntered (s : Switch) (i j : ℕ) : Type 0 where
  pub order : i < j
  pub there : j < length s.flights

-- a slot holds one packet, and is one of a stage
pub record StandApart (shape : Shape) (f g : Flight) : Type 0 where
  pub apart : 1 ≤ f.depth → f.depth ≢ g.depth
  pub inside : f.depth ≤ shape.stages

abbrev pub SlotsHoldOnePacket : Type 0
SlotsHoldOnePacket = (shape : Shape) (first : Places) (s : Switch) (i j : ℕ) → IsReached shape first s → BothEntered s i j → StandApart shape (flight_at s.flights i) (flight_at s.flights j)

-- among packets in slots in their first pass the one ahead has the smaller number
abbrev pub FirstPassesKeepOrder : Type 0
FirstPassesKeepOrder = (shape : Shape) (first : Places) (s : Switch) (i j : ℕ) → IsReached shape first s → BothEntered s i j
    → (flight_at s.flights i).pass ≡ 1 → (flight_at s.flights j).pass ≡ 1 → (flight_at s.flights j).depth < (flight_at s.flights i).depth

-- the packet has entered for its last pass, and while it stands in a slot the other one stands in a slot behind it
pub record IsAheadOf (f g : Flight) : Type 0 where
  pub last : is_early f ≡ false
  pub behind : 1 ≤ f.depth → (1 ≤ g.depth) × (g.depth < f.depth)

-- of two packets that touch a common region, the one with the smaller number is ahead in this sense
abbrev pub RegionsAreShared : Type 0
RegionsAreShared = (shape : Shape) (first : Places) (s : Switch) (i j region : ℕ) → IsReached shape first s → BothEntered s i j
    → packet_touches shape (flight_at s.flights i).packet region ≡ true → packet_touches shape (flight_at s.flights j).packet region ≡ true
    → IsAheadOf (flight_at s.flights i) (flight_at s.flights j)

-- each executed operation on the place found what the one before it there left, in the order of the packets' numbers, and the
-- register has what the last one left
pub record IsLeft (first : Places) (s : Switch) (place : Place) : Type 0 where
  pub chain : PlaceChain place (register_at first place) (all_executed s.flights)
  pub last : register_at s.registers place ≡ last_number place (register_at first place) (all_executed s.flights)

abbrev pub RegistersAreLeft : Type 0
RegistersAreLeft = (shape : Shape) (first : Places) (s : Switch) (place : Place) → IsReached shape first s → IsLeft first s place
