-- What is seen when a client has a new seat.
use Rattle.std.proofs.Common.{◌≡◌, ℕ, ◌<◌, List, length, map, set, get_or, Option, Some, None, refl, sym, ap, subst, ◌∙◌, get_or-set_same, get_or-set_other}
use Rattle.std.proofs.Math.ListN.{get_or-map}
use Rattle.std.proofs.Math.Seq.{map-set_same}
use Rattle.std.proofs.lemmas.List.{map-set, length-map, get_or_default}
use Rattle.stage_layout.specs.declared.shape.Shape.{Shape}
use Rattle.register_stage.specs.Registers.{Registers}
use Rattle.register_stage.specs.declared.flight.Flight.{Flight}
use Rattle.pipeline_locks.specs.Holders.{Holders}
use Rattle.pipeline.specs.Keeps.{AreSeated, IsStanding}
use Rattle.pipeline.specs.Numbers.{numbers_of}
use Rattle.pipeline.specs.Plain.{PlainPipeline, PlainFlight, PlainBox}
use Rattle.pipeline.specs.Rows.{IsOutOfSlots}
use Rattle.pipeline.specs.Seats.{plain_flight, answer_in, no_seat, seat_at, waiting_at, waiting_seat, boxed_at, boxed_seat, slotted, number_in}
use Rattle.pipeline.specs.declared.seat.Seat.{Seat}
use Rattle.pipeline.specs.declared.seat.Spot.{Spot}
use Rattle.pipeline.specs.declared.seat.Spot.TheVariants.{Vacant, AtPort, InSlot, InBox}
use Rattle.pipeline.proofs.Lists.{map_agree, set_agree, set_itself, some_within}

abbrev pub view : Shape → List Registers → List (Option ℕ) → List Seat → Holders → ℕ → PlainPipeline
view shape stages slots seats halves next = record {
  shape = shape;
  registers = numbers_of shape (number_in stages);
  slots = map (slotted seats) slots;
  waiting = map waiting_seat seats;
  boxes = map boxed_seat seats;
  halves = halves;
  next = next;
}

-- ---- what is seen at a client and at a stage

pub waiting_is : (seats : List Seat) (c : ℕ) → get_or (map waiting_seat seats) c None ≡ waiting_seat (seat_at seats c)
waiting_is seats c = get_or-map waiting_seat seats c no_seat

pub boxed_is : (seats : List Seat) (c : ℕ) → get_or (map boxed_seat seats) c None ≡ boxed_seat (seat_at seats c)
boxed_is seats c = get_or-map boxed_seat seats c no_seat

pub slotted_is : (seats : List Seat) (slots : List (Option ℕ)) (x : ℕ) → get_or (map (slotted seats) slots) x None ≡ slotted seats (get_or slots x None)
slotted_is seats slots x = get_or-map (slotted seats) slots x None

-- a packet waits where it is at the port
pub record Waits (seat : Seat) (f : PlainFlight) : Type 0 where
  pub spot : seat.spot ≡ AtPort
  pub flight : plain_flight seat.flight ≡ f

waits_at : (spot : Spot) (flight : Flight) (f : PlainFlight) → waiting_at spot flight ≡ Some f → (spot ≡ AtPort) × (plain_flight flight ≡ f)
waits_at Vacant flight f e = cc
waits_at AtPort flight f e = (refl, cc)
waits_at (InSlot x) flight f e = cc
waits_at InBox flight f e = cc

pub waits : (seats : List Seat) (c : ℕ) (f : PlainFlight) → get_or (map waiting_seat seats) c None ≡ Some f → Waits (seat_at seats c) f
waits seats c f e =
    let seat = seat_at seats c in
    let both = waits_at seat.spot seat.flight f (sym (waiting_is seats c) ∙ e) in
    record { spot = both.0; flight = both.1 }

-- a client is there where something is seen of it
pub waits_there : (seats : List Seat) (c : ℕ) (f : PlainFlight) → get_or (map waiting_seat seats) c None ≡ Some f → c < length seats
waits_there seats c f e = subst (λ (n : ℕ). c < n) (length-map seats waiting_seat) (some_within (map waiting_seat seats) c f e)

-- an answer is in the box
pub record Boxed (seat : Seat) (box : PlainBox) : Type 0 where
  pub spot : seat.spot ≡ InBox
  pub answer : answer_in seat.flight ≡ box

boxed_there_at : (spot : Spot) (flight : Flight) (box : PlainBox) → boxed_at spot flight ≡ Some box → (spot ≡ InBox) × (answer_in flight ≡ box)
boxed_there_at Vacant flight box e = cc
boxed_there_at AtPort flight box e = cc
boxed_there_at (InSlot x) flight box e = cc
boxed_there_at InBox flight box e = (refl, cc)

pub boxed : (seats : List Seat) (c : ℕ) (box : PlainBox) → get_or (map boxed_seat seats) c None ≡ Some box → Boxed (seat_at seats c) box
boxed seats c box e =
    let seat = seat_at seats c in
    let both = boxed_there_at seat.spot seat.flight box (sym (boxed_is seats c) ∙ e) in
    record { spot = both.0; answer = both.1 }

pub boxed_there : (seats : List Seat) (c : ℕ) (box : PlainBox) → get_or (map boxed_seat seats) c None ≡ Some box → c < length seats
boxed_there seats c box e = subst (λ (n : ℕ). c < n) (length-map seats boxed_seat) (some_within (map boxed_seat seats) c box e)

-- a packet is seen in a slot where a client stands there
pub record Stands (shape : Shape) (slots : List (Option ℕ)) (seats : List Seat) (x c : ℕ) (f : PlainFlight) : Type 0 where
  pub slot : get_or slots x None ≡ Some c
  pub there : c < length seats
  pub spot : (seat_at seats c).spot ≡ InSlot x
  pub standing : IsStanding shape slots c x (seat_at seats c)
  pub flight : plain_flight (seat_at seats c).flight ≡ f

pub stands : (shape : Shape) (slots : List (Option ℕ)) (seats : List Seat) (x : ℕ) (f : PlainFlight) → AreSeated shape slots seats → get_or (map (slotted seats) slots) x None ≡ Some f
    → Stands shape slots seats x f.packet.client f
stands shape slots seats x f had e = go (get_or slots x None) refl (sym (slotted_is seats slots x) ∙ e)
  where
    go : (o : Option ℕ) → get_or slots x None ≡ o → slotted seats o ≡ Some f → Stands shape slots seats x f.packet.client f
    go None slot same = cc
    go (Some c) slot same =
        let is = had.slot x c slot in
        let standing = (had.seat c is.there).stands x is.spot in
        let flight : plain_flight (seat_at seats c).flight ≡ f = cc in
        let own : c ≡ f.packet.client = sym standing.way.own ∙ ap (λ (g : PlainFlight). g.packet.client) flight in
        let P : ℕ → Type 0 = λ d. Stands shape slots seats x d f in
        subst P own (record { slot = slot; there = is.there; spot = is.spot; standing = standing; flight = flight })

-- a client of whom nothing is seen is in no slot
pub in_no_slot : (shape : Shape) (registers : List Registers) (slots : List (Option ℕ)) (seats : List Seat) (halves : Holders) (next c : ℕ) → AreSeated shape slots seats
    → IsOutOfSlots (view shape registers slots seats halves next) c → (y : ℕ) → get_or slots y None ≡ Some c → ⊥
in_no_slot shape registers slots seats halves next c had out y e =
    let is = had.slot y c e in
    let own = ((had.seat c is.there).stands y is.spot).way.own in
    out y (plain_flight (seat_at seats c).flight) (slotted_is seats slots y ∙ ap (slotted seats) e) own

-- one that stands elsewhere is in no slot
pub elsewhere : (shape : Shape) (slots : List (Option ℕ)) (seats : List Seat) (c : ℕ) (P : Spot → Type 0) → AreSeated shape slots seats → P (seat_at seats c).spot → ((y : ℕ) → P (InSlot y) → ⊥)
    → (y : ℕ) → get_or slots y None ≡ Some c → ⊥
elsewhere shape slots seats c P had is none y e = none y (subst P (had.slot y c e).spot is)

-- ---- slots

slotted_other : (seats : List Seat) (c : ℕ) (seat : Seat) (o : Option ℕ) → (o ≡ Some c → ⊥) → slotted (set seats c seat) o ≡ slotted seats o
slotted_other seats c seat None n = refl
slotted_other seats c seat (Some d) n = ap (λ (s : Seat). Some (plain_flight s.flight)) (get_or-set_other seats c d seat no_seat (λ e. n (ap Some e)))

pub slotted_same : (seats : List Seat) (c : ℕ) (seat : Seat) → c < length seats → slotted (set seats c seat) (Some c) ≡ Some (plain_flight seat.flight)
slotted_same seats c seat there = ap (λ (s : Seat). Some (plain_flight s.flight)) (get_or-set_same seats c seat no_seat there)

-- a client that is in no slot
pub slots_same : (seats : List Seat) (slots : List (Option ℕ)) (c : ℕ) (seat : Seat) → ((y : ℕ) → get_or slots y None ≡ Some c → ⊥) → map (slotted (set seats c seat)) slots ≡ map (slotted seats) slots
slots_same seats slots c seat out = map_agree (slotted (set seats c seat)) (slotted seats) slots None (λ y lt. slotted_other seats c seat (get_or slots y None) (out y))

-- a client that is in no other slot than this one, which is written
pub slots_set : (seats : List Seat) (slots : List (Option ℕ)) (c : ℕ) (seat : Seat) (x : ℕ) (o : Option ℕ) → ((y : ℕ) → (y ≡ x → ⊥) → get_or slots y None ≡ Some c → ⊥)
    → map (slotted (set seats c seat)) (set slots x o) ≡ set (map (slotted seats) slots) x (slotted (set seats c seat) o)
slots_set seats slots c seat x o out =
    map-set (slotted (set seats c seat)) slots x o
    ∙ set_agree (slotted (set seats c seat)) (slotted seats) slots None x (slotted (set seats c seat) o) (λ y n lt. slotted_other seats c seat (get_or slots y None) (out y n))

-- a client in this slot has a new seat
pub slots_stay : (seats : List Seat) (slots : List (Option ℕ)) (c : ℕ) (seat : Seat) (x : ℕ) → c < length seats → get_or slots x None ≡ Some c → ((y : ℕ) → (y ≡ x → ⊥) → get_or slots y None ≡ Some c → ⊥)
    → map (slotted (set seats c seat)) slots ≡ set (map (slotted seats) slots) x (Some (plain_flight seat.flight))
slots_stay seats slots c seat x there slot out =
    ap (map (slotted (set seats c seat))) (sym (set_itself slots None x) ∙ ap (set slots x) slot)
    ∙ slots_set seats slots c seat x (Some c) out
    ∙ ap (set (map (slotted seats) slots) x) (slotted_same seats c seat there)

-- ---- the lists of clients

pub waiting_set : (seats : List Seat) (c : ℕ) (seat : Seat) (o : Option PlainFlight) → waiting_seat seat ≡ o → map waiting_seat (set seats c seat) ≡ set (map waiting_seat seats) c o
waiting_set seats c seat o e = map-set waiting_seat seats c seat ∙ ap (set (map waiting_seat seats) c) e

pub waiting_same : (seats : List Seat) (c : ℕ) (seat : Seat) → waiting_seat seat ≡ waiting_seat (seat_at seats c) → map waiting_seat (set seats c seat) ≡ map waiting_seat seats
waiting_same seats c seat e = map-set_same waiting_seat seats c seat no_seat e

pub boxed_set : (seats : List Seat) (c : ℕ) (seat : Seat) (o : Option PlainBox) → boxed_seat seat ≡ o → map boxed_seat (set seats c seat) ≡ set (map boxed_seat seats) c o
boxed_set seats c seat o e = map-set boxed_seat seats c seat ∙ ap (set (map boxed_seat seats) c) e

pub boxed_same : (seats : List Seat) (c : ℕ) (seat : Seat) → boxed_seat seat ≡ boxed_seat (seat_at seats c) → map boxed_seat (set seats c seat) ≡ map boxed_seat seats
boxed_same seats c seat e = map-set_same boxed_seat seats c seat no_seat e

-- what is seen of a seat, by where its packet is
pub at_port : (seat : Seat) → seat.spot ≡ AtPort → (waiting_seat seat ≡ Some (plain_flight seat.flight)) × (boxed_seat seat ≡ None)
at_port seat e = (ap (λ (s : Spot). waiting_at s seat.flight) e, ap (λ (s : Spot). boxed_at s seat.flight) e)

pub at_slot : (seat : Seat) (x : ℕ) → seat.spot ≡ InSlot x → (waiting_seat seat ≡ None) × (boxed_seat seat ≡ None)
at_slot seat x e = (ap (λ (s : Spot). waiting_at s seat.flight) e, ap (λ (s : Spot). boxed_at s seat.flight) e)

pub at_box : (seat : Seat) → seat.spot ≡ InBox → (waiting_seat seat ≡ None) × (boxed_seat seat ≡ Some (answer_in seat.flight))
at_box seat e = (ap (λ (s : Spot). waiting_at s seat.flight) e, ap (λ (s : Spot). boxed_at s seat.flight) e)

pub at_none : (seat : Seat) → seat.spot ≡ Vacant → (waiting_seat seat ≡ None) × (boxed_seat seat ≡ None)
at_none seat e = (ap (λ (s : Spot). waiting_at s seat.flight) e, ap (λ (s : Spot). boxed_at s seat.flight) e)

-- equal parts make equal pipelines
pub record SameParts (a b : PlainPipeline) : Type 0 where
  pub shape : a.shape ≡ b.shape
  pub registers : a.registers ≡ b.registers
  pub slots : a.slots ≡ b.slots
  pub waiting : a.waiting ≡ b.waiting
  pub boxes : a.boxes ≡ b.boxes
  pub halves : a.halves ≡ b.halves
  pub next : a.next ≡ b.next

pub same_parts : (a b : PlainPipeline) → SameParts a b → a ≡ b
same_parts a b h = λ i. record { shape = h.shape i; registers = h.registers i; slots = h.slots i; waiting = h.waiting i; boxes = h.boxes i; halves = h.halves i; next = h.next i }

-- the seat as it was lent
pub was_is : (seats : List Seat) (c : ℕ) (old d : Seat) (f : PlainFlight) → old ≡ get_or seats c d → c < length seats → plain_flight (seat_at seats c).flight ≡ f → plain_flight old.flight ≡ f
was_is seats c old d f was there is = ap (λ (s : Seat). plain_flight s.flight) (was ∙ get_or_default seats c d no_seat there) ∙ is
