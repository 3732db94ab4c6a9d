-- A packet enters slot 0.
use Rattle.std.proofs.Common.{◌≡◌, ℕ, ◌+◌, ◌<◌, ◌≤◌, ◌==◌, ◌&&◌, Bool, true, false, List, [], ◌∷◌, length, map, set, get_or, nat_lt, nat_le, Option, Some, None, IsSome, IsTrue, is_none, if◌then◌else◌, inl, inr, refl, sym, ap, subst, ◌∙◌, arith, get_or-set_same, get_or-set_other}
use Rattle.std.specs.List.{AllByRecursion}
use Rattle.std.proofs.lemmas.Bool.{cases_eq}
use Rattle.std.proofs.lemmas.List.{get_or_default}
use Rattle.stage_layout.specs.declared.shape.Shape.{Shape}
use Rattle.switch_packet.specs.Packets.{room_of}
use Rattle.switch_packet.specs.Ranges.{OpsFit}
use Rattle.switch_packet.specs.declared.packet.PacketOp.{PacketOp}
use Rattle.register_stage.specs.Registers.{Registers}
use Rattle.register_stage.specs.declared.flight.Flight.{Flight}
use Rattle.pipeline_locks.specs.Holders.{Holders, first_held, given, without}
use Rattle.pipeline.specs.Keeps.{IsOnItsWay, AreMarks, AreSeated}
use Rattle.pipeline.specs.Plain.{PlainPipeline, PlainFlight}
use Rattle.pipeline.specs.Rows.{waiting_of, has_free_first_slot, first_entry, first_entered, later_entry, number_behind}
use Rattle.pipeline.specs.Seats.{plain_flight, no_seat, seat_at, slotted, waiting_seat}
use Rattle.pipeline.specs.declared.seat.Seat.{Seat}
use Rattle.pipeline.specs.declared.seat.Spot.TheVariants.{AtPort, InSlot}
use Rattle.pipeline.proofs.Lists.{some_is}
use Rattle.pipeline.proofs.Seated.{OthersStay, others_set, reseated}
use Rattle.pipeline.proofs.Views.{view, waits, waits_there, elsewhere, slots_set, slotted_same, waiting_set, boxed_same, at_port, at_slot, same_parts}

-- an operation's stage is one of twelve
pub stages_of : (passes k : ℕ) (ops : List PacketOp) → OpsFit passes k ops → AllByRecursion (λ op. op.place.stage < 12) ops
stages_of passes k [] h = tt
stages_of passes k (op ∷ ops) h = (h.0.stage, stages_of passes (k + 1) ops h.1)

-- the packet of client c waits, and now stands in slot 0 with this number
pub record IsEntering (shape : Shape) (slots : List (Option ℕ)) (seats : List Seat) (c number : ℕ) (seat : Seat) : Type 0 where
  pub there : c < length seats
  pub waits : (seat_at seats c).spot ≡ AtPort
  pub stage : 0 < length slots
  pub free : get_or slots 0 None ≡ None
  pub spot : seat.spot ≡ InSlot 0
  pub flight : seat.flight ≡ record (seat_at seats c).flight { number = number }
  pub due : AreMarks (seat_at seats c).flight.packet.ops.items (seat_at seats c).flight.pass seat.due

outside : (shape : Shape) (slots : List (Option ℕ)) (seats : List Seat) (c number : ℕ) (seat : Seat) → AreSeated shape slots seats → IsEntering shape slots seats c number seat → (y : ℕ) → get_or slots y None ≡ Some c → ⊥
outside shape slots seats c number seat had e = elsewhere shape slots seats c (λ s. s ≡ AtPort) had e.waits (λ y same. cc)

same_slot : (x y : ℕ) → InSlot x ≡ InSlot y → x ≡ y
same_slot x y e = cc

pub entering_keeps : (shape : Shape) (slots : List (Option ℕ)) (seats : List Seat) (c number : ℕ) (seat : Seat) → AreSeated shape slots seats → IsEntering shape slots seats c number seat
    → AreSeated shape (set slots 0 (Some c)) (set seats c seat)
entering_keeps shape slots seats c number seat had e =
    let was = had.seat c e.there in
    let others : OthersStay c slots (set slots 0 (Some c)) = others_set c slots 0 (Some c) e.stage (λ d h. let no : None ≡ Some d = sym e.free ∙ h in cc) (λ d h. cc) in
    let Room : Flight → Type 0 = λ f. (16 ≤ room_of f.packet.ops) × (16 ≤ room_of f.pairs) in
    let room : Room seat.flight = subst Room (sym e.flight) (was.ops_room, was.pairs_room) in
    let old = was.waits e.waits in
    let way : IsOnItsWay shape c seat.flight = subst (IsOnItsWay shape c) (sym e.flight) (record { own = old.own; fits = old.fits; places = old.places; from_one = old.from_one; to_last = old.to_last; paired = old.paired }) in
    let Marked : Flight → Type 0 = λ f. AreMarks f.packet.ops.items f.pass seat.due in
    let due : Marked seat.flight = subst Marked (sym e.flight) e.due in
    reseated shape slots (set slots 0 (Some c)) seats c seat had e.there others
    (λ y h. elim (cases_eq y 0) [
      | inl same ↦ e.spot ∙ ap InSlot (sym same)
      | inr other ↦ absurd (outside shape slots seats c number seat had e y (sym (get_or-set_other slots 0 y (Some c) None other) ∙ h))
    ])
    (record {
      ops_room = room.0;
      pairs_room = room.1;
      waits = λ h. let no : InSlot 0 ≡ AtPort = sym e.spot ∙ h in cc;
      stands = λ x h.
          let zeroth : x ≡ 0 = same_slot x 0 (sym h ∙ e.spot) in
          record { way = way; due = due; slot = ap (λ (k : ℕ). get_or (set slots 0 (Some c)) k None) zeroth ∙ get_or-set_same slots 0 (Some c) None e.stage };
    })

-- what is seen then but for the halves and the next number
pub entering_shown : (shape : Shape) (registers : List Registers) (slots : List (Option ℕ)) (seats : List Seat) (halves : Holders) (next c number : ℕ) (seat : Seat) → AreSeated shape slots seats
    → IsEntering shape slots seats c number seat
    → view shape registers (set slots 0 (Some c)) (set seats c seat) halves next
    ≡ record {
      shape = shape;
      registers = (view shape registers slots seats halves next).registers;
      slots = set (map (slotted seats) slots) 0 (Some (record (plain_flight (seat_at seats c).flight) { number = number }));
      waiting = set (map waiting_seat seats) c None;
      boxes = (view shape registers slots seats halves next).boxes;
      halves = halves;
      next = next;
    }
entering_shown shape registers slots seats halves next c number seat had e =
    same_parts _ _ (record {
      shape = refl;
      registers = refl;
      slots = slots_set seats slots c seat 0 (Some c) (λ y _ h. outside shape slots seats c number seat had e y h)
          ∙ ap (set (map (slotted seats) slots) 0) (slotted_same seats c seat e.there ∙ ap (λ (f : Flight). Some (plain_flight f)) e.flight);
      waiting = waiting_set seats c seat None (at_slot seat 0 e.spot).0;
      boxes = boxed_same seats c seat ((at_slot seat 0 e.spot).1 ∙ sym (at_port (seat_at seats c) e.waits).1);
      halves = refl;
      next = refl;
    })

right_of : (a b : Bool) → IsTrue (a && b) → b ≡ true
right_of true b h = h
right_of false b h = absurd cc

-- slot 0 is there and empty
pub free_slot : (seats : List Seat) (slots : List (Option ℕ)) → IsTrue (nat_lt 0 (length (map (slotted seats) slots)) && is_none (get_or (map (slotted seats) slots) 0 None)) → (0 < length slots) × (get_or slots 0 None ≡ None)
free_slot seats [] h = absurd cc
free_slot seats (None ∷ slots) h = (omega arith, refl)
free_slot seats (Some c ∷ slots) h = let no : false ≡ true = right_of (nat_lt 0 (length (map (slotted seats) (Some c ∷ slots)))) false h in absurd cc

-- from what is asked of the pipeline, and the seat as it was
pub entering : (shape : Shape) (registers : List Registers) (slots : List (Option ℕ)) (seats : List Seat) (halves : Holders) (next c number : ℕ) (old seat d : Seat) → old ≡ get_or seats c d
    → IsSome (waiting_of (view shape registers slots seats halves next) c) → IsTrue (has_free_first_slot (view shape registers slots seats halves next))
    → seat.spot ≡ InSlot 0 → seat.flight ≡ record old.flight { number = number } → AreMarks old.flight.packet.ops.items old.flight.pass seat.due
    → IsEntering shape slots seats c number seat
entering shape registers slots seats halves next c number old seat d was some free spot flight due =
    let o = some_is (get_or (map waiting_seat seats) c None) some in
    let there = waits_there seats c o.0 o.1 in
    let same : old ≡ seat_at seats c = was ∙ get_or_default seats c d no_seat there in
    let slot = free_slot seats slots free in
    let Marked : Seat → Type 0 = λ s. AreMarks s.flight.packet.ops.items s.flight.pass seat.due in
    record {
      there = there;
      waits = (waits seats c o.0 o.1).spot;
      stage = slot.0;
      free = slot.1;
      spot = spot;
      flight = flight ∙ ap (λ (s : Seat). record s.flight { number = number }) same;
      due = subst Marked same due;
    }

-- the stages of the operations of a packet that waits
pub waiting_stages : (shape : Shape) (slots : List (Option ℕ)) (seats : List Seat) (c : ℕ) (old d : Seat) → AreSeated shape slots seats → old ≡ get_or seats c d → IsSome (get_or (map waiting_seat seats) c None)
    → AllByRecursion (λ op. op.place.stage < 12) old.flight.packet.ops.items
waiting_stages shape slots seats c old d had was some =
    let o = some_is (get_or (map waiting_seat seats) c None) some in
    let there = waits_there seats c o.0 o.1 in
    let same : seat_at seats c ≡ old = sym (was ∙ get_or_default seats c d no_seat there) in
    let way = (had.seat c there).waits (waits seats c o.0 o.1).spot in
    subst (λ (s : Seat). AllByRecursion (λ op. op.place.stage < 12) s.flight.packet.ops.items) same (stages_of (seat_at seats c).flight.packet.passes 0 (seat_at seats c).flight.packet.ops.items way.fits.ops)

-- an entry for the first pass
pub first_shown : (shape : Shape) (registers : List Registers) (slots : List (Option ℕ)) (seats : List Seat) (halves now : Holders) (next c : ℕ) (seat : Seat) (f : PlainFlight) → AreSeated shape slots seats
    → IsEntering shape slots seats c next seat → plain_flight (seat_at seats c).flight ≡ f
    → first_held f.packet.halves halves ≡ None → now ≡ (if nat_le 2 f.packet.passes then given f.packet.halves c halves else halves)
    → first_entered (view shape registers slots seats halves next) c f ≡ Some (view shape registers (set slots 0 (Some c)) (set seats c seat) now (number_behind next))
first_shown shape registers slots seats halves now next c seat f had e flight held is =
    let s = view shape registers slots seats halves next in
    ap (λ (o : Option ℕ). if is_none o then Some (first_entry s c f) else None) held
    ∙ ap Some (sym (entering_shown shape registers slots seats now (number_behind next) c next seat had e ∙ same_parts _ _ (record {
      shape = refl;
      registers = refl;
      slots = ap (λ (g : PlainFlight). set (map (slotted seats) slots) 0 (Some (record g { number = next }))) flight;
      waiting = refl;
      boxes = refl;
      halves = is;
      next = refl;
    })))

-- the halves are held
pub first_refused : (s : PlainPipeline) (c holder : ℕ) (f : PlainFlight) → first_held f.packet.halves s.halves ≡ Some holder → first_entered s c f ≡ None
first_refused s c holder f held = ap (λ (o : Option ℕ). if is_none o then Some (first_entry s c f) else None) held

-- an entry for a later pass
pub later_shown : (shape : Shape) (registers : List Registers) (slots : List (Option ℕ)) (seats : List Seat) (halves now : Holders) (next c : ℕ) (seat : Seat) (f : PlainFlight) → AreSeated shape slots seats
    → IsEntering shape slots seats c f.number seat → plain_flight (seat_at seats c).flight ≡ f
    → now ≡ (if f.pass == f.packet.passes then without c halves else halves)
    → view shape registers (set slots 0 (Some c)) (set seats c seat) now next ≡ later_entry (view shape registers slots seats halves next) c f
later_shown shape registers slots seats halves now next c seat f had e flight is =
    entering_shown shape registers slots seats now next c f.number seat had e ∙ same_parts _ _ (record {
      shape = refl;
      registers = refl;
      slots = ap (λ (g : PlainFlight). set (map (slotted seats) slots) 0 (Some (record g { number = f.number }))) flight;
      waiting = refl;
      boxes = refl;
      halves = is;
      next = refl;
    })
