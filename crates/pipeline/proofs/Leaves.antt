-- A packet leaves the slot of a stage.
use Rattle.std.proofs.Common.{◌≡◌, ℕ, ◌+◌, ◌<◌, ◌≤◌, ◌==◌, ◌||◌, Bool, true, false, List, length, map, set, get_or, nat_lt, Option, Some, None, IsTrue, is_none, if◌then◌else◌, inl, inr, refl, sym, ap, subst, ◌∙◌, arith, get_or-set_same, get_or-set_other}
use Rattle.std.proofs.lemmas.Bool.{cases_eq}
use Rattle.std.proofs.lemmas.Bool.Decides.{nat_tests}
use Rattle.std.proofs.lemmas.List.{get_or_default, length-set, map-set}
use Rattle.stage_layout.specs.declared.shape.Shape.{Shape}
use Rattle.switch_packet.specs.Packets.{room_of}
use Rattle.register_stage.specs.Registers.{Registers}
use Rattle.register_stage.specs.declared.flight.Flight.{Flight}
use Rattle.pipeline_locks.specs.Holders.{Holders}
use Rattle.pipeline.specs.Keeps.{IsOnItsWay, AreMarks, AreSeated}
use Rattle.pipeline.specs.Plain.{PlainPipeline, PlainFlight}
use Rattle.pipeline.specs.Rows.{with_slot, come_through, gone_on, may_leave}
use Rattle.pipeline.specs.Seating.{come_through_spot, come_through_pass}
use Rattle.pipeline.specs.Seats.{plain_flight, answer_in, no_seat, seat_at, slotted}
use Rattle.pipeline.specs.declared.seat.Seat.{Seat}
use Rattle.pipeline.specs.declared.seat.Spot.{Spot}
use Rattle.pipeline.specs.declared.seat.Spot.TheVariants.{AtPort, InSlot, InBox}
use Rattle.pipeline.proofs.Executes.{outside}
use Rattle.pipeline.proofs.Lists.{some_within}
use Rattle.pipeline.proofs.Seated.{OthersStay, others_set, others_trans, reseated}
use Rattle.pipeline.proofs.Views.{view, Stands, slotted_is, slots_set, slotted_same, waiting_set, waiting_same, boxed_set, boxed_same, at_port, at_slot, at_box, same_parts}

given_up : (shape : Shape) (slots : List (Option ℕ)) (seats : List Seat) (x c : ℕ) (f : PlainFlight) → AreSeated shape slots seats → Stands shape slots seats x c f → OthersStay c slots (set slots x None)
given_up shape slots seats x c f had st =
    others_set c slots x None (some_within slots x c st.slot) (λ d h. let same : Some d ≡ Some c = sym h ∙ st.slot in cc) (λ d h. cc)

nowhere : (shape : Shape) (slots : List (Option ℕ)) (seats : List Seat) (x c : ℕ) (f : PlainFlight) → AreSeated shape slots seats → Stands shape slots seats x c f → (y : ℕ) → get_or (set slots x None) y None ≡ Some c → ⊥
nowhere shape slots seats x c f had st y h = elim (cases_eq y x) [
  | inl same ↦
      let none : get_or (set slots x None) x None ≡ None = get_or-set_same slots x None None (some_within slots x c st.slot) in
      let no : None ≡ Some c = sym none ∙ ap (λ (k : ℕ). get_or (set slots x None) k None) (sym same) ∙ h in cc
  | inr other ↦ outside shape slots seats x c f had st y other (sym (get_or-set_other slots x y None None other) ∙ h)
]

-- ---- behind the last stage

-- the client's seat then
pub record IsThrough (seats : List Seat) (c : ℕ) (seat : Seat) : Type 0 where
  pub spot : seat.spot ≡ come_through_spot (seat_at seats c).flight
  pub flight : seat.flight ≡ record (seat_at seats c).flight { pass = come_through_pass (seat_at seats c).flight }

no_slot : (f : Flight) (spot : Spot) (x : ℕ) → spot ≡ come_through_spot f → spot ≡ InSlot x → ⊥
no_slot f spot x is e = go (nat_lt f.pass f.packet.passes) (sym is ∙ e)
  where
    go : (b : Bool) → (if b then AtPort else InBox) ≡ InSlot x → ⊥
    go true h = cc
    go false h = cc

next_pass : (f : Flight) (spot : Spot) → spot ≡ come_through_spot f → spot ≡ AtPort → nat_lt f.pass f.packet.passes ≡ true
next_pass f spot is e = go (nat_lt f.pass f.packet.passes) (sym is ∙ e)
  where
    go : (b : Bool) → (if b then AtPort else InBox) ≡ AtPort → b ≡ true
    go true h = refl
    go false h = cc

below : (a b : ℕ) → nat_lt a b ≡ true → a < b
below a b h = grind (arith, nat_tests)

through_way : (shape : Shape) (c : ℕ) (old now : Flight) → IsOnItsWay shape c old → now ≡ record old { pass = come_through_pass old } → nat_lt old.pass old.packet.passes ≡ true → IsOnItsWay shape c now
through_way shape c old now way is more =
    let lt = below old.pass old.packet.passes more in
    let pass : come_through_pass old ≡ old.pass + 1 = ap (λ (b : Bool). if b then old.pass + 1 else old.pass) more in
    subst (IsOnItsWay shape c) (sym is) (record {
      own = way.own;
      fits = way.fits;
      places = way.places;
      from_one = omega (arith, pass);
      to_last = omega (arith, pass, lt);
      paired = way.paired;
    })

pub through_keeps : (shape : Shape) (slots : List (Option ℕ)) (seats : List Seat) (x c : ℕ) (f : PlainFlight) (seat : Seat) → AreSeated shape slots seats → Stands shape slots seats x c f → IsThrough seats c seat
    → AreSeated shape (set slots x None) (set seats c seat)
through_keeps shape slots seats x c f seat had st now =
    let was = had.seat c st.there in
    let old = (seat_at seats c).flight in
    reseated shape slots (set slots x None) seats c seat had st.there (given_up shape slots seats x c f had st)
    (λ y h. absurd (nowhere shape slots seats x c f had st y h))
    (record {
      ops_room = subst (λ (g : Flight). 16 ≤ room_of g.packet.ops) (sym now.flight) was.ops_room;
      pairs_room = subst (λ (g : Flight). 16 ≤ room_of g.pairs) (sym now.flight) was.pairs_room;
      waits = λ e. through_way shape c old seat.flight st.standing.way now.flight (next_pass old seat.spot now.spot e);
      stands = λ y e. absurd (no_slot old seat.spot y now.spot e);
    })

pub through_shown : (shape : Shape) (registers : List Registers) (slots : List (Option ℕ)) (seats : List Seat) (halves : Holders) (next x c : ℕ) (f : PlainFlight) (seat : Seat) → AreSeated shape slots seats
    → Stands shape slots seats x c f → IsThrough seats c seat → x + 1 == shape.stages ≡ true
    → view shape registers (set slots x None) (set seats c seat) halves next ≡ gone_on (with_slot (view shape registers slots seats halves next) x None) x f
through_shown shape registers slots seats halves next x c f seat had st now last =
    go (nat_lt old.pass old.packet.passes) refl
    ∙ ap (λ (g : PlainFlight). come_through t g) st.flight
    ∙ sym (ap (λ (b : Bool). if b then come_through t f else with_slot t (x + 1) (Some f)) last)
  where
    old : Flight
    old = (seat_at seats c).flight

    t : PlainPipeline
    t = with_slot (view shape registers slots seats halves next) x None

    slots_are : map (slotted (set seats c seat)) (set slots x None) ≡ set (map (slotted seats) slots) x None
    slots_are = slots_set seats slots c seat x None (outside shape slots seats x c f had st)

    go : (b : Bool) → nat_lt old.pass old.packet.passes ≡ b → view shape registers (set slots x None) (set seats c seat) halves next ≡ come_through t (plain_flight old)
    go true more =
        let spot : seat.spot ≡ AtPort = now.spot ∙ ap (λ (b : Bool). if b then AtPort else InBox) more in
        let flight : seat.flight ≡ record old { pass = old.pass + 1 } = now.flight ∙ ap (λ (b : Bool). record old { pass = if b then old.pass + 1 else old.pass }) more in
        let made : PlainPipeline = record t { waiting = set t.waiting c (Some (record (plain_flight old) { pass = old.pass + 1 })) } in
        let parts : view shape registers (set slots x None) (set seats c seat) halves next ≡ made = same_parts _ _ (record {
          shape = refl;
          registers = refl;
          slots = slots_are;
          waiting = waiting_set seats c seat (Some (record (plain_flight old) { pass = old.pass + 1 })) ((at_port seat spot).0 ∙ ap (λ (g : Flight). Some (plain_flight g)) flight);
          boxes = boxed_same seats c seat ((at_port seat spot).1 ∙ sym (at_slot (seat_at seats c) x st.spot).1);
          halves = refl;
          next = refl;
        }) in
        parts
        ∙ ap (λ (d : ℕ). record t { waiting = set t.waiting d (Some (record (plain_flight old) { pass = old.pass + 1 })) }) (sym st.standing.way.own)
        ∙ sym (ap
        (λ (b : Bool).
        if b
        then record t { waiting = set t.waiting old.packet.client (Some (record (plain_flight old) { pass = old.pass + 1 })) }
        else record t { boxes = set t.boxes old.packet.client (Some (answer_in old)) })
        more)
    go false done =
        let spot : seat.spot ≡ InBox = now.spot ∙ ap (λ (b : Bool). if b then AtPort else InBox) done in
        let flight : seat.flight ≡ record old { pass = old.pass } = now.flight ∙ ap (λ (b : Bool). record old { pass = if b then old.pass + 1 else old.pass }) done in
        let made : PlainPipeline = record t { boxes = set t.boxes c (Some (answer_in old)) } in
        let parts : view shape registers (set slots x None) (set seats c seat) halves next ≡ made = same_parts _ _ (record {
          shape = refl;
          registers = refl;
          slots = slots_are;
          waiting = waiting_same seats c seat ((at_box seat spot).0 ∙ sym (at_slot (seat_at seats c) x st.spot).0);
          boxes = boxed_set seats c seat (Some (answer_in old)) ((at_box seat spot).1 ∙ ap (λ (g : Flight). Some (answer_in g)) flight);
          halves = refl;
          next = refl;
        }) in
        parts
        ∙ ap (λ (d : ℕ). record t { boxes = set t.boxes d (Some (answer_in old)) }) (sym st.standing.way.own)
        ∙ sym (ap
        (λ (b : Bool).
        if b
        then record t { waiting = set t.waiting old.packet.client (Some (record (plain_flight old) { pass = old.pass + 1 })) }
        else record t { boxes = set t.boxes old.packet.client (Some (answer_in old)) })
        done)

-- ---- into the next slot

-- the client's seat then
pub record IsNext (slots : List (Option ℕ)) (seats : List Seat) (x c : ℕ) (seat : Seat) : Type 0 where
  pub spot : seat.spot ≡ InSlot (x + 1)
  pub flight : seat.flight ≡ (seat_at seats c).flight
  pub due : seat.due ≡ (seat_at seats c).due
  pub within : x + 1 < length slots
  pub free : get_or slots (x + 1) None ≡ None

still_free : (slots : List (Option ℕ)) (x : ℕ) → get_or slots (x + 1) None ≡ None → get_or (set slots x None) (x + 1) None ≡ None
still_free slots x free = get_or-set_other slots x (x + 1) None None (λ e. omega (arith, e)) ∙ free

same_slot : (a b : ℕ) → InSlot a ≡ InSlot b → a ≡ b
same_slot a b e = cc

pub next_keeps : (shape : Shape) (slots : List (Option ℕ)) (seats : List Seat) (x c : ℕ) (f : PlainFlight) (seat : Seat) → AreSeated shape slots seats → Stands shape slots seats x c f → IsNext slots seats x c seat
    → AreSeated shape (set (set slots x None) (x + 1) (Some c)) (set seats c seat)
next_keeps shape slots seats x c f seat had st now =
    let was = had.seat c st.there in
    let left = set slots x None in
    let within : x + 1 < length left = omega (arith, now.within, length-set slots x None) in
    let others : OthersStay c slots (set left (x + 1) (Some c)) =
    others_trans c slots left (set left (x + 1) (Some c)) (given_up shape slots seats x c f had st)
    (others_set c left (x + 1) (Some c) within (λ d h. let no : None ≡ Some d = sym (still_free slots x now.free) ∙ h in cc) (λ d h. cc)) in
    let way : IsOnItsWay shape c seat.flight = subst (IsOnItsWay shape c) (sym now.flight) st.standing.way in
    let Marked : Flight → Type 0 = λ g. AreMarks g.packet.ops.items g.pass seat.due in
    let Marks : List Bool → Type 0 = λ d. AreMarks (seat_at seats c).flight.packet.ops.items (seat_at seats c).flight.pass d in
    reseated shape slots (set left (x + 1) (Some c)) seats c seat had st.there others
    (λ y h. elim (cases_eq y (x + 1)) [
      | inl same ↦ now.spot ∙ ap InSlot (sym same)
      | inr other ↦ absurd (nowhere shape slots seats x c f had st y (sym (get_or-set_other left (x + 1) y (Some c) None other) ∙ h))
    ])
    (record {
      ops_room = subst (λ (g : Flight). 16 ≤ room_of g.packet.ops) (sym now.flight) was.ops_room;
      pairs_room = subst (λ (g : Flight). 16 ≤ room_of g.pairs) (sym now.flight) was.pairs_room;
      waits = λ e. let no : InSlot (x + 1) ≡ AtPort = sym now.spot ∙ e in cc;
      stands = λ y e.
          let same : y ≡ x + 1 = same_slot y (x + 1) (sym e ∙ now.spot) in
          record {
            way = way;
            due = subst Marked (sym now.flight) (subst Marks (sym now.due) st.standing.due);
            slot = ap (λ (k : ℕ). get_or (set left (x + 1) (Some c)) k None) same ∙ get_or-set_same left (x + 1) (Some c) None within;
          };
    })

pub next_shown : (shape : Shape) (registers : List Registers) (slots : List (Option ℕ)) (seats : List Seat) (halves : Holders) (next x c : ℕ) (f : PlainFlight) (seat : Seat) → AreSeated shape slots seats
    → Stands shape slots seats x c f → IsNext slots seats x c seat → x + 1 == shape.stages ≡ false
    → view shape registers (set (set slots x None) (x + 1) (Some c)) (set seats c seat) halves next ≡ gone_on (with_slot (view shape registers slots seats halves next) x None) x f
next_shown shape registers slots seats halves next x c f seat had st now more =
    let old = (seat_at seats c).flight in
    let t : PlainPipeline = with_slot (view shape registers slots seats halves next) x None in
    let left = set slots x None in
    let parts : view shape registers (set left (x + 1) (Some c)) (set seats c seat) halves next ≡ with_slot t (x + 1) (Some (plain_flight old)) = same_parts _ _ (record {
      shape = refl;
      registers = refl;
      slots = map-set (slotted (set seats c seat)) left (x + 1) (Some c)
          ∙ ap (λ (l : List (Option PlainFlight)). set l (x + 1) (slotted (set seats c seat) (Some c))) (slots_set seats slots c seat x None (outside shape slots seats x c f had st))
          ∙ ap (set (set (map (slotted seats) slots) x None) (x + 1)) (slotted_same seats c seat st.there ∙ ap (λ (g : Flight). Some (plain_flight g)) now.flight);
      waiting = waiting_same seats c seat ((at_slot seat (x + 1) now.spot).0 ∙ sym (at_slot (seat_at seats c) x st.spot).0);
      boxes = boxed_same seats c seat ((at_slot seat (x + 1) now.spot).1 ∙ sym (at_slot (seat_at seats c) x st.spot).1);
      halves = refl;
      next = refl;
    }) in
    parts
    ∙ ap (λ (g : PlainFlight). with_slot t (x + 1) (Some g)) st.flight
    ∙ sym (ap (λ (b : Bool). if b then come_through t f else with_slot t (x + 1) (Some f)) more)

-- the next slot is empty
pub next_free : (seats : List Seat) (slots : List (Option ℕ)) (x : ℕ) (b : Bool) → b ≡ false → IsTrue (b || is_none (get_or (map (slotted seats) slots) (x + 1) None)) → get_or slots (x + 1) None ≡ None
next_free seats slots x true not may = cc
next_free seats slots x false not may = go (get_or slots (x + 1) None) (ap is_none (sym (slotted_is seats slots (x + 1))) ∙ may)
  where
    go : (o : Option ℕ) → is_none (slotted seats o) ≡ true → o ≡ None
    go None e = refl
    go (Some d) e = cc

pub same_test : (a b : ℕ) → a ≡ b → a == b ≡ true
same_test a b e = grind (arith, nat_tests)

pub other_test : (a b : ℕ) → (a ≡ b → ⊥) → a == b ≡ false
other_test a b n = grind (arith, nat_tests)

-- the seat, from how it was
pub through : (seats : List Seat) (c : ℕ) (old d seat : Seat) → c < length seats → old ≡ get_or seats c d → seat.spot ≡ come_through_spot old.flight → seat.flight ≡ record old.flight { pass = come_through_pass old.flight }
    → IsThrough seats c seat
through seats c old d seat there was spot flight =
    let same : old ≡ seat_at seats c = was ∙ get_or_default seats c d no_seat there in
    record { spot = spot ∙ ap (λ (s : Seat). come_through_spot s.flight) same; flight = flight ∙ ap (λ (s : Seat). record s.flight { pass = come_through_pass s.flight }) same }

pub is_next : (shape : Shape) (registers : List Registers) (slots : List (Option ℕ)) (seats : List Seat) (halves : Holders) (next x c : ℕ) (f : PlainFlight) (old d seat : Seat) → AreSeated shape slots seats
    → Stands shape slots seats x c f → old ≡ get_or seats c d → x + 1 == shape.stages ≡ false → IsTrue (may_leave (view shape registers slots seats halves next) x)
    → seat.spot ≡ InSlot (x + 1) → seat.flight ≡ old.flight → seat.due ≡ old.due → IsNext slots seats x c seat
is_next shape registers slots seats halves next x c f old d seat had st was not may spot flight due =
    let same : old ≡ seat_at seats c = was ∙ get_or_default seats c d no_seat st.there in
    let within : x < length slots = some_within slots x c st.slot in
    record {
      spot = spot;
      flight = flight ∙ ap (λ (s : Seat). s.flight) same;
      due = due ∙ ap (λ (s : Seat). s.due) same;
      within = behind x (length slots) shape.stages within had.count not;
      free = next_free seats slots x (x + 1 == shape.stages) not may;
    }
  where
    behind : (x n m : ℕ) → x < n → n ≡ m → x + 1 == m ≡ false → x + 1 < n
    behind x n m lt e h = grind (arith, nat_tests)
