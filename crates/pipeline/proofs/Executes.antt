-- The packet in a slot, and what is executed of it there.
use Rattle.std.proofs.Common.{◌≡◌, ℕ, ◌+◌, ◌<◌, ◌≤◌, Bool, true, false, List, [], length, map, set, get_or, slice_get, Option, Some, None, IsTrue, refl, sym, ap, subst, ◌∙◌, arith}
use Rattle.std.specs.List.{AllByRecursion, list_any}
use Rattle.std.specs.Option.{option_map}
use Rattle.std.proofs.lemmas.Bool.Decides.{nat_tests}
use Rattle.std.proofs.lemmas.List.{get_or_default}
use Rattle.txn_model.proofs.SerialLaws.{item_of_all}
use Rattle.txn_model.specs.Needs.{needs_list}
use Rattle.txn_model.specs.Places.{Places}
use Rattle.txn_model.specs.declared.pairs.Pair.{Pair}
use Rattle.stage_layout.specs.Shape.{has_place}
use Rattle.stage_layout.specs.declared.shape.Shape.{Shape}
use Rattle.switch_packet.proofs.RangeLaws.{OpsFit-at}
use Rattle.switch_packet.specs.Packets.{room_of}
use Rattle.switch_packet.specs.Ranges.{OpsFit}
use Rattle.switch_packet.specs.Replay.{Replayed, execute}
use Rattle.switch_packet.specs.declared.packet.PacketOp.{PacketOp}
use Rattle.switch_model.specs.Flight.{is_due}
use Rattle.register_stage.specs.Registers.{Registers}
use Rattle.register_stage.specs.Visits.{CanVisit, visited}
use Rattle.register_stage.specs.declared.flight.Flight.{Flight}
use Rattle.pipeline_locks.specs.Holders.{Holders}
use Rattle.pipeline.specs.Keeps.{IsOnItsWay, IsStage, AreMarks, AreStages, AreSeated}
use Rattle.pipeline.specs.Plain.{PlainPipeline, PlainFlight}
use Rattle.pipeline.specs.Seats.{plain_flight, no_seat, seat_at, no_stage, stage_at, slotted}
use Rattle.pipeline.specs.Rows.{in_slot}
use Rattle.pipeline.specs.Walks.{IsAt, with_executed}
use Rattle.pipeline.specs.declared.seat.Seat.{Seat}
use Rattle.pipeline.specs.declared.seat.Spot.TheVariants.{AtPort, InSlot}
use Rattle.pipeline.proofs.Executed.{execute_none, length-execute}
use Rattle.pipeline.proofs.Lists.{set_itself, some_within}
use Rattle.pipeline.proofs.Seated.{others_same, reseated}
use Rattle.pipeline.proofs.Stages.{inside_of, restage, executed_alike, executed_stage, executed_numbers}
use Rattle.pipeline.proofs.Views.{view, Stands, stands, slotted_is, slots_stay, waiting_same, boxed_same, at_slot, same_parts}

-- ---- who stands in a slot

-- the client of the packet that is seen in the slot
pub stands_at : (shape : Shape) (slots : List (Option ℕ)) (seats : List Seat) (x c : ℕ) → AreSeated shape slots seats
    → option_map (λ flight. flight.packet.client) (get_or (map (slotted seats) slots) x None) ≡ Some c → (f : PlainFlight) × Stands shape slots seats x c f
stands_at shape slots seats x c had e = go (get_or (map (slotted seats) slots) x None) refl e
  where
    go : (o : Option PlainFlight) → get_or (map (slotted seats) slots) x None ≡ o → option_map (λ flight. flight.packet.client) o ≡ Some c → (f : PlainFlight) × Stands shape slots seats x c f
    go None is h = cc
    go (Some f) is h =
        let own : f.packet.client ≡ c = cc in
        let P : ℕ → Type 0 = λ d. Stands shape slots seats x d f in
        (f, subst P own (stands shape slots seats x f had is))

-- ---- a visit

pub same_stage : (shape : Shape) (stages : List Registers) (x : ℕ) (old d : Registers) → AreStages shape stages → x < shape.stages → old ≡ get_or stages x d → old ≡ stage_at stages x
same_stage shape stages x old d had lt is = is ∙ get_or_default stages x d no_stage (omega (arith, lt, had.count))

earlier_at : (passes : ℕ) (ops : List PacketOp) (i : ℕ) (op : PacketOp) → OpsFit passes 0 ops → slice_get ops i ≡ Some op → AllByRecursion (λ need. need.from < i) (needs_list op.needs)
earlier_at passes ops i op fits at =
    let zeroth : 0 + i ≡ i = omega arith in
    subst (λ (k : ℕ). AllByRecursion (λ need. need.from < k) (needs_list op.needs)) zeroth (OpsFit-at passes 0 ops i op fits at).earlier

due_at : (pass s x : ℕ) (op : PacketOp) → is_due pass s op ≡ true → s ≡ x → op.place.stage ≡ x
due_at pass s x op h e = grind (arith, nat_tests)

pub can_visit : (shape : Shape) (x c : ℕ) (stage : Registers) (flight : Flight) → IsStage shape x stage → IsOnItsWay shape c flight → CanVisit stage flight
can_visit shape x c stage flight is way = record {
  paired = way.paired;
  due = λ i op at due.
      let there = item_of_all (λ op. IsTrue (has_place shape op.place)) flight.packet.ops.items i op way.places at in
      record {
        place = is.inside op.place ∙ inside_of shape x op.place there (due_at flight.pass stage.stage x op due is.is);
        earlier = earlier_at flight.packet.passes flight.packet.ops.items i op way.fits.ops at;
      };
}

-- what is executed of a flight at stage x, on the stage's own numbers
abbrev pub done_at : List Registers → ℕ → Flight → Replayed
done_at stages x f = execute (is_due f.pass x) f.packet.ops.items [] f.pairs.items (stage_at stages x).numbers

pub visited_is : (shape : Shape) (stages : List Registers) (x : ℕ) (stage : Registers) (flight : Flight) → AreStages shape stages → x < shape.stages → stage ≡ stage_at stages x → visited stage flight ≡ done_at stages x flight
visited_is shape stages x stage flight had lt same =
    ap (λ (r : Registers). visited r flight) same
    ∙ ap (λ (s : ℕ). execute (is_due flight.pass s) flight.packet.ops.items [] flight.pairs.items (stage_at stages x).numbers) (had.each x lt).is

-- the client's seat behind the visit
pub record IsExecutedSeat (stages : List Registers) (seats : List Seat) (x c : ℕ) (seat : Seat) : Type 0 where
  pub spot : seat.spot ≡ (seat_at seats c).spot
  pub flight : seat.flight ≡ record (seat_at seats c).flight { pairs = seat.flight.pairs }
  pub pairs : seat.flight.pairs.items ≡ (done_at stages x (seat_at seats c).flight).pairs
  pub spare : seat.flight.pairs.spare ≡ (seat_at seats c).flight.pairs.spare
  pub due : seat.due ≡ (seat_at seats c).due

same_size : (shape : Shape) (stages : List Registers) (seats : List Seat) (x c : ℕ) (seat : Seat) → IsOnItsWay shape c (seat_at seats c).flight → IsExecutedSeat stages seats x c seat
    → length seat.flight.pairs.items ≡ length (seat_at seats c).flight.packet.ops.items
same_size shape stages seats x c seat way now =
    let old = (seat_at seats c).flight in
    ap length now.pairs ∙ length-execute (is_due old.pass x) old.packet.ops.items [] old.pairs.items (stage_at stages x).numbers ∙ omega arith

on_its_way : (shape : Shape) (c : ℕ) (old now : Flight) → IsOnItsWay shape c old → now ≡ record old { pairs = now.pairs } → length now.pairs.items ≡ length old.packet.ops.items → IsOnItsWay shape c now
on_its_way shape c old now way is size =
    subst (IsOnItsWay shape c) (sym is) (record { own = way.own; fits = way.fits; places = way.places; from_one = way.from_one; to_last = way.to_last; paired = size })

pub executed_keeps : (shape : Shape) (stages : List Registers) (slots : List (Option ℕ)) (seats : List Seat) (x c : ℕ) (f : PlainFlight) (seat : Seat) → AreSeated shape slots seats → Stands shape slots seats x c f
    → IsExecutedSeat stages seats x c seat → AreSeated shape slots (set seats c seat)
executed_keeps shape stages slots seats x c f seat had st now =
    let was = had.seat c st.there in
    let old = (seat_at seats c).flight in
    let size = same_size shape stages seats x c seat st.standing.way now in
    reseated shape slots slots seats c seat had st.there (others_same c slots)
    (λ y h. now.spot ∙ (had.slot y c h).spot)
    (record {
      ops_room = subst (λ (g : Flight). 16 ≤ room_of g.packet.ops) (sym now.flight) was.ops_room;
      pairs_room = omega (arith, was.pairs_room, size, now.spare, st.standing.way.paired);
      waits = λ h. let no : InSlot x ≡ AtPort = sym st.spot ∙ sym now.spot ∙ h in cc;
      stands = λ y h.
          let standing = was.stands y (sym now.spot ∙ h) in
          let Marked : Flight → Type 0 = λ g. AreMarks g.packet.ops.items g.pass seat.due in
          let Marks : List Bool → Type 0 = λ d. AreMarks old.packet.ops.items old.pass d in
          record {
            way = on_its_way shape c old seat.flight standing.way now.flight size;
            due = subst Marked (sym now.flight) (subst Marks (sym now.due) standing.due);
            slot = standing.slot;
          };
    })

executed_flight : (stages : List Registers) (x : ℕ) (old now : Flight) (pairs : List Pair) → now ≡ record old { pairs = now.pairs } → now.pairs.items ≡ pairs
    → plain_flight now ≡ record (plain_flight old) { pairs = pairs }
executed_flight stages x old now pairs is pairs_are = ap plain_flight is ∙ ap (λ (l : List Pair). record (plain_flight old) { pairs = l }) pairs_are

pub outside : (shape : Shape) (slots : List (Option ℕ)) (seats : List Seat) (x c : ℕ) (f : PlainFlight) → AreSeated shape slots seats → Stands shape slots seats x c f → (y : ℕ) → (y ≡ x → ⊥) → get_or slots y None ≡ Some c → ⊥
outside shape slots seats x c f had st y n h = n (same_slot y x (sym (had.slot y c h).spot ∙ st.spot))
  where
    same_slot : (a b : ℕ) → InSlot a ≡ InSlot b → a ≡ b
    same_slot a b e = cc

-- what is seen behind the visit
pub executed_shown : (shape : Shape) (stages : List Registers) (slots : List (Option ℕ)) (seats : List Seat) (halves : Holders) (next x c : ℕ) (f : PlainFlight) (stage : Registers) (seat : Seat)
    → AreStages shape stages → AreSeated shape slots seats → x < shape.stages → Stands shape slots seats x c f → IsExecutedSeat stages seats x c seat
    → stage.numbers ≡ (done_at stages x (seat_at seats c).flight).after
    → view shape (set stages x stage) slots (set seats c seat) halves next ≡ with_executed (view shape stages slots seats halves next) x f
executed_shown shape stages slots seats halves next x c f stage seat stood had lt st now is =
    let old = (seat_at seats c).flight in
    let s = view shape stages slots seats halves next in
    let alike = executed_alike shape stages x old.pass old.packet.ops.items old.pairs.items st.standing.way.places in
    let shown : view shape (set stages x stage) slots (set seats c seat) halves next ≡ with_executed s x (plain_flight old) = same_parts _ _ (record {
      shape = refl;
      registers = executed_numbers shape stages x old.pass old.packet.ops.items old.pairs.items stage stood lt st.standing.way.places is;
      slots = slots_stay seats slots c seat x st.there st.slot (outside shape slots seats x c f had st)
          ∙ ap (λ (g : PlainFlight). set (map (slotted seats) slots) x (Some g)) (executed_flight stages x old seat.flight (done_at stages x old).pairs now.flight now.pairs
          ∙ ap (λ (l : List Pair). record (plain_flight old) { pairs = l }) alike.pairs);
      waiting = waiting_same seats c seat ((at_slot seat x (now.spot ∙ st.spot)).0 ∙ sym (at_slot (seat_at seats c) x st.spot).0);
      boxes = boxed_same seats c seat ((at_slot seat x (now.spot ∙ st.spot)).1 ∙ sym (at_slot (seat_at seats c) x st.spot).1);
      halves = refl;
      next = refl;
    }) in
    shown ∙ ap (with_executed s x) st.flight

-- where no mark says that an operation is due, nothing changes
pub unmarked_shown : (shape : Shape) (stages : List Registers) (slots : List (Option ℕ)) (seats : List Seat) (halves : Holders) (next x c : ℕ) (f : PlainFlight) → Stands shape slots seats x c f
    → get_or (seat_at seats c).due x false ≡ false → view shape stages slots seats halves next ≡ with_executed (view shape stages slots seats halves next) x f
unmarked_shown shape stages slots seats halves next x c f st unmarked =
    let old = (seat_at seats c).flight in
    let s = view shape stages slots seats halves next in
    let none : list_any (is_due old.pass x) old.packet.ops.items ≡ false = sym (st.standing.due x) ∙ unmarked in
    let idle = execute_none (is_due old.pass x) old.packet.ops.items [] old.pairs.items s.registers none st.standing.way.paired in
    let slot : get_or (map (slotted seats) slots) x None ≡ Some (plain_flight old) = slotted_is seats slots x ∙ ap (slotted seats) st.slot in
    let shown : s ≡ with_executed s x (plain_flight old) = same_parts _ _ (record {
      shape = refl;
      registers = sym (ap (λ (r : Replayed). r.after) idle);
      slots = sym (set_itself (map (slotted seats) slots) None x)
          ∙ ap (set (map (slotted seats) slots) x) slot
          ∙ ap (λ (l : List Pair). set (map (slotted seats) slots) x (Some (record (plain_flight old) { pairs = l }))) (sym (ap (λ (r : Replayed). r.pairs) idle));
      waiting = refl;
      boxes = refl;
      halves = refl;
      next = refl;
    }) in
    shown ∙ ap (with_executed s x) st.flight

-- the client of whom it is seen that it stands there
pub stands_seen : (shape : Shape) (stages : List Registers) (slots : List (Option ℕ)) (seats : List Seat) (halves : Holders) (next x c : ℕ) (p : PlainPipeline) → AreSeated shape slots seats
    → view shape stages slots seats halves next ≡ p → IsAt p x c → (f : PlainFlight) × Stands shape slots seats x c f
stands_seen shape stages slots seats halves next x c p had is at =
    stands_at shape slots seats x c had (ap (λ (s : PlainPipeline). option_map (λ flight. flight.packet.client) (in_slot s x)) is ∙ at)

-- and the packet that is seen there is its own
pub stands_as : (shape : Shape) (stages : List Registers) (slots : List (Option ℕ)) (seats : List Seat) (halves : Holders) (next x c : ℕ) (p : PlainPipeline) (f : PlainFlight) → AreSeated shape slots seats
    → view shape stages slots seats halves next ≡ p → IsAt p x c → in_slot p x ≡ Some f → Stands shape slots seats x c f
stands_as shape stages slots seats halves next x c p f had is at there =
    let st = stands shape slots seats x f had (ap (λ (s : PlainPipeline). in_slot s x) is ∙ there) in
    let own : Some f.packet.client ≡ Some c = ap (option_map (λ (flight : PlainFlight). flight.packet.client)) (sym there) ∙ at in
    let same : f.packet.client ≡ c = cc in
    let P : ℕ → Type 0 = λ d. Stands shape slots seats x d f in
    subst P same st

-- the stage is one of the switch
pub stage_of : (shape : Shape) (slots : List (Option ℕ)) (seats : List Seat) (x c : ℕ) (f : PlainFlight) → AreSeated shape slots seats → Stands shape slots seats x c f → x < shape.stages
stage_of shape slots seats x c f had st = omega (arith, some_within slots x c st.slot, had.count)

-- the seat behind a visit, from what the visit says
pub executed_seat : (shape : Shape) (stages : List Registers) (slots : List (Option ℕ)) (seats : List Seat) (x c : ℕ) (f : PlainFlight) (old d : Seat) (stage e : Registers) (flight : Flight) (seat : Seat)
    → AreStages shape stages → x < shape.stages → Stands shape slots seats x c f → old ≡ get_or seats c d → stage ≡ get_or stages x e
    → flight ≡ record old.flight { pairs = flight.pairs } → flight.pairs.items ≡ (visited stage old.flight).pairs → flight.pairs.spare ≡ old.flight.pairs.spare
    → seat ≡ record { spot = old.spot; flight = flight; due = old.due } → IsExecutedSeat stages seats x c seat
executed_seat shape stages slots seats x c f old d stage e flight seat stood lt st was is kept pairs spare made =
    let same : old ≡ seat_at seats c = was ∙ get_or_default seats c d no_seat st.there in
    let same_stage_is = same_stage shape stages x stage e stood lt is in
    let P : Seat → Type 0 = λ s. IsExecutedSeat stages seats x c s in
    subst P (sym made) (record {
      spot = ap (λ (s : Seat). s.spot) same;
      flight = kept ∙ ap (λ (s : Seat). record s.flight { pairs = flight.pairs }) same;
      pairs = pairs ∙ ap (λ (r : Replayed). r.pairs) (visited_is shape stages x stage old.flight stood lt same_stage_is) ∙ ap (λ (s : Seat). (done_at stages x s.flight).pairs) same;
      spare = spare ∙ ap (λ (s : Seat). s.flight.pairs.spare) same;
      due = ap (λ (s : Seat). s.due) same;
    })

-- the stage behind a visit
pub visited_numbers : (shape : Shape) (stages : List Registers) (slots : List (Option ℕ)) (seats : List Seat) (x c : ℕ) (f : PlainFlight) (old d : Seat) (stage e now : Registers)
    → AreStages shape stages → x < shape.stages → Stands shape slots seats x c f → old ≡ get_or seats c d → stage ≡ get_or stages x e
    → now ≡ record stage { numbers = (visited stage old.flight).after } → now ≡ record { stage = (stage_at stages x).stage; numbers = (done_at stages x (seat_at seats c).flight).after }
visited_numbers shape stages slots seats x c f old d stage e now stood lt st was is numbers =
    let same : old ≡ seat_at seats c = was ∙ get_or_default seats c d no_seat st.there in
    let there = same_stage shape stages x stage e stood lt is in
    numbers
    ∙ ap (λ (m : Places). record stage { numbers = m }) (ap (λ (r : Replayed). r.after) (visited_is shape stages x stage old.flight stood lt there) ∙ ap (λ (s : Seat). (done_at stages x s.flight).after) same)
    ∙ ap (λ (r : Registers). record r { numbers = (done_at stages x (seat_at seats c).flight).after }) there

-- the stages behind a visit
pub visited_stages : (shape : Shape) (stages : List Registers) (slots : List (Option ℕ)) (seats : List Seat) (x c : ℕ) (f : PlainFlight) (now : Registers) → AreStages shape stages → x < shape.stages → Stands shape slots seats x c f
    → now ≡ record { stage = (stage_at stages x).stage; numbers = (done_at stages x (seat_at seats c).flight).after } → AreStages shape (set stages x now)
visited_stages shape stages slots seats x c f now stood lt st is =
    let old = (seat_at seats c).flight in
    let P : Registers → Type 0 = λ r. IsStage shape x r in
    restage shape stages x now stood lt (subst P (sym is) (executed_stage shape stages x old.pass old.packet.ops.items old.pairs.items stood lt st.standing.way.places))

-- what a visit asks for
pub visit_is : (shape : Shape) (stages : List Registers) (slots : List (Option ℕ)) (seats : List Seat) (x c : ℕ) (f : PlainFlight) (old d : Seat) (stage e : Registers) → AreStages shape stages → x < shape.stages
    → Stands shape slots seats x c f → old ≡ get_or seats c d → stage ≡ get_or stages x e → CanVisit stage old.flight
visit_is shape stages slots seats x c f old d stage e stood lt st was is =
    let same : old ≡ seat_at seats c = was ∙ get_or_default seats c d no_seat st.there in
    let P : Registers → Type 0 = λ r. IsStage shape x r in
    let Q : Seat → Type 0 = λ s. IsOnItsWay shape c s.flight in
    can_visit shape x c stage old.flight (subst P (sym (same_stage shape stages x stage e stood lt is)) (stood.each x lt)) (subst Q (sym same) st.standing.way)
