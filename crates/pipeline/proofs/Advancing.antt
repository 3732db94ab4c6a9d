-- Stages: a pipeline goes on as the switch's model does.
use Rattle.std.proofs.Common.{◌≡◌, ℕ, ◌+◌, ◌<◌, ◌≤◌, ◌==◌, ◌||◌, Bool, true, false, nat_lt, List, map, set, length, position, Option, Some, None, inl, inr, refl, sym, ap, subst, ◌∙◌, arith, if◌then◌else◌}
use Rattle.std.specs.Option.{option_map}
use Rattle.std.proofs.lemmas.Bool.{cases_lt}
use Rattle.std.proofs.lemmas.List.{length-set}
use Rattle.txn_model.specs.Places.{Places}
use Rattle.txn_model.specs.declared.pairs.Pair.{Pair}
use Rattle.stage_layout.specs.declared.shape.Shape.{Shape}
use Rattle.switch_packet.specs.Replay.{Replayed, register_at}
use Rattle.switch_model.specs.Event as model
use Rattle.switch_model.specs.Event.{advance}
use Rattle.switch_model.specs.Flight.{Flight, flight_at, is_in_slot, is_free, is_due}
use Rattle.switch_model.specs.Switch.{Switch, Entered, desk_at}
use Rattle.switch_model.proofs.Facts.{Holds}
use Rattle.switch_model.proofs.Kept as kept
use Rattle.switch_model.proofs.Kept.{InSlot, in_slot, entered_there}
use Rattle.switch_model.proofs.Tests.{below, at_most, is_equal, clash}
use Rattle.pipeline.specs.ModelLaws.{GoesAlong, AdvancesAreEvents}
use Rattle.pipeline.specs.Numbers.{numbers_of}
use Rattle.pipeline.specs.Plain.{PlainFlight, PlainPipeline}
use Rattle.pipeline.specs.Rows as rows
use Rattle.pipeline.specs.Rows.{may_leave, executed_at, come_through, gone_on, left_slot, advanced_from, advanced}
use Rattle.pipeline.specs.Seen.{seen_flight, waiting_on, box_on, seen_of}
use Rattle.pipeline.specs.Shows.{ArePlanned, Shows}
use Rattle.pipeline.proofs.DesksSeen.{waiting_changes, waiting_stays, box_changes, box_stays, waits_not, waits, not_boxed, is_boxed, not_done, is_over, waits_in_no_slot, waits_no_more, waits_for_next}
use Rattle.pipeline.proofs.Entering.{empty_seen, flight_planned}
use Rattle.pipeline.proofs.HalvesSeen.{holders_of, same_halves, early_on, early_out}
use Rattle.pipeline.proofs.RegistersSeen.{executed_seen}
use Rattle.pipeline.proofs.Shown.{shape_is, slot_in}
use Rattle.pipeline.proofs.SlotsSeen.{slots_of, last_stage_slots, next_slots}

-- a flight with these pairs, behind the last stage, and behind one before
abbrev out_of : Flight → List Pair → Flight
out_of f pairs = record { packet = f.packet; pass = f.pass + 1; depth = 0; pairs = pairs }

abbrev on_to : Flight → List Pair → Flight
on_to f pairs = record { packet = f.packet; pass = f.pass; depth = f.depth + 1; pairs = pairs }

-- the state behind the stage, where flight k is this one and the registers are these
abbrev behind : Switch → ℕ → Flight → Places → Switch
behind s k f registers = record { registers = registers; flights = set s.flights k f; desks = s.desks }

-- what a packet in a slot is like
record Stands (shape : Shape) (s : Switch) (x k : ℕ) : Type 0 where
  there : k < length s.flights
  slot : (flight_at s.flights k).depth ≡ x + 1
  inside : x < shape.stages
  under : (flight_at s.flights k).pass ≤ (flight_at s.flights k).packet.passes
  desk : desk_at s (flight_at s.flights k).packet.client ≡ Entered k

stands : (shape : Shape) (first : Places) (s : Switch) (x k : ℕ) → Holds shape first s → position (is_in_slot x) s.flights ≡ Some k → Stands shape s x k
stands shape first s x k holds at =
    let t = in_slot s x k at in
    let spot = holds.positions.spot k t.there in
    let under : (flight_at s.flights k).pass ≤ (flight_at s.flights k).packet.passes = elim (cases_lt (flight_at s.flights k).packet.passes (flight_at s.flights k).pass) [ inl over ↦ absurd (omega (arith, t.slot, spot.done over)) | inr le ↦ le ] in
    record { there = t.there; slot = t.slot; inside = omega (arith, t.slot, spot.deepest); under = under; desk = holds.desks.under_way k t.there under }

-- ---- what is seen behind the stage, once the operations are executed

module _ (shape : Shape) (first : Places) (s : Switch) (x k : ℕ) (pairs : List Pair) (registers : Places) (holds : Holds shape first s) (t : Stands shape s x k) where
  abbrev f : Flight
  f = flight_at s.flights k

  -- the packet with its new pairs
  abbrev gone : PlainFlight
  gone = record { packet = f.packet; pairs = pairs; pass = f.pass; number = k + 1 }

  -- what is left where it stood
  abbrev left : PlainPipeline
  left = record {
    shape = shape;
    registers = numbers_of shape (register_at registers);
    slots = set (slots_of shape s.flights) x None;
    waiting = map (waiting_on s.flights) s.desks;
    boxes = map (box_on s.flights) s.desks;
    halves = holders_of shape s.flights;
    next = length s.flights + 1;
  }

  to_next : (x + 1 == shape.stages) ≡ false → is_free s.flights (x + 1) ≡ true → rows.with_slot left (x + 1) (Some gone) ≡ seen_of shape (behind s k (on_to f pairs) registers)
  unfolding seen_of
  to_next last free =
      let g = on_to f pairs in
      let below : x + 1 < shape.stages = within (omega (arith, t.inside)) in
      λ i. record {
        shape = shape;
        registers = numbers_of shape (register_at registers);
        slots = sym (next_slots shape s.flights k x g holds.positions t.there t.slot below free (omega (arith, t.slot))) i;
        waiting = sym (waiting_stays s.flights s.desks k g t.there (waits_not k g (waits_in_no_slot g (omega arith)) ∙ sym (waits_not k f (waits_in_no_slot f (omega (arith, t.slot)))))) i;
        boxes = sym (box_stays s.flights s.desks k g t.there (not_boxed k g (not_done g (omega (arith, t.under))) ∙ sym (not_boxed k f (not_done f t.under)))) i;
        halves = sym (same_halves shape s.flights k g t.there refl (early_on f pairs (omega (arith, t.slot)))) i;
        next = sym (ap (λ (m : ℕ). m + 1) (length-set s.flights k g)) i;
      }
    where
      within : x + 1 ≤ shape.stages → x + 1 < shape.stages
      within le = elim (cases_lt (x + 1) shape.stages) [ inl lt ↦ lt | inr ge ↦ absurd (clash _ (is_equal (x + 1) shape.stages (omega arith)) last) ]

  to_port : f.pass < f.packet.passes
      → rows.with_waiting left f.packet.client (Some (record { packet = gone.packet; pairs = gone.pairs; pass = gone.pass + 1; number = gone.number })) ≡ seen_of shape (behind s k (out_of f pairs) registers)
  unfolding seen_of
  to_port less =
      let g = out_of f pairs in
      let client = f.packet.client in
      λ i. record {
        shape = shape;
        registers = numbers_of shape (register_at registers);
        slots = sym (last_stage_slots shape s.flights k x g holds.positions t.there t.slot t.inside refl) i;
        waiting = sym (waiting_changes shape s client k g holds.desks t.desk (entered_there s.desks client k t.desk) ∙ ap (set (map (waiting_on s.flights) s.desks) client) (waits k g (waits_for_next g refl (omega (arith, (holds.positions.spot k t.there).from_one)) (omega (arith, less))))) i;
        boxes = sym (box_stays s.flights s.desks k g t.there (not_boxed k g (not_done g (omega (arith, less))) ∙ sym (not_boxed k f (not_done f t.under)))) i;
        halves = sym (same_halves shape s.flights k g t.there refl (early_out f pairs (omega (arith, t.slot)))) i;
        next = sym (ap (λ (m : ℕ). m + 1) (length-set s.flights k g)) i;
      }

  to_box : f.packet.passes ≤ f.pass → rows.with_box left f.packet.client (Some (record { number = gone.number; pairs = gone.pairs })) ≡ seen_of shape (behind s k (out_of f pairs) registers)
  unfolding seen_of
  to_box last =
      let g = out_of f pairs in
      let client = f.packet.client in
      λ i. record {
        shape = shape;
        registers = numbers_of shape (register_at registers);
        slots = sym (last_stage_slots shape s.flights k x g holds.positions t.there t.slot t.inside refl) i;
        waiting = sym (waiting_stays s.flights s.desks k g t.there (waits_not k g (waits_no_more g (omega (arith, last))) ∙ sym (waits_not k f (waits_in_no_slot f (omega (arith, t.slot)))))) i;
        boxes = sym (box_changes shape s client k g holds.desks t.desk (entered_there s.desks client k t.desk) ∙ ap (set (map (box_on s.flights) s.desks) client) (is_boxed k g (is_over g (omega (arith, last))))) i;
        halves = sym (same_halves shape s.flights k g t.there refl (early_out f pairs (omega (arith, t.slot)))) i;
        next = sym (ap (λ (m : ℕ). m + 1) (length-set s.flights k g)) i;
      }

  -- the last stage
  comes_through : (less : Bool) → nat_lt f.pass f.packet.passes ≡ less
      → (if less
      then rows.with_waiting left f.packet.client (Some (record { packet = gone.packet; pairs = gone.pairs; pass = gone.pass + 1; number = gone.number }))
      else rows.with_box left f.packet.client (Some (record { number = gone.number; pairs = gone.pairs })))
      ≡ seen_of shape (behind s k (out_of f pairs) registers)
  comes_through true e = to_port (below f.pass f.packet.passes e)
  comes_through false e = to_box (at_most f.pass f.packet.passes e)

  goes_on : (last : Bool) → (x + 1 == shape.stages) ≡ last → (last || is_free s.flights (x + 1)) ≡ true
      → (if last then come_through left gone else rows.with_slot left (x + 1) (Some gone)) ≡ seen_of shape (behind s k (if last then out_of f pairs else on_to f pairs) registers)
  goes_on true e may = comes_through (nat_lt f.pass f.packet.passes) refl
  goes_on false e may = to_next e may

-- ---- the stage

abbrev made : Switch → ℕ → ℕ → Replayed
made s x k = model.executed_at s x (flight_at s.flights k)

-- what is executed is seen
executed_left : (shape : Shape) (first : Places) (s : Switch) (x k : ℕ) (holds : Holds shape first s) (t : Stands shape s x k) → ArePlanned shape s
    → left_slot (seen_of shape s) x (seen_flight s.flights k) ≡ gone_on (left shape first s x k (made s x k).pairs (made s x k).after holds t) x (gone shape first s x k (made s x k).pairs (made s x k).after holds t)
unfolding seen_of
executed_left shape first s x k holds t planned =
    let f = flight_at s.flights k in
    let e = executed_seen shape (is_due f.pass x) f.packet.ops f.pairs s.registers (planned.entered k t.there).places in
    λ i. gone_on (record {
      shape = shape;
      registers = e.after i;
      slots = set (slots_of shape s.flights) x None;
      waiting = map (waiting_on s.flights) s.desks;
      boxes = map (box_on s.flights) s.desks;
      halves = holders_of shape s.flights;
      next = length s.flights + 1;
    }) x (record { packet = f.packet; pairs = e.pairs i; pass = f.pass; number = k + 1 })

left_seen : (shape : Shape) (first : Places) (s : Switch) (x k : ℕ) (seen : PlainPipeline) → Holds shape first s → Stands shape s x k → Shows shape seen s → model.may_leave shape s.flights x ≡ true
    → left_slot seen x (seen_flight s.flights k) ≡ seen_of shape (model.advanced shape s x k)
left_seen shape first s x k seen holds t h may =
    let done = made s x k in
    ap (λ (y : PlainPipeline). left_slot y x (seen_flight s.flights k)) h.is
    ∙ executed_left shape first s x k holds t h.planned
    ∙ goes_on shape first s x k done.pairs done.after holds t (x + 1 == shape.stages) refl may

packet_stays : (b : Bool) (f : Flight) (pairs : List Pair) → (if b then out_of f pairs else on_to f pairs).packet ≡ f.packet
packet_stays true f pairs = refl
packet_stays false f pairs = refl

pub advance_shown : AdvancesAreEvents
unfolding advance
advance_shown shape first s seen x reached h = by (position (is_in_slot x) s.flights) refl
  where
    holds : Holds shape first s
    holds = kept.holds shape first s reached

    may_seen : may_leave seen x ≡ model.may_leave shape s.flights x
    may_seen = λ i. (x + 1 == (shape_is shape seen s h i).stages) || empty_seen shape seen s (x + 1) holds.positions h i

    leaves : (k : ℕ) (may : Bool) → position (is_in_slot x) s.flights ≡ Some k → model.may_leave shape s.flights x ≡ may
        → GoesAlong shape (if may then Some (left_slot seen x (seen_flight s.flights k)) else None) (if may then Some (model.advanced shape s x k) else None)
    leaves k false at may = refl
    leaves k true at may =
        let t = stands shape first s x k holds at in
        let done = model.executed_at s x (flight_at s.flights k) in (
          left_slot seen x (seen_flight s.flights k),
          refl,
          record {
            is = left_seen shape first s x k seen holds t h may;
            planned = flight_planned shape s done.after k (model.moved_on shape x (flight_at s.flights k) done) (packet_stays (x + 1 == shape.stages) (flight_at s.flights k) done.pairs) h.planned;
          },
        )

    along : (o : Option ℕ) → position (is_in_slot x) s.flights ≡ o → GoesAlong shape (advanced_from seen x (option_map (seen_flight s.flights) o)) (model.advanced_from shape s x o)
    along None at = refl
    along (Some k) at =
        subst (λ (b : Bool). GoesAlong shape (if b then Some (left_slot seen x (seen_flight s.flights k)) else None) (if model.may_leave shape s.flights x then Some (model.advanced shape s x k) else None)) (sym may_seen)
        (leaves k (model.may_leave shape s.flights x) at refl)

    by : (o : Option ℕ) → position (is_in_slot x) s.flights ≡ o → GoesAlong shape (advanced seen x) (advance shape s x)
    by o at =
        subst (λ (made : Option PlainPipeline). GoesAlong shape made (advance shape s x)) (sym (ap (advanced_from seen x) (slot_in shape seen s x holds.positions h ∙ ap (option_map (seen_flight s.flights)) at)))
        (subst (GoesAlong shape (advanced_from seen x (option_map (seen_flight s.flights) o))) (sym (ap (model.advanced_from shape s x) at)) (along o at))
