-- Entries: a pipeline goes on as the switch's model does.
use Rattle.std.proofs.Common.{◌≡◌, ℕ, ◌+◌, ◌<◌, ◌≤◌, ◌==◌, ◌&&◌, ◌^◌, Bool, true, false, not, [], ◌∷◌, ◌++◌, map, set, length, get_or, Option, Some, None, is_some, inl, inr, refl, sym, ap, subst, ◌∙◌, arith, if◌then◌else◌}
use Rattle.std.specs.Prelude.{is_none}
use Rattle.std.specs.List.{list_any, list_all, position}
use Rattle.std.proofs.Math.Nat.{mod-eq_of_lt}
use Rattle.std.proofs.Math.Seq.{get_or-append_seam}
use Rattle.std.proofs.lemmas.Bool.{cases_eq, cases_lt}
use Rattle.std.proofs.lemmas.Bool.Decides.{nat_tests}
use Rattle.std.proofs.lemmas.List.{get_or-set_same, get_or-set_other, get_or_append_left, length_push, length-set}
use Rattle.std.proofs.lemmas.List.FromFn.{length-map-range_with_len}
use Rattle.txn_model.specs.Places.{Places}
use Rattle.stage_layout.specs.Regions.{region_of}
use Rattle.stage_layout.specs.declared.shape.Shape.{Shape}
use Rattle.switch_packet.specs.Packets.{PlainPacket}
use Rattle.switch_packet.specs.Replay.{register_at}
use Rattle.pipeline_locks.specs.Holders.{first_held, without}
use Rattle.switch_model.specs.Event as model
use Rattle.switch_model.specs.Event.{Enter, with_flight, in_first_slot, enter}
use Rattle.switch_model.specs.Fitting.{IsPlanned}
use Rattle.switch_model.specs.Flight.{Flight, no_flight, fresh_flight, flight_at, is_waiting, is_in_slot, is_free, is_held, places_of, packet_touches, may_enter}
use Rattle.switch_model.specs.Laws.{held_behind_entry}
use Rattle.switch_model.specs.Reached.{IsReached}
use Rattle.switch_model.specs.Switch.{Switch, Desk, Vacant, Posted, Entered, desk_at}
use Rattle.switch_model.proofs.Facts.{Positions, Holds}
use Rattle.switch_model.proofs.HeldInTurn.{held_in_turn}
use Rattle.switch_model.proofs.Kept as kept
use Rattle.switch_model.proofs.Kept.{posted_there, entered_there}
use Rattle.switch_model.proofs.Tests.{both, both_true, is_below, what_may_enter, when_waiting}
use Rattle.pipeline.specs.ModelLaws.{GoesAlong, EntriesAreEvents}
use Rattle.pipeline.specs.Numbers.{numbers_of}
use Rattle.pipeline.specs.Plain.{PlainPipeline}
use Rattle.pipeline.specs.Rows.{in_slot, posted_flight, has_free_first_slot, first_entry, later_entry, entered_from, entered}
use Rattle.pipeline.specs.Seen.{seen_flight, slot_of, waiting_on, box_on, seen_of}
use Rattle.pipeline.specs.Shows.{ArePlanned, Shows}
use Rattle.pipeline.proofs.ButOne.{is_some-option_map, some_position}
use Rattle.pipeline.proofs.DesksSeen.{waiting_changes, waiting_entered, box_stays, box_as_it_was, box_entered, waits_not, not_boxed, not_done, waits_in_no_slot}
use Rattle.pipeline.proofs.HalvesSeen.{holders_of, free_seen, first_entry_halves, same_halves, given_back, early_later, passed_in_slot}
use Rattle.pipeline.proofs.Shown.{next_is, waiting_is, slot_in}
use Rattle.pipeline.proofs.SlotsSeen.{first_entry_slots, later_entry_slots}

-- ---- whether slot 0 is free

none_not_some : {X : Type 0} (o : Option X) (b : Bool) → is_some o ≡ b → is_none o ≡ not b
none_not_some None true e = cc
none_not_some None false e = refl
none_not_some (Some x) true e = refl
none_not_some (Some x) false e = cc

-- a slot is seen to be empty exactly where it is
pub empty_seen : (shape : Shape) (seen : PlainPipeline) (s : Switch) (x : ℕ) → Positions shape (length s.flights) (flight_at s.flights) → Shows shape seen s → is_none (in_slot seen x) ≡ is_free s.flights x
empty_seen shape seen s x held h =
    none_not_some (in_slot seen x) (list_any (is_in_slot x) s.flights)
    (ap is_some (slot_in shape seen s x held h) ∙ is_some-option_map (seen_flight s.flights) (position (is_in_slot x) s.flights) ∙ some_position (is_in_slot x) no_flight s.flights)

slots_are : (shape : Shape) (seen : PlainPipeline) (s : Switch) → Shows shape seen s → length seen.slots ≡ shape.stages
unfolding seen_of
slots_are shape seen s h = ap (λ (x : PlainPipeline). length x.slots) h.is ∙ length-map-range_with_len (slot_of s.flights) 0 shape.stages

first_slot_seen : (shape : Shape) (seen : PlainPipeline) (s : Switch) → 1 ≤ shape.stages → Positions shape (length s.flights) (flight_at s.flights) → Shows shape seen s → has_free_first_slot seen ≡ is_free s.flights 0
first_slot_seen shape seen s stages held h =
    ap (λ (b : Bool). b && is_none (in_slot seen 0)) (is_below 0 (length seen.slots) (omega (arith, stages, slots_are shape seen s h))) ∙ empty_seen shape seen s 0 held h

-- ---- a first entry

halves_are : (shape : Shape) (seen : PlainPipeline) (s : Switch) → Shows shape seen s → seen.halves ≡ holders_of shape s.flights
unfolding seen_of
halves_are shape seen s h = ap (λ (x : PlainPipeline). x.halves) h.is

-- what is seen of the state behind the first entry
first_seen : (shape : Shape) (first : Places) (s : Switch) (c : ℕ) (p : PlainPacket) (seen : PlainPipeline) → Holds shape first s → desk_at s c ≡ Posted p → IsPlanned shape p → may_enter shape s.flights p ≡ true → length s.flights + 1 + 1 < 2 ^ 64
    → seen ≡ seen_of shape s → first_entry seen c (posted_flight p) ≡ seen_of shape (model.first_entry s c p)
unfolding seen_of
first_seen shape first s c p seen holds desk planned may small is =
    let f = fresh_flight p in
    let n = length s.flights in
    let now = s.flights ++ f ∷ [] in
    let there = posted_there s.desks c p desk in
    let ok = what_may_enter shape s.flights p may in
    let before = ap (box_on s.flights) desk in
    ap (λ (x : PlainPipeline). first_entry x c (posted_flight p)) is
    ∙ (λ i. record {
      shape = shape;
      registers = numbers_of shape (register_at s.registers);
      slots = sym (first_entry_slots shape s.flights p holds.stages (both _ _ may).0) i;
      waiting = sym (waiting_entered shape s c f holds.desks there) i;
      boxes = (sym (box_entered shape s c f holds.desks there ∙ ap (set (map (box_on s.flights) s.desks) c) (not_boxed n f (not_done f planned.fits.passes)) ∙ box_as_it_was s.flights s.desks c None before)) i;
      halves = sym (first_entry_halves shape s.flights p c planned.halves (holds.desks.posted c p desk).1 ok.unheld) i;
      next = (mod-eq_of_lt small ∙ ap (λ (m : ℕ). m + 1) (sym (length_push s.flights f))) i;
    })

first_planned : (shape : Shape) (s : Switch) (c : ℕ) (p : PlainPacket) → c < length s.desks → ArePlanned shape s → IsPlanned shape p → ArePlanned shape (model.first_entry s c p)
first_planned shape s c p there h planned = record {
  entered = λ k lt. elim (cases_lt k (length s.flights)) [
    | inl below ↦ subst (IsPlanned shape) (ap (λ (g : Flight). g.packet) (sym (get_or_append_left s.flights (f ∷ []) no_flight k below))) (h.entered k below)
    | inr above ↦
        let last : k ≡ length s.flights = omega (arith, lt, above, length_push s.flights f) in
        subst (IsPlanned shape) (sym (ap (λ (j : ℕ). (flight_at (s.flights ++ f ∷ []) j).packet) last ∙ ap (λ (g : Flight). g.packet) (get_or-append_seam s.flights f [] no_flight))) planned
  ];
  posted = λ d q is. elim (cases_eq d c) [
    | inl e ↦ let clash : Entered (length s.flights) ≡ Posted q = sym (ap (λ (x : ℕ). get_or (set s.desks c (Entered (length s.flights))) x Vacant) e ∙ get_or-set_same s.desks c (Entered (length s.flights)) Vacant there) ∙ is in cc
    | inr n ↦ h.posted d q (sym (get_or-set_other s.desks c d (Entered (length s.flights)) Vacant n) ∙ is)
  ];
}
  where
    f : Flight
    f = fresh_flight p

-- ---- a later entry

later_halves : (shape : Shape) (first : Places) (s : Switch) (c k : ℕ) → IsReached shape first s → Holds shape first s → desk_at s c ≡ Entered k → is_waiting (flight_at s.flights k) ≡ true
    → enter shape s c ≡ Some (with_flight s k (in_first_slot (flight_at s.flights k)))
    → holders_of shape (set s.flights k (in_first_slot (flight_at s.flights k))) ≡ (if (flight_at s.flights k).pass == (flight_at s.flights k).packet.passes then without c (holders_of shape s.flights) else holders_of shape s.flights)
later_halves shape first s c k reached holds desk waits e = by ((flight_at s.flights k).pass == (flight_at s.flights k).packet.passes) refl
  where
    f : Flight
    f = flight_at s.flights k

    released : ((flight_at s.flights k).pass == (flight_at s.flights k).packet.passes) ≡ true → (region : ℕ) → packet_touches shape (flight_at s.flights k).packet region ≡ true
        → is_held shape (set s.flights k (in_first_slot (flight_at s.flights k))) region ≡ false
    released is region touch =
        held_in_turn shape first s (with_flight s k (in_first_slot (flight_at s.flights k))) (Enter c) region reached tt e
        ∙ ap (held_behind_entry shape s region) desk
        ∙ and_not (is_held shape s.flights region) ((flight_at s.flights k).pass == (flight_at s.flights k).packet.passes) (packet_touches shape (flight_at s.flights k).packet region) is touch
      where
        and_not : (a b d : Bool) → b ≡ true → d ≡ true → (a && not (b && d)) ≡ false
        and_not true true true x y = refl
        and_not true true false x y = cc
        and_not true false d x y = cc
        and_not false b d x y = refl

    by : (last : Bool) → ((flight_at s.flights k).pass == (flight_at s.flights k).packet.passes) ≡ last
        → holders_of shape (set s.flights k (in_first_slot (flight_at s.flights k))) ≡ (if last then without c (holders_of shape s.flights) else holders_of shape s.flights)
    by true is = given_back shape s c k (in_first_slot (flight_at s.flights k)) holds.desks desk (passed_in_slot (flight_at s.flights k) is) (λ region touch. released is region touch)
    by false is = let w = when_waiting (flight_at s.flights k) waits in
        same_halves shape s.flights k (in_first_slot (flight_at s.flights k)) (holds.desks.entered c k desk).0 refl (early_later (flight_at s.flights k) w.0 w.1.1 is)

later_seen : (shape : Shape) (first : Places) (s : Switch) (c k : ℕ) (seen : PlainPipeline) → IsReached shape first s → Holds shape first s → desk_at s c ≡ Entered k → is_waiting (flight_at s.flights k) ≡ true → is_free s.flights 0 ≡ true
    → enter shape s c ≡ Some (with_flight s k (in_first_slot (flight_at s.flights k)))
    → seen ≡ seen_of shape s → later_entry seen c (seen_flight s.flights k) ≡ seen_of shape (with_flight s k (in_first_slot (flight_at s.flights k)))
unfolding seen_of
later_seen shape first s c k seen reached holds desk waits free e is =
    let f = flight_at s.flights k in
    let g = in_first_slot f in
    let w = when_waiting f waits in
    let there = (holds.desks.entered c k desk).0 in
    ap (λ (x : PlainPipeline). later_entry x c (seen_flight s.flights k)) is
    ∙ (λ i. record {
      shape = shape;
      registers = numbers_of shape (register_at s.registers);
      slots = sym (later_entry_slots shape s.flights k holds.stages there w.0 free) i;
      waiting = sym (waiting_changes shape s c k g holds.desks desk (entered_there s.desks c k desk) ∙ ap (set (map (waiting_on s.flights) s.desks) c) (waits_not k g (waits_in_no_slot g (omega arith)))) i;
      boxes = sym (box_stays s.flights s.desks k g there refl) i;
      halves = sym (later_halves shape first s c k reached holds desk waits e) i;
      next = sym (ap (λ (m : ℕ). m + 1) (length-set s.flights k g)) i;
    })

-- a flight that is another one of the same packet
pub flight_planned : (shape : Shape) (s : Switch) (registers : Places) (k : ℕ) (f : Flight) → f.packet ≡ (flight_at s.flights k).packet → ArePlanned shape s → ArePlanned shape (record { registers = registers; flights = set s.flights k f; desks = s.desks })
flight_planned shape s registers k f same h = record {
  entered = λ j lt. let below : j < length s.flights = omega (arith, lt, length-set s.flights k f) in elim (cases_eq j k) [
    | inl e ↦
        subst (IsPlanned shape)
        (ap (λ (i : ℕ). (flight_at s.flights i).packet) e ∙ sym same ∙ ap (λ (g : Flight). g.packet) (sym (get_or-set_same s.flights k f no_flight (subst (λ (i : ℕ). i < length s.flights) e below)))
        ∙ ap (λ (i : ℕ). (flight_at (set s.flights k f) i).packet) (sym e))
        (h.entered j below)
    | inr n ↦ subst (IsPlanned shape) (ap (λ (g : Flight). g.packet) (sym (get_or-set_other s.flights k j f no_flight n))) (h.entered j below)
  ];
  posted = h.posted;
}

-- ---- both

two_tests : {X Y : Type 0} (a b : Bool) (x : X) (y : Y) (P : Option X → Option Y → Type 0) → P None None → (a ≡ true → b ≡ true → P (Some x) (Some y)) → P (if a then (if b then Some x else None) else None) (if a && b then Some y else None)
two_tests true true x y P none some = some refl refl
two_tests true false x y P none some = none
two_tests false b x y P none some = none

pub enter_shown : EntriesAreEvents
unfolding enter
enter_shown shape first s seen c reached h small = by (desk_at s c) refl
  where
    holds : Holds shape first s
    holds = kept.holds shape first s reached

    few : length s.flights + 1 + 1 < 2 ^ 64
    few = subst (λ (n : ℕ). n + 1 < 2 ^ 64) (next_is shape seen s h) small

    model_at : (desk : Desk) → desk_at s c ≡ desk → enter shape s c ≡ model.entered_from shape s c desk
    model_at desk at = ap (model.entered_from shape s c) at

    seen_at : (desk : Desk) → desk_at s c ≡ desk → entered seen c ≡ entered_from seen c (waiting_on s.flights desk)
    seen_at desk at = ap (entered_from seen c) (waiting_is shape seen s c h ∙ ap (waiting_on s.flights) at)

    first_slot : has_free_first_slot seen ≡ is_free s.flights 0
    first_slot = first_slot_seen shape seen s holds.stages holds.positions h

    -- a packet that waits for its first pass
    enters_first : (p : PlainPacket) → desk_at s c ≡ Posted p → GoesAlong shape (entered_from seen c (Some (posted_flight p))) (model.entered_from shape s c (Posted p))
    enters_first p at =
        let planned = h.planned.posted c p at in
        let unheld = list_all (λ place. not (is_held shape s.flights (region_of shape place.stage))) (places_of p) in
        let free : is_none (first_held p.halves seen.halves) ≡ unheld = ap (λ l. is_none (first_held p.halves l)) (halves_are shape seen s h) ∙ free_seen shape s.flights p planned.halves in
        let after = first_entry seen c (posted_flight p) in
        let next = model.first_entry s c p in
        subst (λ (made : Option PlainPipeline). GoesAlong shape made (model.entered_from shape s c (Posted p)))
        (λ i. if sym first_slot i then (if sym free i then Some after else None) else None)
        (two_tests (is_free s.flights 0) unheld after next (GoesAlong shape) refl
        (λ a b. (after, refl, record { is = first_seen shape first s c p seen holds at planned (both_true a b) few h.is; planned = first_planned shape s c p (posted_there s.desks c p at) h.planned planned })))

    -- one that waits for a later pass
    enters_later : (k : ℕ) (waits : Bool) → desk_at s c ≡ Entered k → is_waiting (flight_at s.flights k) ≡ waits
        → GoesAlong shape (entered_from seen c (if waits then Some (seen_flight s.flights k) else None)) (if waits && is_free s.flights 0 then Some (with_flight s k (in_first_slot (flight_at s.flights k))) else None)
    enters_later k false at waits = refl
    enters_later k true at waits =
        let w = when_waiting (flight_at s.flights k) waits in
        let after = later_entry seen c (seen_flight s.flights k) in
        let next = with_flight s k (in_first_slot (flight_at s.flights k)) in
        let not_first : ((flight_at s.flights k).pass == 1) ≡ false = later (flight_at s.flights k).pass w.1.0 in
        subst (λ (made : Option PlainPipeline). GoesAlong shape made (if is_free s.flights 0 then Some next else None))
        (λ i. if sym first_slot i then (if sym not_first i then (if is_none (first_held (flight_at s.flights k).packet.halves seen.halves) then Some (first_entry seen c (seen_flight s.flights k)) else None) else Some after) else None)
        (go k at waits (is_free s.flights 0) refl)
      where
        later : (pass : ℕ) → 2 ≤ pass → (pass == 1) ≡ false
        later pass two = grind (arith, nat_tests)

        go : (k : ℕ) → desk_at s c ≡ Entered k → is_waiting (flight_at s.flights k) ≡ true → (free : Bool) → is_free s.flights 0 ≡ free
            → GoesAlong shape (if free then Some (later_entry seen c (seen_flight s.flights k)) else None) (if free then Some (with_flight s k (in_first_slot (flight_at s.flights k))) else None)
        go k at waits false free = refl
        go k at waits true free =
            let moves : enter shape s c ≡ Some (with_flight s k (in_first_slot (flight_at s.flights k))) =
            model_at (Entered k) at ∙ (λ i. if waits i && free i then Some (with_flight s k (in_first_slot (flight_at s.flights k))) else None) in (
              later_entry seen c (seen_flight s.flights k),
              refl,
              record {
                is = later_seen shape first s c k seen reached holds at waits free moves h.is;
                planned = flight_planned shape s s.registers k (in_first_slot (flight_at s.flights k)) refl h.planned;
              },
            )

    along : (desk : Desk) → desk_at s c ≡ desk → GoesAlong shape (entered_from seen c (waiting_on s.flights desk)) (model.entered_from shape s c desk)
    along Vacant at = refl
    along (Posted p) at = enters_first p at
    along (Entered k) at = enters_later k (is_waiting (flight_at s.flights k)) at refl

    by : (desk : Desk) → desk_at s c ≡ desk → GoesAlong shape (entered seen c) (enter shape s c)
    by desk at = subst (λ (made : Option PlainPipeline). GoesAlong shape made (enter shape s c)) (sym (seen_at desk at)) (subst (GoesAlong shape (entered_from seen c (waiting_on s.flights desk))) (sym (model_at desk at)) (along desk at))
