-- Posting, and answers that are dropped: a pipeline goes on as the switch's model does.
use Rattle.std.proofs.Common.{◌≡◌, ◌≢◌, ℕ, ◌+◌, ◌<◌, ◌≤◌, Bool, true, false, List, set, length, get_or, position, Option, Some, None, inl, inr, refl, sym, ap, subst, ◌∙◌, arith, if◌then◌else◌}
use Rattle.std.specs.Option.{option_map}
use Rattle.std.proofs.lemmas.Bool.{cases_eq, cases_lt}
use Rattle.std.proofs.lemmas.List.{get_or-set_same, get_or-set_other, map-set, set_past}
use Rattle.std.proofs.lemmas.List.Quantifiers.{position-Some}
use Rattle.txn_model.specs.Places.{Places}
use Rattle.stage_layout.specs.declared.shape.Shape.{Shape}
use Rattle.switch_packet.specs.Packets.{PlainPacket}
use Rattle.switch_packet.specs.Replay.{register_at}
use Rattle.switch_model.specs.Event.{with_desk, post, posted as model_posted, take_answer, taken}
use Rattle.switch_model.specs.Fitting.{IsPlanned}
use Rattle.switch_model.specs.Flight.{no_flight, flight_at, is_done, is_in_slot}
use Rattle.switch_model.specs.Reached.{IsReached}
use Rattle.switch_model.specs.Switch.{Switch, Desk, Vacant, Posted, Entered, desk_at, answer_on}
use Rattle.switch_model.proofs.Facts.{Positions, Desks}
use Rattle.switch_model.proofs.Kept as kept
use Rattle.switch_model.proofs.Tests.{below, is_below, equal}
use Rattle.pipeline.specs.ModelLaws.{GoesAlong, PostsAreEvents, IsDropped, AnswersAreTaken}
use Rattle.pipeline.specs.Numbers.{numbers_of}
use Rattle.pipeline.specs.Plain.{PlainFlight, PlainPipeline}
use Rattle.pipeline.specs.Rows.{IsVacant, posted, dropped}
use Rattle.pipeline.specs.Seen.{seen_flight, slot_of, waiting_on, box_on, seen_of}
use Rattle.pipeline.specs.Shows.{ArePlanned, Shows}
use Rattle.pipeline.proofs.DesksSeen.{waiting_as_it_was, box_as_it_was, waits_not, waits_no_more}
use Rattle.pipeline.proofs.HalvesSeen.{holders_of}
use Rattle.pipeline.proofs.Shown.{waiting_is, box_is, slot_in}
use Rattle.pipeline.proofs.SlotsSeen.{slots_of}

-- where the model goes on to this state
pub goes_to : (shape : Shape) (made : Option PlainPipeline) (model : Option Switch) (after : PlainPipeline) (next : Switch) → made ≡ Some after → model ≡ Some next → Shows shape after next → GoesAlong shape made model
goes_to shape made model after next e m shows = subst (GoesAlong shape made) (sym m) (after, e, shows)

-- where neither goes on
pub stays : (shape : Shape) (made : Option PlainPipeline) (model : Option Switch) → made ≡ None → model ≡ None → GoesAlong shape made model
stays shape made model e m = subst (GoesAlong shape made) (sym m) e

-- ---- a desk that changes

same_posted : (p q : PlainPacket) → Posted p ≡ Posted q → p ≡ q
same_posted p q e = cc

-- the packets are planned still, where the desk has none or one that is
pub desk_planned : (shape : Shape) (s : Switch) (c : ℕ) (desk : Desk) → ArePlanned shape s → ((p : PlainPacket) → desk ≡ Posted p → IsPlanned shape p) → ArePlanned shape (with_desk s c desk)
desk_planned shape s c desk h new = record {
  entered = h.entered;
  posted = λ d q is. elim (cases_eq d c) [
    | inl e ↦ elim (cases_lt c (length s.desks)) [
      | inl lt ↦ new q (sym (ap (λ (x : ℕ). get_or (set s.desks c desk) x Vacant) e ∙ get_or-set_same s.desks c desk Vacant lt) ∙ is)
      | inr ge ↦ h.posted d q (ap (λ (l : List Desk). get_or l d Vacant) (sym (set_past s.desks c desk ge)) ∙ is)
    ]
    | inr n ↦ h.posted d q (sym (get_or-set_other s.desks c d desk Vacant n) ∙ is)
  ];
}

-- ---- posting

out_of_slots : (shape : Shape) (s : Switch) (c x : ℕ) (f : PlainFlight) → Positions shape (length s.flights) (flight_at s.flights) → Desks shape s → desk_at s c ≡ Vacant → slot_of s.flights x ≡ Some f → f.packet.client ≢ c
out_of_slots shape s c x f held desks vacant e same = by (position (is_in_slot x) s.flights) refl e
  where
    by : (o : Option ℕ) → position (is_in_slot x) s.flights ≡ o → option_map (seen_flight s.flights) o ≡ Some f → ⊥
    by None at none = cc
    by (Some k) at some =
        let p = position-Some (is_in_slot x) s.flights k no_flight at in
        let slot = equal (flight_at s.flights k).depth (x + 1) p.1 in
        let spot = held.spot k p.0 in
        let seen : seen_flight s.flights k ≡ f = cc in
        let client : (flight_at s.flights k).packet.client ≡ c = ap (λ (g : PlainFlight). g.packet.client) seen ∙ same in
        let under : (flight_at s.flights k).pass ≤ (flight_at s.flights k).packet.passes = elim (cases_lt (flight_at s.flights k).packet.passes (flight_at s.flights k).pass) [ inl over ↦ absurd (omega (arith, slot, spot.done over)) | inr le ↦ le ] in
        let clash : Vacant ≡ Entered k = sym vacant ∙ ap (desk_at s) (sym client) ∙ desks.under_way k p.0 under in
        cc

pub vacant_seen : (shape : Shape) (first : Places) (s : Switch) (seen : PlainPipeline) (c : ℕ) → IsReached shape first s → Shows shape seen s → desk_at s c ≡ Vacant → IsVacant seen c
vacant_seen shape first s seen c reached h vacant =
    let holds = kept.holds shape first s reached in
    record {
      slots = λ x f e. out_of_slots shape s c x f holds.positions holds.desks vacant (sym (slot_in shape seen s x holds.positions h) ∙ e);
      waiting = waiting_is shape seen s c h ∙ ap (waiting_on s.flights) vacant;
      box = box_is shape seen s c h ∙ ap (box_on s.flights) vacant;
    }

post_is : (s : Switch) (c : ℕ) (p : PlainPacket) → desk_at s c ≡ Vacant → c < length s.desks → post s c p ≡ Some (with_desk s c (Posted p))
unfolding post
post_is s c p vacant there = ap (model_posted s c p) vacant ∙ ap (λ (b : Bool). if b then Some (with_desk s c (Posted p)) else None) (is_below c (length s.desks) there)

posted_seen : (shape : Shape) (s : Switch) (c : ℕ) (p : PlainPacket) (seen : PlainPipeline) → desk_at s c ≡ Vacant → seen ≡ seen_of shape s → posted seen c p ≡ seen_of shape (with_desk s c (Posted p))
unfolding seen_of
posted_seen shape s c p seen vacant is =
    ap (λ (x : PlainPipeline). record x { waiting = (posted x c p).waiting }) is
    ∙ (λ i. record {
      shape = shape;
      registers = numbers_of shape (register_at s.registers);
      slots = slots_of shape s.flights;
      waiting = sym (map-set (waiting_on s.flights) s.desks c (Posted p)) i;
      boxes = (sym (box_as_it_was s.flights s.desks c None (ap (box_on s.flights) vacant)) ∙ sym (map-set (box_on s.flights) s.desks c (Posted p))) i;
      halves = holders_of shape s.flights;
      next = length s.flights + 1;
    })

pub post_shown : PostsAreEvents
post_shown shape first s seen c p reached h there vacant planned = record {
  vacant = vacant_seen shape first s seen c reached h vacant;
  goes = goes_to shape (Some (posted seen c p)) (post s c p) (posted seen c p) (with_desk s c (Posted p)) refl (post_is s c p vacant there) (record {
    is = posted_seen shape s c p seen vacant h.is;
    planned = desk_planned shape s c (Posted p) h.planned (λ q e. subst (IsPlanned shape) (same_posted p q e) planned);
  });
}

-- ---- answers

dropped_seen : (shape : Shape) (s : Switch) (c k : ℕ) (seen : PlainPipeline) → desk_at s c ≡ Entered k → is_done (flight_at s.flights k) ≡ true → seen ≡ seen_of shape s → dropped seen c ≡ seen_of shape (with_desk s c Vacant)
unfolding seen_of
dropped_seen shape s c k seen desk done is =
    ap (λ (x : PlainPipeline). dropped x c) is
    ∙ (λ i. record {
      shape = shape;
      registers = numbers_of shape (register_at s.registers);
      slots = slots_of shape s.flights;
      waiting = (sym (waiting_as_it_was s.flights s.desks c None (ap (waiting_on s.flights) desk ∙ waits_not k (flight_at s.flights k) (waits_no_more (flight_at s.flights k) (below _ _ done)))) ∙ sym (map-set (waiting_on s.flights) s.desks c Vacant)) i;
      boxes = sym (map-set (box_on s.flights) s.desks c Vacant) i;
      halves = holders_of shape s.flights;
      next = length s.flights + 1;
    })

pub answer_shown : AnswersAreTaken
unfolding take_answer
answer_shown shape s seen c h = record { box = box_is shape seen s c h; dropped = by (desk_at s c) refl }
  where
    taken_at : (desk : Desk) → desk_at s c ≡ desk → take_answer s c ≡ taken s c desk
    taken_at desk at = ap (taken s c) at

    when : (k : ℕ) (b : Bool) → desk_at s c ≡ Entered k → is_done (flight_at s.flights k) ≡ b → IsDropped shape seen s c (if b then Some (record { number = k + 1; pairs = (flight_at s.flights k).pairs }) else None)
    when k true at done =
        goes_to shape (Some (dropped seen c)) (take_answer s c) (dropped seen c) (with_desk s c Vacant) refl
        (taken_at (Entered k) at ∙ ap (λ (b : Bool). if b then Some (with_desk s c Vacant) else None) done)
        (record { is = dropped_seen shape s c k seen at done h.is; planned = desk_planned shape s c Vacant h.planned (λ p e. cc) })
    when k false at done = taken_at (Entered k) at ∙ ap (λ (b : Bool). if b then Some (with_desk s c Vacant) else None) done

    by : (desk : Desk) → desk_at s c ≡ desk → IsDropped shape seen s c (answer_on s.flights desk)
    by Vacant at = taken_at Vacant at
    by (Posted p) at = taken_at (Posted p) at
    by (Entered k) at = when k (is_done (flight_at s.flights k)) at refl
