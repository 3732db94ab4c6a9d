-- Beginnings, and pipelines that are restored: they show the switch's model.
use Rattle.std.proofs.Common.{◌≡◌, ◌≢◌, ◌⊎◌, ℕ, zero, suc, ◌+◌, ◌<◌, ◌&&◌, ◌||◌, Bool, false, List, [], ◌∷◌, map, set, length, get_or, replicate, Option, Some, None, inl, inr, refl, sym, ap, subst, ◌∙◌, arith, if◌then◌else◌}
use Rattle.std.specs.List.{AllByRecursion, Contains, list_any, range_with_len}
use Rattle.std.specs.Option.{option_map}
use Rattle.std.proofs.lemmas.Bool.{cases_eq}
use Rattle.std.proofs.lemmas.Bool.Decides.{nat_tests}
use Rattle.std.proofs.lemmas.List.{ext_get_or, get_or-set_same, get_or-set_other, length-map, length-set, length-replicate}
use Rattle.txn_model.specs.Places.{Places}
use Rattle.stage_layout.specs.declared.shape.Shape.{Shape}
use Rattle.switch_packet.specs.Packets.{PlainPacket}
use Rattle.switch_packet.specs.Replay.{replay, replay_all, register_at}
use Rattle.switch_model.specs.Fitting.{IsPlanned}
use Rattle.switch_model.specs.Flight.{no_flight, flight_at, is_waiting, is_in_slot, is_early, holds, is_held, packet_touches}
use Rattle.switch_model.specs.Switch as model
use Rattle.switch_model.specs.Switch.{Switch, Desk, Vacant, Posted, Entered, Answer, desk_at, answer_of, done_flight, done_flights, fresh_switch}
use Rattle.pipeline.specs.ModelLaws.{FreshIsShown, with_answers, AreAnswers, NoneWaits, RestoredIsShown}
use Rattle.pipeline.specs.Numbers.{numbers_of}
use Rattle.pipeline.specs.Plain.{PlainFlight, PlainBox, PlainPipeline}
use Rattle.pipeline.specs.Rows.{fresh_pipeline, erased, restored, given_answer}
use Rattle.pipeline.specs.Seen.{seen_flight, slot_of, waiting_on, boxed, box_on, holder_of, seen_of}
use Rattle.pipeline.proofs.ButOne.{nowhere}
use Rattle.pipeline.proofs.DesksSeen.{box_at}
use Rattle.pipeline.proofs.SlotsSeen.{slots_of}

-- ---- packets that were executed whole: they stand in no slot, wait for nothing, and hold nothing

not_in_slot : (x : ℕ) (p : PlainPacket) (m : Places) → is_in_slot x (done_flight p m) ≡ false
not_in_slot x p m = grind (arith, nat_tests)

not_early : (p : PlainPacket) (m : Places) → is_early (done_flight p m) ≡ false
not_early p m = grind (arith, nat_tests)

not_waiting : (p : PlainPacket) (m : Places) → is_waiting (done_flight p m) ≡ false
not_waiting p m = grind (arith, nat_tests)

none_in_slot : (x : ℕ) (ps : List PlainPacket) (m : Places) → list_any (is_in_slot x) (done_flights ps m) ≡ false
unfolding done_flights
none_in_slot x [] m = refl
none_in_slot x (p ∷ ps) m = λ i. not_in_slot x p m i || none_in_slot x ps (replay p m).after i

none_held : (shape : Shape) (region : ℕ) (ps : List PlainPacket) (m : Places) → is_held shape (done_flights ps m) region ≡ false
unfolding done_flights
none_held shape region [] m = refl
none_held shape region (p ∷ ps) m = λ i. (not_early p m i && packet_touches shape p region) || none_held shape region ps (replay p m).after i

none_waits : (ps : List PlainPacket) (m : Places) (k : ℕ) → is_waiting (flight_at (done_flights ps m) k) ≡ false
unfolding done_flights
none_waits [] m k = refl
none_waits (p ∷ ps) m zero = not_waiting p m
none_waits (p ∷ ps) m (suc k) = none_waits ps (replay p m).after k

all_done : (ps : List PlainPacket) (m : Places) → length (done_flights ps m) ≡ length ps
unfolding done_flights
all_done [] m = refl
all_done (p ∷ ps) m = ap suc (all_done ps (replay p m).after)

all_planned : (shape : Shape) (ps : List PlainPacket) (m : Places) → AllByRecursion (IsPlanned shape) ps → (k : ℕ) → k < length (done_flights ps m) → IsPlanned shape (flight_at (done_flights ps m) k).packet
unfolding done_flights
all_planned shape [] m all k lt = absurd (omega arith)
all_planned shape (p ∷ ps) m all zero lt = all.0
all_planned shape (p ∷ ps) m all (suc k) lt = all_planned shape ps (replay p m).after all.1 k (omega arith)

-- ---- what is seen of them

constant : {X : Type 0} (f : ℕ → X) (d : X) (a n : ℕ) → ((i : ℕ) → f i ≡ d) → replicate n d ≡ map f (range_with_len a n)
constant f d a zero h = refl
constant f d a (suc n) h = λ i. sym (h a) i ∷ constant f d (a + 1) n h i

no_slots : (shape : Shape) (ps : List PlainPacket) (m : Places) → replicate shape.stages None ≡ slots_of shape (done_flights ps m)
no_slots shape ps m =
    constant (slot_of (done_flights ps m)) None 0 shape.stages
    (λ x. ap (option_map (seen_flight (done_flights ps m))) (nowhere (is_in_slot x) no_flight (done_flights ps m) (none_in_slot x ps m)))

no_holder : (shape : Shape) (region : ℕ) (ps : List PlainPacket) (m : Places) → None ≡ holder_of shape (done_flights ps m) region
no_holder shape region ps m =
    sym (ap (option_map (λ k. (flight_at (done_flights ps m) k).packet.client)) (nowhere (holds shape region) no_flight (done_flights ps m) (none_held shape region ps m)))

desk_waits_not : (ps : List PlainPacket) (m : Places) (desk : Desk) → ((p : PlainPacket) → desk ≢ Posted p) → None ≡ waiting_on (done_flights ps m) desk
desk_waits_not ps m Vacant none = refl
desk_waits_not ps m (Posted p) none = absurd (none p refl)
desk_waits_not ps m (Entered k) none = sym (ap (λ (b : Bool). if b then Some (seen_flight (done_flights ps m) k) else None) (none_waits ps m k))

nothing_waits : (ps : List PlainPacket) (m : Places) (desks : List Desk) → NoneWaits desks → replicate (length desks) None ≡ map (waiting_on (done_flights ps m)) desks
nothing_waits ps m [] none = refl
nothing_waits ps m (desk ∷ desks) none = λ i. desk_waits_not ps m desk (none 0) i ∷ nothing_waits ps m desks (λ c. none (suc c)) i

-- ---- answers that are given

abbrev boxes_with : List (Option PlainBox) → List (ℕ × Answer) → List (Option PlainBox)
boxes_with boxes [] = boxes
boxes_with boxes (given ∷ rest) = boxes_with (set boxes given.0 (Some (boxed given.1))) rest

-- giving answers changes boxes alone
with_boxes : (seen : PlainPipeline) (answers : List (ℕ × Answer)) → with_answers seen answers ≡ record seen { boxes = boxes_with seen.boxes answers }
with_boxes seen [] = refl
with_boxes seen (given ∷ rest) = with_boxes (given_answer seen given.0 given.1.number given.1.pairs) rest

size_kept : (boxes : List (Option PlainBox)) (answers : List (ℕ × Answer)) → length (boxes_with boxes answers) ≡ length boxes
size_kept boxes [] = refl
size_kept boxes (given ∷ rest) = size_kept (set boxes given.0 (Some (boxed given.1))) rest ∙ length-set boxes given.0 (Some (boxed given.1))

-- one of the answers is for this client
abbrev Has : List (ℕ × Answer) → ℕ → Type 0
Has answers c = (answer : Answer) × Contains answers (c, answer)

later : (c d : ℕ) (a : Answer) (rest : List (ℕ × Answer)) → (c ≡ d → ⊥) → Has ((d, a) ∷ rest) c → Has rest c
later c d a rest n h = go h.1.0 h.1.1 h.1.2
  where
    go : (k : ℕ) → k < suc (length rest) → get_or ((d, a) ∷ rest) k (c, h.0) ≡ (c, h.0) → Has rest c
    go zero lt e = absurd (n (sym (ap (λ (x : ℕ × Answer). x.0) e)))
    go (suc k) lt e = (h.0, (k, omega arith, e))

-- a box has what is wanted, where it had that before or an answer for it is given, and all that is given is wanted
box_given : (want : ℕ → Option PlainBox) (answers : List (ℕ × Answer)) (boxes : List (Option PlainBox)) (c : ℕ) → AllByRecursion (λ given. want given.0 ≡ Some (boxed given.1)) answers → c < length boxes
    → (get_or boxes c None ≡ want c) ⊎ Has answers c → get_or (boxes_with boxes answers) c None ≡ want c
box_given want [] boxes c all lt h = elim h [ inl e ↦ e | inr has ↦ absurd (omega (arith, has.1.1)) ]
box_given want (given ∷ rest) boxes c all lt h =
    let box = Some (boxed given.1) in
    box_given want rest (set boxes given.0 box) c all.1 (omega (arith, lt, length-set boxes given.0 box))
    (elim (cases_eq c given.0) [
      | inl e ↦ inl (ap (λ (i : ℕ). get_or (set boxes given.0 box) i None) e ∙ get_or-set_same boxes given.0 box None (subst (λ (i : ℕ). i < length boxes) e lt) ∙ sym all.0 ∙ ap want (sym e))
      | inr n ↦ elim h [
        | inl was ↦ inl (get_or-set_other boxes given.0 c box None n ∙ was)
        | inr has ↦ inr (later c given.0 given.1 rest n has)
      ]
    ])

none_at : (n c : ℕ) → get_or {A = Option PlainBox} (replicate n None) c None ≡ None
none_at zero c = refl
none_at (suc n) zero = refl
none_at (suc n) (suc c) = none_at n c

wanted : (s : Switch) (answers : List (ℕ × Answer)) → AllByRecursion (λ given. answer_of s given.0 ≡ Some given.1) answers → AllByRecursion (λ given. option_map boxed (answer_of s given.0) ≡ Some (boxed given.1)) answers
wanted s [] all = tt
wanted s (given ∷ rest) all = (ap (option_map boxed) all.0, wanted s rest all.1)

given_boxes : (s : Switch) (answers : List (ℕ × Answer)) → AreAnswers s answers → boxes_with (replicate (length s.desks) None) answers ≡ map (box_on s.flights) s.desks
given_boxes s answers h =
    let none = replicate (length s.desks) None in
    let count : length none ≡ length s.desks = length-replicate (length s.desks) None in
    let size : length (boxes_with none answers) ≡ length s.desks = size_kept none answers ∙ count in
    ext_get_or None (boxes_with none answers) (map (box_on s.flights) s.desks) (size ∙ sym (length-map s.desks (box_on s.flights)))
    (λ c lt.
    box_given (λ d. option_map boxed (answer_of s d)) answers none c (wanted s answers h.right) (omega (arith, lt, size, count)) (by c (answer_of s c) refl)
    ∙ sym (box_at s.flights s.desks c))
  where
    by : (c : ℕ) (o : Option Answer) → answer_of s c ≡ o → (get_or (replicate (length s.desks) None) c None ≡ option_map boxed (answer_of s c)) ⊎ Has answers c
    by c None e = inl (none_at (length s.desks) c ∙ sym (ap (option_map boxed) e))
    by c (Some answer) e = inr (answer, h.all c answer e)

-- ---- restored pipelines

restored_seen : (shape : Shape) (first : Places) (packets : List PlainPacket) (desks : List Desk) (seen : PlainPipeline) (answers : List (ℕ × Answer)) → seen.shape ≡ shape → length seen.waiting ≡ length desks → NoneWaits desks
    → AreAnswers (model.restored first packets desks) answers
    → with_answers (restored (erased seen) (replay_all packets first).after (length packets + 1)) answers ≡ seen_of shape (model.restored first packets desks)
unfolding seen_of model.restored
restored_seen shape first packets desks seen answers same count none h =
    let m = (replay_all packets first).after in
    let n = length packets + 1 in
    with_boxes (restored (erased seen) m n) answers
    ∙ (λ i. record {
      shape = same i;
      registers = numbers_of (same i) (register_at m);
      slots = replicate (same i).stages None;
      waiting = replicate (count i) None;
      boxes = boxes_with (replicate (count i) None) answers;
      halves = None ∷ None ∷ [];
      next = n;
    })
    ∙ (λ i. record {
      shape = shape;
      registers = numbers_of shape (register_at m);
      slots = no_slots shape packets first i;
      waiting = nothing_waits packets first desks none i;
      boxes = given_boxes (model.restored first packets desks) answers h i;
      halves = no_holder shape 0 packets first i ∷ no_holder shape 1 packets first i ∷ [];
      next = sym (all_done packets first) i + 1;
    })

pub restored_shown : RestoredIsShown
unfolding model.restored
restored_shown shape first packets desks seen answers same count planned none h = record {
  is = restored_seen shape first packets desks seen answers same count none h;
  planned = record {
    entered = all_planned shape packets first planned;
    posted = λ c p is. absurd (none c p is);
  };
}

-- ---- fresh pipelines

all_vacant : (n c : ℕ) → get_or (replicate n Vacant) c Vacant ≡ Vacant
all_vacant zero c = refl
all_vacant (suc n) zero = refl
all_vacant (suc n) (suc c) = all_vacant n c

none_posted : (clients : ℕ) → NoneWaits (replicate clients Vacant)
none_posted clients c p e = let clash : Vacant ≡ Posted p = sym (all_vacant clients c) ∙ e in cc

boxes_empty : (n : ℕ) → replicate n None ≡ map (box_on []) (replicate n Vacant)
boxes_empty zero = refl
boxes_empty (suc n) = ap (λ (l : List (Option PlainBox)). None ∷ l) (boxes_empty n)

waiting_empty : (n : ℕ) → replicate n None ≡ map (waiting_on []) (replicate n Vacant)
waiting_empty zero = refl
waiting_empty (suc n) = ap (λ (l : List (Option PlainFlight)). None ∷ l) (waiting_empty n)

fresh_seen : (shape : Shape) (first : Places) (clients : ℕ) → fresh_pipeline shape first clients ≡ seen_of shape (fresh_switch first clients)
unfolding seen_of model.restored done_flights replay_all
fresh_seen shape first clients = λ i. record {
  shape = shape;
  registers = numbers_of shape (register_at first);
  slots = constant (slot_of []) None 0 shape.stages (λ x. refl) i;
  waiting = waiting_empty clients i;
  boxes = boxes_empty clients i;
  halves = None ∷ None ∷ [];
  next = 1;
}

pub fresh_shown : FreshIsShown
unfolding model.restored done_flights
fresh_shown shape first clients = record {
  is = fresh_seen shape first clients;
  planned = record {
    entered = λ k lt. absurd (omega (arith, lt));
    posted = λ c p is. absurd (none_posted clients c p is);
  };
}
