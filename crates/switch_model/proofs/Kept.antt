-- Each event keeps what holds of the switch.
use Rattle.std.proofs.Common.{◌≡◌, ◌⊎◌, ℕ, ◌+◌, ◌<◌, ◌≤◌, ◌==◌, ◌||◌, Bool, true, false, List, [], ◌∷◌, ◌++◌, map, set, length, get_or, Some, inl, inr, refl, sym, ap, ◌∙◌, subst, arith, if◌then◌else◌}
use Rattle.std.specs.List.{position}
use Rattle.std.proofs.Math.Seq.{get_or-append_seam, map-set_same}
use Rattle.std.proofs.lemmas.Bool.{cases_eq, cases_lt}
use Rattle.std.proofs.lemmas.List.{get_or-set_same, get_or-set_other, get_or_past, length-set, length_push, length-map, map_push}
use Rattle.std.proofs.lemmas.List.Quantifiers.{position-Some}
use Rattle.txn_model.specs.Places.{Places}
use Rattle.txn_model.specs.declared.pairs.Pair.{Pair}
use Rattle.stage_layout.specs.declared.shape.Shape.{Shape}
use Rattle.switch_packet.specs.declared.packet.PacketOp.{PacketOp}
use Rattle.switch_packet.specs.Packets.{PlainPacket}
use Rattle.switch_packet.specs.Replay.{Replayed, execute}
use Rattle.switch_model.specs.Event.{Event, Post, Enter, Advance, Take, step, with_desk, with_flight, first_entry, in_first_slot, executed_at, advanced, may_leave}
use Rattle.switch_model.specs.Fitting.{FitsSwitch}
use Rattle.switch_model.specs.Flight.{Flight, no_flight, fresh_flight, flight_at, is_due, is_free, is_in_slot, is_waiting, may_enter}
use Rattle.switch_model.specs.Reached.{FitsEvent, IsReached, Starts, GoesOn}
use Rattle.switch_model.specs.Switch.{Switch, Desk, Vacant, Posted, Entered, desk_at, entered}
use Rattle.switch_model.proofs.Facts.{Positions, IsExecuted, Values, Desks, Holds}
use Rattle.switch_model.proofs.Moves.{Move, move_of}
use Rattle.switch_model.proofs.Positions.{Becomes, each_becomes, first_entry_keeps, later_entry_keeps, next_slot_keeps, last_slot_keeps}
use Rattle.switch_model.proofs.Starts.{start_holds}
use Rattle.switch_model.proofs.Tests.{equal, is_equal, below, clash, both_true, due_at, free_slot, what_may_enter, none_holds, when_waiting}
use Rattle.switch_model.proofs.Values.{Turn, Leaves, behind, get_or_other, stage_keeps, later_entry_values, first_entry_values}

-- ---- flights and desks after a change

pub flight_set : (flights : List Flight) (k : ℕ) (f : Flight) → k < length flights → Becomes k f (flight_at flights) (flight_at (set flights k f))
flight_set flights k f lt = record {
  this = get_or-set_same flights k f no_flight lt;
  others = λ i n. get_or-set_other flights k i f no_flight n;
}

pub flight_push : (flights : List Flight) (f : Flight) → Becomes (length flights) f (flight_at flights) (flight_at (flights ++ f ∷ []))
flight_push flights f = record {
  this = get_or-append_seam flights f [] no_flight;
  others = λ i n. get_or_other flights f no_flight i n;
}

pub entered_set : (flights : List Flight) (k : ℕ) (f : Flight) → f.packet ≡ (flight_at flights k).packet → map (λ (g : Flight). g.packet) (set flights k f) ≡ map (λ (g : Flight). g.packet) flights
entered_set flights k f same = map-set_same (λ (g : Flight). g.packet) flights k f no_flight same

-- a packet that leaves a stage stays that packet
pub packet_stays : (b : Bool) (f : Flight) (pairs : List Pair)
    → (if b then (let out : Flight = record { packet = f.packet; pass = f.pass + 1; depth = 0; pairs = pairs } in out) else (let on : Flight = record { packet = f.packet; pass = f.pass; depth = f.depth + 1; pairs = pairs } in on)).packet ≡ f.packet
packet_stays true f pairs = refl
packet_stays false f pairs = refl

-- a client that has something under way is there
pub desk_there : (desks : List Desk) (c : ℕ) → (get_or desks c Vacant ≡ Vacant → ⊥) → c < length desks
desk_there desks c n = elim (cases_lt c (length desks)) [ inl lt ↦ lt | inr ge ↦ absurd (n (get_or_past desks c Vacant ge)) ]

pub posted_there : (desks : List Desk) (c : ℕ) (p : PlainPacket) → get_or desks c Vacant ≡ Posted p → c < length desks
posted_there desks c p is = desk_there desks c (λ v. let e : Posted p ≡ Vacant = sym is ∙ v in cc)

pub entered_there : (desks : List Desk) (c k : ℕ) → get_or desks c Vacant ≡ Entered k → c < length desks
entered_there desks c k is = desk_there desks c (λ v. let e : Entered k ≡ Vacant = sym is ∙ v in cc)

same_entered : (i j : ℕ) → Entered i ≡ Entered j → i ≡ j
same_entered i j e = cc

same_posted : (p q : PlainPacket) → Posted p ≡ Posted q → p ≡ q
same_posted p q e = cc

-- ---- posting

post_keeps : (shape : Shape) (first : Places) (s : Switch) (c : ℕ) (p : PlainPacket) → Holds shape first s → FitsSwitch shape p → p.client ≡ c → desk_at s c ≡ Vacant → c < length s.desks → Holds shape first (with_desk s c (Posted p))
post_keeps shape first s c p h fit own vacant there = record {
  stages = h.stages;
  positions = h.positions;
  values = h.values;
  desks = record {
    posted = λ d q is. elim (cases_eq d c) [
      | inl e ↦ let same : p ≡ q = same_posted p q (sym (here d e) ∙ is) in subst (λ (x : PlainPacket). FitsSwitch shape x × (x.client ≡ d)) same (fit, own ∙ sym e)
      | inr n ↦ h.desks.posted d q (sym (other d n) ∙ is)
    ];
    entered = λ d k is. elim (cases_eq d c) [
      | inl e ↦ absurd (let clash : Posted p ≡ Entered k = sym (here d e) ∙ is in cc)
      | inr n ↦ h.desks.entered d k (sym (other d n) ∙ is)
    ];
    under_way = λ k lt le. let old = h.desks.under_way k lt le in elim (cases_eq (flight_at s.flights k).packet.client c) [
      | inl e ↦ absurd (let clash : Vacant ≡ Entered k = sym vacant ∙ ap (desk_at s) (sym e) ∙ old in cc)
      | inr n ↦ other _ n ∙ old
    ];
  };
}
  where
    here : (d : ℕ) → d ≡ c → get_or (set s.desks c (Posted p)) d Vacant ≡ Posted p
    here d e = ap (λ (x : ℕ). get_or (set s.desks c (Posted p)) x Vacant) e ∙ get_or-set_same s.desks c (Posted p) Vacant there

    other : (d : ℕ) → (d ≡ c → ⊥) → get_or (set s.desks c (Posted p)) d Vacant ≡ desk_at s d
    other d n = get_or-set_other s.desks c d (Posted p) Vacant n

-- ---- taking an answer

take_keeps : (shape : Shape) (first : Places) (s : Switch) (c k : ℕ) → Holds shape first s → desk_at s c ≡ Entered k → (flight_at s.flights k).packet.passes < (flight_at s.flights k).pass → Holds shape first (with_desk s c Vacant)
take_keeps shape first s c k h desk done = record {
  stages = h.stages;
  positions = h.positions;
  values = h.values;
  desks = record {
    posted = λ d q is. elim (cases_eq d c) [
      | inl e ↦ absurd (let clash : Vacant ≡ Posted q = sym (here d e) ∙ is in cc)
      | inr n ↦ h.desks.posted d q (sym (other d n) ∙ is)
    ];
    entered = λ d j is. elim (cases_eq d c) [
      | inl e ↦ absurd (let clash : Vacant ≡ Entered j = sym (here d e) ∙ is in cc)
      | inr n ↦ h.desks.entered d j (sym (other d n) ∙ is)
    ];
    under_way = λ j lt le. let old = h.desks.under_way j lt le in elim (cases_eq (flight_at s.flights j).packet.client c) [
      | inl e ↦ absurd (not_done j le (same_entered k j (sym desk ∙ ap (desk_at s) (sym e) ∙ old)))
      | inr n ↦ other _ n ∙ old
    ];
  };
}
  where
    there : c < length s.desks
    there = entered_there s.desks c k desk

    here : (d : ℕ) → d ≡ c → get_or (set s.desks c Vacant) d Vacant ≡ Vacant
    here d e = ap (λ (x : ℕ). get_or (set s.desks c Vacant) x Vacant) e ∙ get_or-set_same s.desks c Vacant Vacant there

    other : (d : ℕ) → (d ≡ c → ⊥) → get_or (set s.desks c Vacant) d Vacant ≡ desk_at s d
    other d n = get_or-set_other s.desks c d Vacant Vacant n

    not_done : (j : ℕ) → (flight_at s.flights j).pass ≤ (flight_at s.flights j).packet.passes → k ≡ j → ⊥
    not_done j le same = let R : ℕ → Type 0 = λ i. (flight_at s.flights i).packet.passes < (flight_at s.flights i).pass in let over = subst R same done in omega arith

-- ---- a first entry

first_keeps : (shape : Shape) (first : Places) (s : Switch) (c : ℕ) (p : PlainPacket) → Holds shape first s → desk_at s c ≡ Posted p → may_enter shape s.flights p ≡ true → Holds shape first (first_entry s c p)
first_keeps shape first s c p h desk may =
    let own = h.desks.posted c p desk in
    let n = length s.flights in
    let b = flight_push s.flights (fresh_flight p) in
    let ok = what_may_enter shape s.flights p may in
    let count : length (s.flights ++ fresh_flight p ∷ []) ≡ n + 1 = length_push s.flights (fresh_flight p) in
    let size : length (entered s) ≡ n = length-map s.flights (λ (f : Flight). f.packet) in
    record {
      stages = h.stages;
      positions = subst (λ (m : ℕ). Positions shape m (flight_at (s.flights ++ fresh_flight p ∷ []))) (sym count)
          (first_entry_keeps shape n (flight_at s.flights) (flight_at (s.flights ++ fresh_flight p ∷ [])) p h.positions b h.stages own.0.passes ok.free (λ i region t u. none_holds shape s.flights region (ok.unheld region t) i u));
      values = subst (λ (ps : List PlainPacket). Values shape first s.registers ps (flight_at (s.flights ++ fresh_flight p ∷ []))) (sym (map_push (λ (f : Flight). f.packet) s.flights (fresh_flight p)))
          (first_entry_values shape first s.registers (entered s) (flight_at s.flights) (flight_at (s.flights ++ fresh_flight p ∷ [])) p h.values own.0
          (subst (λ (m : ℕ). Becomes m (fresh_flight p) (flight_at s.flights) (flight_at (s.flights ++ fresh_flight p ∷ []))) (sym size) b));
      desks = record {
        posted = λ d q is. elim (cases_eq d c) [
          | inl e ↦ absurd (let clash : Entered n ≡ Posted q = sym (here d e) ∙ is in cc)
          | inr m ↦ h.desks.posted d q (sym (other d m) ∙ is)
        ];
        entered = λ d k is. elim (cases_eq d c) [
          | inl e ↦ let same : n ≡ k = same_entered n k (sym (here d e) ∙ is) in (omega (arith, count), ap (λ (j : ℕ). (flight_at (s.flights ++ fresh_flight p ∷ []) j).packet.client) (sym same) ∙ ap (λ (f : Flight). f.packet.client) b.this ∙ own.1 ∙ sym e)
          | inr m ↦ let old = h.desks.entered d k (sym (other d m) ∙ is) in (omega (arith, count, old.0), ap (λ (f : Flight). f.packet.client) (b.others k (λ e. omega (arith, old.0))) ∙ old.1)
        ];
        under_way = λ k lt le. each_becomes (λ k f. k < n + 1 → f.pass ≤ f.packet.passes → get_or (set s.desks c (Entered n)) f.packet.client Vacant ≡ Entered k) n (fresh_flight p) (flight_at s.flights) (flight_at (s.flights ++ fresh_flight p ∷ [])) b
            (λ lt le. here p.client own.1)
            k (λ m lt le. let old = h.desks.under_way k (omega arith) le in other _ (λ e. let clash : Posted p ≡ Entered k = sym desk ∙ ap (desk_at s) (sym e) ∙ old in cc) ∙ old)
            (omega (arith, lt, count)) le;
      };
    }
  where
    there : c < length s.desks
    there = posted_there s.desks c p desk

    here : (d : ℕ) → d ≡ c → get_or (set s.desks c (Entered (length s.flights))) d Vacant ≡ Entered (length s.flights)
    here d e = ap (λ (x : ℕ). get_or (set s.desks c (Entered (length s.flights))) x Vacant) e ∙ get_or-set_same s.desks c (Entered (length s.flights)) Vacant there

    other : (d : ℕ) → (d ≡ c → ⊥) → get_or (set s.desks c (Entered (length s.flights))) d Vacant ≡ desk_at s d
    other d m = get_or-set_other s.desks c d (Entered (length s.flights)) Vacant m

-- ---- a flight that is changed, whose packet stays

desks_keep : (shape : Shape) (s : Switch) (registers : Places) (k : ℕ) (f : Flight) → Desks shape s → k < length s.flights → f.packet ≡ (flight_at s.flights k).packet → (f.pass ≤ f.packet.passes → (flight_at s.flights k).pass ≤ (flight_at s.flights k).packet.passes)
    → Desks shape (record { registers = registers; flights = set s.flights k f; desks = s.desks })
desks_keep shape s registers k f h there same under =
    let b = flight_set s.flights k f there in
    let clients : (j : ℕ) → (flight_at (set s.flights k f) j).packet.client ≡ (flight_at s.flights j).packet.client = λ j.
    each_becomes (λ j g. g.packet.client ≡ (flight_at s.flights j).packet.client) k f (flight_at s.flights) (flight_at (set s.flights k f)) b (ap (λ (p : PlainPacket). p.client) same) j (λ n. refl) in
    record {
      posted = h.posted;
      entered = λ c j is. let old = h.entered c j is in (omega (arith, length-set s.flights k f, old.0), clients j ∙ old.1);
      under_way = λ j lt le. ap (λ (c : ℕ). get_or s.desks c Vacant) (clients j) ∙ h.under_way j (omega (arith, lt, length-set s.flights k f))
          (each_becomes (λ j g. g.pass ≤ g.packet.passes → (flight_at s.flights j).pass ≤ (flight_at s.flights j).packet.passes) k f (flight_at s.flights) (flight_at (set s.flights k f)) b under j (λ n le. le) le);
    }

later_keeps : (shape : Shape) (first : Places) (s : Switch) (c k : ℕ) → Holds shape first s → desk_at s c ≡ Entered k → is_waiting (flight_at s.flights k) ≡ true → is_free s.flights 0 ≡ true → Holds shape first (with_flight s k (in_first_slot (flight_at s.flights k)))
later_keeps shape first s c k h desk waits free =
    let f = in_first_slot (flight_at s.flights k) in
    let w = when_waiting (flight_at s.flights k) waits in
    let there = (h.desks.entered c k desk).0 in
    let b = flight_set s.flights k f there in
    record {
      stages = h.stages;
      positions = subst (λ (m : ℕ). Positions shape m (flight_at (set s.flights k f))) (sym (length-set s.flights k f))
          (later_entry_keeps shape (length s.flights) k (flight_at s.flights) (flight_at (set s.flights k f)) there h.positions b h.stages w.1.0 w.1.1 w.0 (λ i d. free_slot s.flights 0 free i (d ∙ omega arith)));
      values = subst (λ (ps : List PlainPacket). Values shape first s.registers ps (flight_at (set s.flights k f))) (sym (entered_set s.flights k f refl))
          (later_entry_values shape first s.registers (entered s) (flight_at s.flights) (flight_at (set s.flights k f)) k h.values w.0 b);
      desks = desks_keep shape s s.registers k f h.desks there refl (λ le. le);
    }

-- ---- a stage

-- the k-th flight stands in slot x
pub record InSlot (s : Switch) (x k : ℕ) : Type 0 where
  pub there : k < length s.flights
  pub slot : (flight_at s.flights k).depth ≡ x + 1

pub in_slot : (s : Switch) (x k : ℕ) → position (is_in_slot x) s.flights ≡ Some k → InSlot s x k
in_slot s x k is = let p = position-Some (is_in_slot x) s.flights k no_flight is in record { there = p.0; slot = equal (flight_at s.flights k).depth (x + 1) p.1 }

-- from the last stage, and from one before
abbrev out_of : Flight → List Pair → Flight
out_of f pairs = record { packet = f.packet; pass = f.pass + 1; depth = 0; pairs = pairs }

abbrev on_to : Flight → List Pair → Flight
on_to f pairs = record { packet = f.packet; pass = f.pass; depth = f.depth + 1; pairs = pairs }

-- how a packet that leaves stage x goes on
pub record GoesOut (shape : Shape) (s : Switch) (x k : ℕ) (f : Flight) : Type 0 where
  pub positions : Positions shape (length s.flights) (flight_at (set s.flights k f))
  pub leaves : Leaves (entered s) (flight_at s.flights) s.registers k x f
  pub under : f.pass ≤ f.packet.passes → (flight_at s.flights k).pass ≤ (flight_at s.flights k).packet.passes

due_is : (pass stage : ℕ) (op : PacketOp) → op.pass ≡ pass → op.place.stage ≡ stage → is_due pass stage op ≡ true
due_is pass stage op e g = both_true (is_equal op.pass pass e) (is_equal op.place.stage stage g)

-- the stage at which an operation of this pass is, seen from slot x
at_or_before : (f : Flight) (x : ℕ) (op : PacketOp) → f.depth ≡ x + 1 → op.pass ≡ f.pass → op.place.stage ≤ x → IsExecuted f op ⊎ (is_due f.pass x op ≡ true)
at_or_before f x op slot pass le = elim (cases_lt op.place.stage x) [
  | inl lt ↦ inl (inr (pass, omega arith))
  | inr ge ↦ inr (due_is f.pass x op pass (omega arith))
]

leaves_out : (shape : Shape) (first : Places) (s : Switch) (x k : ℕ) (pairs : List Pair) → Holds shape first s → InSlot s x k → x + 1 ≡ shape.stages → pairs ≡ (behind (entered s) (flight_at s.flights) s.registers k x).pairs
    → GoesOut shape s x k (out_of (flight_at s.flights k) pairs)
leaves_out shape first s x k pairs h t last same = let f = flight_at s.flights k in record {
  positions = last_slot_keeps shape (length s.flights) k x (flight_at s.flights) (flight_at (set s.flights k (out_of f pairs))) pairs t.there h.positions (flight_set s.flights k (out_of f pairs) t.there) t.slot last;
  leaves = record {
    packet = refl;
    pairs = same;
    kept = λ op done. elim done [ inl before ↦ inl (omega arith) | inr here ↦ inl (omega (arith, here.0)) ];
    due = λ op due. let d = due_at f.pass x op due in inl (omega (arith, d.0));
    only = λ i op at_i done. elim done [
      | inl before ↦ elim (cases_lt op.pass f.pass) [
        | inl lt ↦ inl (inl lt)
        | inr ge ↦ at_or_before f x op t.slot (omega arith) (omega (arith, ((h.values.fits k (omega (arith, t.there, length-map s.flights (λ (g : Flight). g.packet)))).within i op at_i).stage))
      ]
      | inr here ↦ absurd (omega (arith, here.1))
    ];
  };
  under = λ le. omega arith;
}

leaves_on : (shape : Shape) (first : Places) (s : Switch) (x k : ℕ) (pairs : List Pair) → Holds shape first s → InSlot s x k → (x + 1 ≡ shape.stages → ⊥) → is_free s.flights (x + 1) ≡ true → pairs ≡ (behind (entered s) (flight_at s.flights) s.registers k x).pairs
    → GoesOut shape s x k (on_to (flight_at s.flights k) pairs)
leaves_on shape first s x k pairs h t n free same = let f = flight_at s.flights k in record {
  positions = next_slot_keeps shape (length s.flights) k x (flight_at s.flights) (flight_at (set s.flights k (on_to f pairs))) pairs t.there h.positions (flight_set s.flights k (on_to f pairs) t.there) t.slot
      (inside n (omega (arith, t.slot, (h.positions.spot k t.there).deepest))) (λ i d. free_slot s.flights (x + 1) free i (d ∙ omega arith));
  leaves = record {
    packet = refl;
    pairs = same;
    kept = λ op done. elim done [ inl before ↦ inl before | inr here ↦ inr (here.0, omega (arith, here.1)) ];
    due = λ op due. let d = due_at f.pass x op due in inr (d.0, omega (arith, d.1, t.slot));
    only = λ i op at_i done. elim done [
      | inl before ↦ inl (inl before)
      | inr here ↦ at_or_before f x op t.slot here.0 (omega (arith, here.1, t.slot))
    ];
  };
  under = λ le. le;
}
  where
    inside : (x + 1 ≡ shape.stages → ⊥) → x + 1 ≤ shape.stages → x + 1 < shape.stages
    inside n le = elim (cases_lt (x + 1) shape.stages) [ inl lt ↦ lt | inr ge ↦ absurd (n (omega arith)) ]

stage_keeps_all : (shape : Shape) (first : Places) (s : Switch) (x k : ℕ) (f : Flight) → Holds shape first s → InSlot s x k → GoesOut shape s x k f
    → Holds shape first (record { registers = (behind (entered s) (flight_at s.flights) s.registers k x).after; flights = set s.flights k f; desks = s.desks })
stage_keeps_all shape first s x k f h t g =
    let size : length (entered s) ≡ length s.flights = length-map s.flights (λ (f : Flight). f.packet) in
    let after = (behind (entered s) (flight_at s.flights) s.registers k x).after in
    let turn : Turn shape first s.registers (entered s) (flight_at s.flights) k x = record {
      positions = subst (λ (m : ℕ). Positions shape m (flight_at s.flights)) (sym size) h.positions;
      values = h.values;
      there = omega (arith, t.there);
      slot = t.slot;
    } in
    record {
      stages = h.stages;
      positions = subst (λ (m : ℕ). Positions shape m (flight_at (set s.flights k f))) (sym (length-set s.flights k f)) g.positions;
      values = subst (λ (ps : List PlainPacket). Values shape first after ps (flight_at (set s.flights k f))) (sym (entered_set s.flights k f g.leaves.packet))
          (stage_keeps shape first s.registers (entered s) (flight_at s.flights) (flight_at (set s.flights k f)) k x f turn (flight_set s.flights k f t.there) g.leaves);
      desks = desks_keep shape s after k f h.desks t.there g.leaves.packet g.under;
    }

pub advance_keeps : (shape : Shape) (first : Places) (s : Switch) (x k : ℕ) → Holds shape first s → InSlot s x k → may_leave shape s.flights x ≡ true → Holds shape first (advanced shape s x k)
advance_keeps shape first s x k h t may = go (x + 1 == shape.stages) refl may
  where
    -- the same execution, with the packet as it stands in the flight
    same : behind (entered s) (flight_at s.flights) s.registers k x ≡ executed_at s x (flight_at s.flights k)
    same = ap (λ (p : PlainPacket). execute (is_due (flight_at s.flights k).pass x) p.ops [] (flight_at s.flights k).pairs s.registers) (sym (h.values.packet k))

    pairs_same : (executed_at s x (flight_at s.flights k)).pairs ≡ (behind (entered s) (flight_at s.flights) s.registers k x).pairs
    pairs_same = ap (λ (r : Replayed). r.pairs) (sym same)

    whole : (g : Flight) → GoesOut shape s x k g → Holds shape first (record { registers = (executed_at s x (flight_at s.flights k)).after; flights = set s.flights k g; desks = s.desks })
    whole g out = subst (λ (m : Places). Holds shape first (record { registers = m; flights = set s.flights k g; desks = s.desks })) (ap (λ (r : Replayed). r.after) same) (stage_keeps_all shape first s x k g h t out)

    go : (b : Bool) → (x + 1 == shape.stages) ≡ b → (b || is_free s.flights (x + 1)) ≡ true
        → Holds shape first (record {
          registers = (executed_at s x (flight_at s.flights k)).after;
          flights = set s.flights k (if b then out_of (flight_at s.flights k) (executed_at s x (flight_at s.flights k)).pairs else on_to (flight_at s.flights k) (executed_at s x (flight_at s.flights k)).pairs);
          desks = s.desks;
        })
    go true last may = whole _ (leaves_out shape first s x k _ h t (equal (x + 1) shape.stages last) pairs_same)
    go false last may = whole _ (leaves_on shape first s x k _ h t (λ e. clash (x + 1 == shape.stages) (is_equal (x + 1) shape.stages e) last) may pairs_same)

-- ---- all events

moves_keep : (shape : Shape) (first : Places) (s next : Switch) (event : Event) → Holds shape first s → FitsEvent shape event → Move shape s next event → Holds shape first next
moves_keep shape first s next (Post c p) h fit m = subst (λ (x : Switch). Holds shape first x) (sym m.is) (post_keeps shape first s c p h fit.0 fit.1 m.vacant m.there)
moves_keep shape first s next (Enter c) h fit m = elim m [
  | inl e ↦ subst (λ (x : Switch). Holds shape first x) (sym e.is) (first_keeps shape first s c e.p h e.desk e.may)
  | inr e ↦ subst (λ (x : Switch). Holds shape first x) (sym e.is) (later_keeps shape first s c e.k h e.desk e.waits e.free)
]
moves_keep shape first s next (Advance x) h fit m = subst (λ (y : Switch). Holds shape first y) (sym m.is) (advance_keeps shape first s x m.k h (in_slot s x m.k m.stands) m.may)
moves_keep shape first s next (Take c) h fit m = subst (λ (x : Switch). Holds shape first x) (sym m.is) (take_keeps shape first s c m.k h m.desk (below _ _ m.done))

pub step_keeps : (shape : Shape) (first : Places) (s next : Switch) (event : Event) → Holds shape first s → FitsEvent shape event → step shape s event ≡ Some next → Holds shape first next
step_keeps shape first s next event h fit e = moves_keep shape first s next event h fit (move_of shape s next event e)

pub holds : (shape : Shape) (first : Places) (s : Switch) → IsReached shape first s → Holds shape first s
holds shape first _ (Starts s start) = start_holds shape first s start
holds shape first _ (GoesOn before s event reached fit e) = step_keeps shape first before s event (holds shape first before reached) fit e
