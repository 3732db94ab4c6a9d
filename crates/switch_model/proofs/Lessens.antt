-- Each entry and each stage lessens by one what one client's packet still has before it.
use Rattle.std.proofs.Common.{◌≡◌, ℕ, zero, suc, ◌+◌, ◌-◌, ◌*◌, ◌<◌, ◌≤◌, ◌==◌, Bool, true, false, List, [], ◌∷◌, ◌++◌, set, length, get_or, inl, inr, refl, sym, ap, ◌∙◌, subst, arith, if◌then◌else◌}
use Rattle.std.proofs.Math.Nat.{suc-mul}
use Rattle.std.proofs.lemmas.Bool.{cases_eq, cases_lt}
use Rattle.std.proofs.lemmas.List.{get_or-set_same, get_or-set_other}
use Rattle.txn_model.specs.Places.{Places}
use Rattle.txn_model.specs.declared.pairs.Pair.{Pair}
use Rattle.stage_layout.specs.declared.shape.Shape.{Shape}
use Rattle.switch_packet.specs.Packets.{PlainPacket}
use Rattle.switch_model.specs.Event.{Event, Post, Enter, Advance, Take, with_desk, with_flight, first_entry, in_first_slot, moved_on, executed_at, advanced}
use Rattle.switch_model.specs.Flight.{Flight, fresh_flight, flight_at}
use Rattle.switch_model.specs.Laws.{left_of_flight, left_on, left, LessensOne, LessensBy, PacketsComeThrough}
use Rattle.switch_model.specs.Switch.{Switch, Desk, Vacant, Posted, Entered, desk_at}
use Rattle.switch_model.proofs.Facts.{Holds}
use Rattle.switch_model.proofs.Kept as kept
use Rattle.switch_model.proofs.Kept.{InSlot, in_slot, flight_set, flight_push, posted_there, entered_there}
use Rattle.switch_model.proofs.Moves.{Move, move_of}
use Rattle.switch_model.proofs.Tests.{below, equal, when_waiting}

-- ---- numbers

-- a first entry
enters : (q w : ℕ) → 1 ≤ q → ((q + 1 - 1) * (w + 1) - 1) + 1 ≡ q * (w + 1)
enters zero w one = absurd (omega arith)
enters (suc q) w one =
    let same : suc q + 1 - 1 ≡ suc q = omega arith in
    let product = suc-mul q (w + 1) in
    ap (λ (a : ℕ). (a * (w + 1) - 1) + 1) same ∙ omega (arith, product)

-- passes are left
at_least : (a w : ℕ) → 1 ≤ a → w + 1 ≤ a * (w + 1)
at_least zero w one = absurd (omega arith)
at_least (suc a) w one = omega (arith, suc-mul a (w + 1))

enters_again : (q p w : ℕ) → p ≤ q → ((q + 1 - p) * (w + 1) - 1) + 1 ≡ (q + 1 - p) * (w + 1) - 0
enters_again q p w le = omega (arith, at_least (q + 1 - p) w (omega arith))

goes_on : (q p w d : ℕ) → p ≤ q → d ≤ w → ((q + 1 - p) * (w + 1) - (d + 1)) + 1 ≡ (q + 1 - p) * (w + 1) - d
goes_on q p w d le small = omega (arith, at_least (q + 1 - p) w (omega arith))

goes_out : (q p w : ℕ) → p ≤ q → ((q + 1 - (p + 1)) * (w + 1) - 0) + 1 ≡ (q + 1 - p) * (w + 1) - w
goes_out q p w le =
    let one : q + 1 - p ≡ suc (q + 1 - (p + 1)) = omega arith in
    omega (arith, suc-mul (q + 1 - (p + 1)) (w + 1), ap (λ (a : ℕ). a * (w + 1)) one)

nothing_left : (q p w d : ℕ) → p ≡ q + 1 → (q + 1 - p) * (w + 1) - d ≡ 0
nothing_left q p w d e = let none : q + 1 - p ≡ 0 = omega arith in ap (λ (a : ℕ). a * (w + 1) - d) none ∙ omega arith

-- ---- what a client has left

-- it depends on its desk and on the flight that this names
same_left : (shape : Shape) (before after : List Flight) (desk : Desk) → ((k : ℕ) → desk ≡ Entered k → flight_at after k ≡ flight_at before k) → left_on shape after desk ≡ left_on shape before desk
same_left shape before after Vacant same = refl
same_left shape before after (Posted p) same = refl
same_left shape before after (Entered k) same = ap (left_of_flight shape) (same k refl)

-- where another client's desk is changed, and a flight that isn't its own
others_left : (shape : Shape) (s : Switch) (registers : Places) (flights : List Flight) (desks : List Desk) (d : ℕ) → get_or desks d Vacant ≡ desk_at s d
    → ((k : ℕ) → desk_at s d ≡ Entered k → flight_at flights k ≡ flight_at s.flights k) → left shape (record { registers = registers; flights = flights; desks = desks }) d ≡ left shape s d
others_left shape s registers flights desks d desk same = ap (left_on shape flights) desk ∙ same_left shape s.flights flights (desk_at s d) same

-- a desk names only flights of its client
own_flight : (shape : Shape) (first : Places) (s : Switch) (c d k : ℕ) → Holds shape first s → (flight_at s.flights k).packet.client ≡ c → (d ≡ c → ⊥) → (j : ℕ) → desk_at s d ≡ Entered j → j ≡ k → ⊥
own_flight shape first s c d k h own n j desk same = n (sym (h.desks.entered d j desk).1 ∙ ap (λ (i : ℕ). (flight_at s.flights i).packet.client) same ∙ own)

posted_left : (shape : Shape) (first : Places) (s : Switch) (c : ℕ) (p : PlainPacket) → Holds shape first s → desk_at s c ≡ Vacant → c < length s.desks → LessensBy shape s (with_desk s c (Posted p)) (Post c p)
posted_left shape first s c p h vacant there = (
  ap (left_on shape s.flights) vacant,
  ap (left_on shape s.flights) (get_or-set_same s.desks c (Posted p) Vacant there),
  λ d n. others_left shape s s.registers s.flights (set s.desks c (Posted p)) d (get_or-set_other s.desks c d (Posted p) Vacant n) (λ k desk. refl),
)

first_left : (shape : Shape) (first : Places) (s : Switch) (c : ℕ) (p : PlainPacket) → Holds shape first s → desk_at s c ≡ Posted p → LessensBy shape s (first_entry s c p) (Enter c)
first_left shape first s c p h desk =
    let n = length s.flights in
    let b = flight_push s.flights (fresh_flight p) in
    let after = s.flights ++ fresh_flight p ∷ [] in
    let there = posted_there s.desks c p desk in (
      ap (λ (m : ℕ). m + 1) (ap (left_on shape after) (get_or-set_same s.desks c (Entered n) Vacant there) ∙ ap (left_of_flight shape) b.this)
          ∙ enters p.passes shape.stages (h.desks.posted c p desk).0.passes
          ∙ ap (left_on shape s.flights) (sym desk),
      λ d m. others_left shape s s.registers after (set s.desks c (Entered n)) d (get_or-set_other s.desks c d (Entered n) Vacant m) (λ k is. b.others k (λ e. omega (arith, (h.desks.entered d k is).0))),
    )

later_left : (shape : Shape) (first : Places) (s : Switch) (c k : ℕ) → Holds shape first s → desk_at s c ≡ Entered k → (flight_at s.flights k).depth ≡ 0 → (flight_at s.flights k).pass ≤ (flight_at s.flights k).packet.passes
    → LessensBy shape s (with_flight s k (in_first_slot (flight_at s.flights k))) (Enter c)
later_left shape first s c k h desk out to =
    let f = flight_at s.flights k in
    let own = h.desks.entered c k desk in
    let b = flight_set s.flights k (in_first_slot f) own.0 in
    let after = set s.flights k (in_first_slot f) in (
      ap (λ (m : ℕ). m + 1) (ap (left_on shape after) desk ∙ ap (left_of_flight shape) b.this)
          ∙ enters_again f.packet.passes f.pass shape.stages to
          ∙ ap (λ (m : ℕ). (f.packet.passes + 1 - f.pass) * (shape.stages + 1) - m) (sym out)
          ∙ ap (left_on shape s.flights) (sym desk),
      λ d m. others_left shape s s.registers after s.desks d refl (λ j is. b.others j (own_flight shape first s c d k h own.1 m j is)),
    )

-- ---- a stage

stage_lessens : (shape : Shape) (x : ℕ) (f : Flight) (pairs : List Pair) → f.depth ≡ x + 1 → f.depth ≤ shape.stages → f.pass ≤ f.packet.passes → (b : Bool) → (x + 1 == shape.stages) ≡ b
    → left_of_flight shape (if b then (let out : Flight = record { packet = f.packet; pass = f.pass + 1; depth = 0; pairs = pairs } in out) else (let on : Flight = record { packet = f.packet; pass = f.pass; depth = f.depth + 1; pairs = pairs } in on)) + 1 ≡ left_of_flight shape f
stage_lessens shape x f pairs slot deepest to true last =
    let same : shape.stages ≡ f.depth = omega (arith, equal (x + 1) shape.stages last) in
    goes_out f.packet.passes f.pass shape.stages to ∙ ap (λ (m : ℕ). (f.packet.passes + 1 - f.pass) * (shape.stages + 1) - m) same
stage_lessens shape x f pairs slot deepest to false last = goes_on f.packet.passes f.pass shape.stages f.depth to deepest

stage_left : (shape : Shape) (first : Places) (s : Switch) (x k : ℕ) → Holds shape first s → InSlot s x k → LessensOne shape s (advanced shape s x k)
stage_left shape first s x k h t =
    let f = flight_at s.flights k in
    let done = executed_at s x f in
    let spot = h.positions.spot k t.there in
    let b = flight_set s.flights k (moved_on shape x f done) t.there in
    let after = set s.flights k (moved_on shape x f done) in
    let to : f.pass ≤ f.packet.passes = elim (cases_lt f.packet.passes f.pass) [ inl over ↦ absurd (let none = spot.done over in omega (arith, t.slot)) | inr le ↦ le ] in
    let desk = h.desks.under_way k t.there to in
    record {
      client = f.packet.client;
      there = entered_there s.desks f.packet.client k desk;
      less =
          ap (λ (m : ℕ). m + 1) (ap (left_on shape after) desk ∙ ap (left_of_flight shape) b.this)
          ∙ stage_lessens shape x f done.pairs t.slot spot.deepest to (x + 1 == shape.stages) refl
          ∙ ap (left_on shape s.flights) (sym desk);
      others = λ d n. others_left shape s done.after after s.desks d refl (λ j is. b.others j (own_flight shape first s f.packet.client d k h refl n j is));
    }

taken_left : (shape : Shape) (first : Places) (s : Switch) (c k : ℕ) → Holds shape first s → desk_at s c ≡ Entered k → (flight_at s.flights k).packet.passes < (flight_at s.flights k).pass → LessensBy shape s (with_desk s c Vacant) (Take c)
taken_left shape first s c k h desk done d = elim (cases_eq d c) [
  | inl e ↦
      let f = flight_at s.flights k in
      let spot = h.positions.spot k (h.desks.entered c k desk).0 in
      ap (λ (i : ℕ). left shape (with_desk s c Vacant) i) e
      ∙ ap (left_on shape s.flights) (get_or-set_same s.desks c Vacant Vacant (entered_there s.desks c k desk))
      ∙ sym (nothing_left f.packet.passes f.pass shape.stages f.depth (omega (arith, spot.to_done)))
      ∙ ap (left_on shape s.flights) (sym desk)
      ∙ ap (left shape s) (sym e)
  | inr n ↦ others_left shape s s.registers s.flights (set s.desks c Vacant) d (get_or-set_other s.desks c d Vacant Vacant n) (λ j is. refl)
]

-- ---- all events

moves_lessen : (shape : Shape) (first : Places) (s next : Switch) (event : Event) → Holds shape first s → Move shape s next event → LessensBy shape s next event
moves_lessen shape first s next (Post c p) h m = subst (λ (y : Switch). LessensBy shape s y (Post c p)) (sym m.is) (posted_left shape first s c p h m.vacant m.there)
moves_lessen shape first s next (Enter c) h m = elim m [
  | inl e ↦ subst (λ (y : Switch). LessensBy shape s y (Enter c)) (sym e.is) (first_left shape first s c e.p h e.desk)
  | inr e ↦
      let w = when_waiting (flight_at s.flights e.k) e.waits in
      subst (λ (y : Switch). LessensBy shape s y (Enter c)) (sym e.is) (later_left shape first s c e.k h e.desk w.0 w.1.1)
]
moves_lessen shape first s next (Advance x) h m = subst (λ (y : Switch). LessensBy shape s y (Advance x)) (sym m.is) (stage_left shape first s x m.k h (in_slot s x m.k m.stands))
moves_lessen shape first s next (Take c) h m = subst (λ (y : Switch). LessensBy shape s y (Take c)) (sym m.is) (taken_left shape first s c m.k h m.desk (below _ _ m.done))

pub lessens : PacketsComeThrough
lessens shape first s next event reached fit e = moves_lessen shape first s next event (kept.holds shape first s reached) (move_of shape s next event e)
