-- Regions are taken at first entries and given back at entries for a last pass.
use Rattle.std.proofs.Common.{◌≡◌, ℕ, zero, suc, ◌+◌, ◌<◌, ◌≤◌, ◌==◌, ◌&&◌, ◌||◌, Bool, true, false, not, nat_lt, nat_le, List, [], ◌∷◌, ◌++◌, set, length, get_or, inl, inr, refl, sym, ap, ◌∙◌, arith, if◌then◌else◌}
use Rattle.std.specs.List.{list_any}
use Rattle.std.proofs.lemmas.Bool.{cases_order, false_from_ne_true}
use Rattle.std.proofs.lemmas.Bool.Decides.{nat_tests}
use Rattle.std.proofs.lemmas.List.{length-set}
use Rattle.std.proofs.lemmas.List.Folds.{list_any-append}
use Rattle.txn_model.specs.Places.{Places}
use Rattle.txn_model.specs.declared.pairs.Pair.{Pair}
use Rattle.stage_layout.specs.declared.shape.Shape.{Shape}
use Rattle.switch_packet.specs.Packets.{PlainPacket}
use Rattle.switch_model.specs.Event.{Event, Post, Enter, Advance, Take, in_first_slot, moved_on, executed_at, advanced}
use Rattle.switch_model.specs.Flight.{Flight, no_flight, fresh_flight, flight_at, is_early, holds, is_held, packet_touches}
use Rattle.switch_model.specs.Laws.{held_behind_entry, held_behind, RegionsAreHeldInTurn}
use Rattle.switch_model.specs.Switch.{Switch}
use Rattle.switch_model.proofs.Facts.{Positions, Holds}
use Rattle.switch_model.proofs.Kept as kept
use Rattle.switch_model.proofs.Kept.{InSlot, in_slot, flight_set}
use Rattle.switch_model.proofs.Moves.{Move, move_of}
use Rattle.switch_model.proofs.Positions.{each_becomes}
use Rattle.switch_model.proofs.Tests.{both, clash, equal, found, when_waiting}

-- a flight that holds as much as the one before it
any_set : {X : Type 0} (test : X → Bool) (xs : List X) (k : ℕ) (y d : X) → test y ≡ test (get_or xs k d) → list_any test (set xs k y) ≡ list_any test xs
any_set test [] k y d same = refl
any_set test (x ∷ xs) zero y d same = ap (λ (b : Bool). b || list_any test xs) same
any_set test (x ∷ xs) (suc k) y d same = ap (λ (b : Bool). test x || b) (any_set test xs k y d same)

pub none_any : {X : Type 0} (test : X → Bool) (xs : List X) (d : X) → ((i : ℕ) → i < length xs → test (get_or xs i d) ≡ false) → list_any test xs ≡ false
none_any test xs d none = false_from_ne_true (list_any test xs) (λ e. let f = found test xs d e in clash _ f.is (none f.at f.there))

-- ---- a first entry

or_none : (a b : Bool) → (a || (b || false)) ≡ (a || b)
or_none a true = refl
or_none a false = refl

early_fresh : (p : PlainPacket) → is_early (fresh_flight p) ≡ nat_le 2 p.passes
early_fresh p = grind (arith, nat_tests)

first_held : (shape : Shape) (flights : List Flight) (p : PlainPacket) (region : ℕ) → is_held shape (flights ++ fresh_flight p ∷ []) region ≡ (is_held shape flights region || (nat_le 2 p.passes && packet_touches shape p region))
first_held shape flights p region =
    list_any-append (holds shape region) flights (fresh_flight p ∷ [])
    ∙ or_none (is_held shape flights region) (holds shape region (fresh_flight p))
    ∙ ap (λ (b : Bool). is_held shape flights region || (b && packet_touches shape p region)) (early_fresh p)

-- ---- a later entry

-- what it means to be early
pub record IsEarly (f : Flight) : Type 0 where
  pub pass : f.pass ≤ f.packet.passes
  pub out : f.pass ≡ f.packet.passes → f.depth ≡ 0

pub when_early : (f : Flight) → is_early f ≡ true → IsEarly f
when_early f e = by (nat_lt f.pass f.packet.passes) refl e
  where
    by : (b : Bool) → nat_lt f.pass f.packet.passes ≡ b → (b || (f.pass == f.packet.passes && f.depth == 0)) ≡ true → IsEarly f
    by true lt e = let less : f.pass < f.packet.passes = grind (arith, nat_tests) in record { pass = omega arith; out = λ same. absurd (omega arith) }
    by false lt e = let p = both _ _ e in let same = equal f.pass f.packet.passes p.0 in record { pass = omega arith; out = λ _. equal f.depth 0 p.1 }

-- of two early flights at most one touches a region
one_holder : (shape : Shape) (n : ℕ) (at : ℕ → Flight) (region i j : ℕ) → Positions shape n at → i < j → j < n → is_early (at i) ≡ true → packet_touches shape (at i).packet region ≡ true → packet_touches shape (at j).packet region ≡ true → ⊥
one_holder shape n at region i j held lt below early one two =
    let e = when_early (at i) early in
    elim (held.order i j region lt below (record { first = one; second = two })) [
      | inl done ↦ omega (arith, e.pass)
      | inr l ↦ let out = e.out l.last in omega (arith, l.deeper)
    ]

and_true : (a : Bool) → a ≡ (a && true)
and_true true = refl
and_true false = refl

and_false : (a : Bool) → (a && false) ≡ false
and_false true = refl
and_false false = refl

lower_is_early : (f : Flight) (depth : ℕ) → f.depth ≡ 0 → f.pass ≤ f.packet.passes → (f.pass == f.packet.passes) ≡ false → is_early (record { packet = f.packet; pass = f.pass; depth = depth; pairs = f.pairs }) ≡ is_early f
lower_is_early f depth out to last = grind (arith, nat_tests)

early_at_port : (f : Flight) → f.depth ≡ 0 → f.pass ≤ f.packet.passes → is_early f ≡ true
early_at_port f out to = grind (arith, nat_tests)

passed_in_slot : (f : Flight) → (f.pass == f.packet.passes) ≡ true → is_early (in_first_slot f) ≡ false
passed_in_slot f last = grind (arith, nat_tests)

no_other_holder : (shape : Shape) (flights : List Flight) (k region : ℕ) → Positions shape (length flights) (flight_at flights) → k < length flights → is_early (flight_at flights k) ≡ true → packet_touches shape (flight_at flights k).packet region ≡ true
    → (i : ℕ) → i < length flights → (i ≡ k → ⊥) → holds shape region (flight_at flights i) ≡ true → ⊥
no_other_holder shape flights k region held there early touch i lt n h = elim (cases_order i k) [
  | inl e ↦ n e
  | inr o ↦ elim o [
    | inl below ↦ one_holder shape (length flights) (flight_at flights) region i k held below there (both _ _ h).0 (both _ _ h).1 touch
    | inr above ↦ one_holder shape (length flights) (flight_at flights) region k i held above lt early touch (both _ _ h).1
  ]
]

given_back : (shape : Shape) (flights : List Flight) (k region : ℕ) → Positions shape (length flights) (flight_at flights) → k < length flights → (flight_at flights k).pass ≤ (flight_at flights k).packet.passes → (flight_at flights k).depth ≡ 0
    → ((flight_at flights k).pass == (flight_at flights k).packet.passes) ≡ true → packet_touches shape (flight_at flights k).packet region ≡ true → is_held shape (set flights k (in_first_slot (flight_at flights k))) region ≡ false
given_back shape flights k region held there to out last touch =
    let f = in_first_slot (flight_at flights k) in
    none_any (holds shape region) (set flights k f) no_flight (λ i lt. each_becomes (λ i g. i < length flights → holds shape region g ≡ false) k f (flight_at flights) (flight_at (set flights k f)) (flight_set flights k f there)
    (λ _. ap (λ (b : Bool). b && packet_touches shape f.packet region) (passed_in_slot (flight_at flights k) last))
    i (λ n below. false_from_ne_true (holds shape region (flight_at flights i)) (no_other_holder shape flights k region held there (early_at_port (flight_at flights k) out to) touch i below n))
    (omega (arith, lt, length-set flights k f)))

later_held : (shape : Shape) (flights : List Flight) (k region : ℕ) → Positions shape (length flights) (flight_at flights) → k < length flights → (flight_at flights k).pass ≤ (flight_at flights k).packet.passes → (flight_at flights k).depth ≡ 0
    → is_held shape (set flights k (in_first_slot (flight_at flights k))) region ≡ (is_held shape flights region && not ((flight_at flights k).pass == (flight_at flights k).packet.passes && packet_touches shape (flight_at flights k).packet region))
later_held shape flights k region held there to out = by ((flight_at flights k).pass == (flight_at flights k).packet.passes) refl (packet_touches shape (flight_at flights k).packet region) refl
  where
    by : (b : Bool) → ((flight_at flights k).pass == (flight_at flights k).packet.passes) ≡ b → (t : Bool) → packet_touches shape (flight_at flights k).packet region ≡ t
        → is_held shape (set flights k (in_first_slot (flight_at flights k))) region ≡ (is_held shape flights region && not (b && t))
    by true last true touch = given_back shape flights k region held there to out last touch ∙ sym (and_false (is_held shape flights region))
    by true last false touch =
        any_set (holds shape region) flights k (in_first_slot (flight_at flights k)) no_flight
        (ap (λ (t : Bool). is_early (in_first_slot (flight_at flights k)) && t) touch ∙ and_false _ ∙ sym (ap (λ (t : Bool). is_early (flight_at flights k) && t) touch ∙ and_false _))
        ∙ and_true (is_held shape flights region)
    by false last t touch =
        any_set (holds shape region) flights k (in_first_slot (flight_at flights k)) no_flight
        (ap (λ (b : Bool). b && packet_touches shape (flight_at flights k).packet region) (lower_is_early (flight_at flights k) 1 out to last))
        ∙ and_true (is_held shape flights region)

-- ---- a stage

early_out : (f : Flight) (pairs : List Pair) → 1 ≤ f.depth → is_early (record { packet = f.packet; pass = f.pass + 1; depth = 0; pairs = pairs }) ≡ is_early f
early_out f pairs deep = grind (arith, nat_tests)

early_on : (f : Flight) (pairs : List Pair) → 1 ≤ f.depth → is_early (record { packet = f.packet; pass = f.pass; depth = f.depth + 1; pairs = pairs }) ≡ is_early f
early_on f pairs deep = grind (arith, nat_tests)

stage_held : (shape : Shape) (s : Switch) (x k region : ℕ) → InSlot s x k → is_held shape (advanced shape s x k).flights region ≡ is_held shape s.flights region
stage_held shape s x k region t =
    any_set (holds shape region) s.flights k (moved_on shape x (flight_at s.flights k) (executed_at s x (flight_at s.flights k))) no_flight
    (go (x + 1 == shape.stages) (flight_at s.flights k) (executed_at s x (flight_at s.flights k)).pairs (omega (arith, t.slot)))
  where
    go : (b : Bool) (f : Flight) (pairs : List Pair) → 1 ≤ f.depth
        → holds shape region (if b then (let out : Flight = record { packet = f.packet; pass = f.pass + 1; depth = 0; pairs = pairs } in out) else (let on : Flight = record { packet = f.packet; pass = f.pass; depth = f.depth + 1; pairs = pairs } in on)) ≡ holds shape region f
    go true f pairs deep = ap (λ (b : Bool). b && packet_touches shape f.packet region) (early_out f pairs deep)
    go false f pairs deep = ap (λ (b : Bool). b && packet_touches shape f.packet region) (early_on f pairs deep)

-- ---- all events

moves_hold : (shape : Shape) (first : Places) (s next : Switch) (event : Event) (region : ℕ) → Holds shape first s → Move shape s next event → is_held shape next.flights region ≡ held_behind shape s region event
moves_hold shape first s next (Post c p) region h m = ap (λ (y : Switch). is_held shape y.flights region) m.is
moves_hold shape first s next (Enter c) region h m = elim m [
  | inl e ↦
      ap (λ (y : Switch). is_held shape y.flights region) e.is
      ∙ first_held shape s.flights e.p region
      ∙ ap (held_behind_entry shape s region) (sym e.desk)
  | inr e ↦
      let w = when_waiting (flight_at s.flights e.k) e.waits in
      ap (λ (y : Switch). is_held shape y.flights region) e.is
      ∙ later_held shape s.flights e.k region h.positions (h.desks.entered c e.k e.desk).0 w.1.1 w.0
      ∙ ap (held_behind_entry shape s region) (sym e.desk)
]
moves_hold shape first s next (Advance x) region h m = ap (λ (y : Switch). is_held shape y.flights region) m.is ∙ stage_held shape s x m.k region (in_slot s x m.k m.stands)
moves_hold shape first s next (Take c) region h m = ap (λ (y : Switch). is_held shape y.flights region) m.is

pub held_in_turn : RegionsAreHeldInTurn
held_in_turn shape first s next event region reached fit e = moves_hold shape first s next event region (kept.holds shape first s reached) (move_of shape s next event e)
