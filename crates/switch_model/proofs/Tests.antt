-- What the tests on flights say, as facts.
use Rattle.std.proofs.Common.{◌≡◌, ℕ, zero, suc, ◌+◌, ◌<◌, ◌≤◌, ◌==◌, ◌&&◌, ◌||◌, Bool, true, false, not, nat_lt, nat_le, List, [], ◌∷◌, map, length, get_or, slice_get, Some, refl, sym, ap, ◌∙◌, arith}
use Rattle.std.specs.List.{list_any, list_all}
use Rattle.std.proofs.lemmas.Bool.Decides.{nat_tests}
use Rattle.std.proofs.lemmas.List.Folds.{list_any_at}
use Rattle.txn_model.specs.declared.place.Place.{Place}
use Rattle.stage_layout.specs.Regions.{region_of, touches}
use Rattle.stage_layout.specs.declared.shape.Shape.{Shape}
use Rattle.switch_packet.specs.declared.packet.PacketOp.{PacketOp}
use Rattle.switch_packet.specs.Packets.{PlainPacket}
use Rattle.switch_model.specs.Flight.{Flight, no_flight, flight_at, is_waiting, is_in_slot, is_free, places_of, packet_touches, is_early, holds, is_held, may_enter, is_due}

pub both : (a b : Bool) → (a && b) ≡ true → (a ≡ true) × (b ≡ true)
both true b e = (refl, e)
both false b e = cc

pub both_true : {a b : Bool} → a ≡ true → b ≡ true → (a && b) ≡ true
both_true {a} {b} p q = grind arith

pub neither : (a b : Bool) → (a || b) ≡ false → (a ≡ false) × (b ≡ false)
neither true b e = cc
neither false b e = (refl, e)

pub not_true : (b : Bool) → not b ≡ true → b ≡ false
not_true true e = cc
not_true false e = refl

pub clash : (b : Bool) → b ≡ true → b ≡ false → ⊥
clash b t f = let e : true ≡ false = sym t ∙ f in cc

pub equal : (a b : ℕ) → (a == b) ≡ true → a ≡ b
equal a b e = grind (arith, nat_tests)

pub is_equal : (a b : ℕ) → a ≡ b → (a == b) ≡ true
is_equal a b e = grind (arith, nat_tests)

pub below : (a b : ℕ) → nat_lt a b ≡ true → a < b
below a b e = grind (arith, nat_tests)

pub is_below : (a b : ℕ) → a < b → nat_lt a b ≡ true
is_below a b e = grind (arith, nat_tests)

pub at_most : (a b : ℕ) → nat_lt a b ≡ false → b ≤ a
at_most a b e = grind (arith, nat_tests)

-- where an item passes the test
pub record Found {X : Type 0} (test : X → Bool) (xs : List X) (d : X) : Type 0 where
  pub at : ℕ
  pub there : at < length xs
  pub is : test (get_or xs at d) ≡ true

pub found : {X : Type 0} (test : X → Bool) (xs : List X) (d : X) → list_any test xs ≡ true → Found test xs d
found test [] d e = cc
found test (x ∷ xs) d e = by (test x) refl e (found test xs d)
  where
    by : (b : Bool) → test x ≡ b → (b || list_any test xs) ≡ true → (list_any test xs ≡ true → Found test xs d) → Found test (x ∷ xs) d
    by true is e go = record { at = 0; there = omega arith; is = is }
    by false is e go = let more = go e in record { at = suc more.at; there = omega (arith, more.there); is = more.is }

-- no item passes the test, and neither does what stands for an item that isn't there
pub none_passes : {X : Type 0} (test : X → Bool) (xs : List X) (d : X) → list_any test xs ≡ false → test d ≡ false → (i : ℕ) → test (get_or xs i d) ≡ false
none_passes test [] d e out i = out
none_passes test (x ∷ xs) d e out zero = (neither (test x) (list_any test xs) e).0
none_passes test (x ∷ xs) d e out (suc i) = none_passes test xs d (neither (test x) (list_any test xs) e).1 out i

-- an empty slot
pub free_slot : (flights : List Flight) (x : ℕ) → is_free flights x ≡ true → (i : ℕ) → (flight_at flights i).depth ≡ x + 1 → ⊥
free_slot flights x free i e =
    clash ((flight_at flights i).depth == x + 1) (is_equal (flight_at flights i).depth (x + 1) e)
    (none_passes (is_in_slot x) flights no_flight (not_true (list_any (is_in_slot x) flights) free) (grind (arith, nat_tests)) i)

pub taken_slot : (flights : List Flight) (x i : ℕ) → i < length flights → (flight_at flights i).depth ≡ x + 1 → list_any (is_in_slot x) flights ≡ true
taken_slot flights x i lt e = list_any_at (is_in_slot x) flights i no_flight lt (is_equal (flight_at flights i).depth (x + 1) e)

pub or_right : (a b : Bool) → b ≡ true → (a || b) ≡ true
or_right true b e = refl
or_right false b e = e

pub or_left : (a b : Bool) → a ≡ true → (a || b) ≡ true
or_left true b e = refl
or_left false b e = cc

-- an operation touches its region
pub touches_own : (shape : Shape) (ops : List PacketOp) (i : ℕ) (op : PacketOp) → slice_get ops i ≡ Some op → touches shape (map (λ (o : PacketOp). o.place) ops) (region_of shape op.place.stage) ≡ true
touches_own shape [] i op e = cc
touches_own shape (o ∷ ops) zero op e =
    let same : o ≡ op = cc in
    let stage : o.place.stage ≡ op.place.stage = ap (λ (x : PacketOp). x.place.stage) same in
    or_left (region_of shape o.place.stage == region_of shape op.place.stage) _ (is_equal _ _ (ap (region_of shape) stage))
touches_own shape (o ∷ ops) (suc i) op e = or_right (region_of shape o.place.stage == region_of shape op.place.stage) _ (touches_own shape ops i op e)

-- what a packet that may enter finds
pub record MayEnter (shape : Shape) (flights : List Flight) (p : PlainPacket) : Type 0 where
  pub free : (i : ℕ) → (flight_at flights i).depth ≡ 1 → ⊥
  pub unheld : (region : ℕ) → packet_touches shape p region ≡ true → is_held shape flights region ≡ false

no_region_held : (shape : Shape) (flights : List Flight) (places : List Place) (region : ℕ)
    → list_all (λ place. not (is_held shape flights (region_of shape place.stage))) places ≡ true → touches shape places region ≡ true → is_held shape flights region ≡ false
no_region_held shape flights [] region all t = cc
no_region_held shape flights (place ∷ places) region all t = by (region_of shape place.stage == region) refl t (no_region_held shape flights places region (both _ _ all).1)
  where
    by : (b : Bool) → (region_of shape place.stage == region) ≡ b → (b || touches shape places region) ≡ true → (touches shape places region ≡ true → is_held shape flights region ≡ false) → is_held shape flights region ≡ false
    by true is t go = ap (is_held shape flights) (sym (equal (region_of shape place.stage) region is)) ∙ not_true _ (both _ _ all).0
    by false is t go = go t

pub what_may_enter : (shape : Shape) (flights : List Flight) (p : PlainPacket) → may_enter shape flights p ≡ true → MayEnter shape flights p
what_may_enter shape flights p e = record {
  free = λ i d. free_slot flights 0 (both _ _ e).0 i (d ∙ omega arith);
  unheld = λ region t. no_region_held shape flights (places_of p) region (both _ _ e).1 t;
}

-- a packet that doesn't hold a region which it touches has entered for its last pass
pub record HasPassed (f : Flight) : Type 0 where
  pub last : f.packet.passes ≤ f.pass
  pub in_slot : f.pass ≡ f.packet.passes → 1 ≤ f.depth

pub not_early : (f : Flight) → is_early f ≡ false → HasPassed f
not_early f e = record {
  last = at_most f.pass f.packet.passes (neither _ _ e).0;
  in_slot = λ same. deep f.depth (λ none. clash _ (both_true (is_equal f.pass f.packet.passes same) (is_equal f.depth 0 none)) (neither _ _ e).1);
}
  where
    deep : (d : ℕ) → (d ≡ 0 → ⊥) → 1 ≤ d
    deep zero n = absurd (n refl)
    deep (suc d) n = omega arith

pub has_passed : (f : Flight) → HasPassed f → is_early f ≡ false
has_passed f h = grind (arith, nat_tests, h.last, h.in_slot)

pub none_holds : (shape : Shape) (flights : List Flight) (region : ℕ) → is_held shape flights region ≡ false → (i : ℕ) → packet_touches shape (flight_at flights i).packet region ≡ true → HasPassed (flight_at flights i)
none_holds shape flights region e i t = not_early (flight_at flights i) (first_false _ _ (none_passes (holds shape region) flights no_flight e refl i) t)
  where
    first_false : (a b : Bool) → (a && b) ≡ false → b ≡ true → a ≡ false
    first_false true true e t = e
    first_false true false e t = cc
    first_false false b e t = refl

pub when_waiting : (f : Flight) → is_waiting f ≡ true → (f.depth ≡ 0) × ((2 ≤ f.pass) × (f.pass ≤ f.packet.passes))
when_waiting f e = (equal f.depth 0 (both _ _ e).0, (at_least 2 f.pass (both _ _ (both _ _ e).1).0, at_least f.pass f.packet.passes (both _ _ (both _ _ e).1).1))
  where
    at_least : (a b : ℕ) → nat_le a b ≡ true → a ≤ b
    at_least a b e = grind (arith, nat_tests)

pub due_at : (pass stage : ℕ) (op : PacketOp) → is_due pass stage op ≡ true → (op.pass ≡ pass) × (op.place.stage ≡ stage)
due_at pass stage op e = (equal op.pass pass (both _ _ e).0, equal op.place.stage stage (both _ _ e).1)
