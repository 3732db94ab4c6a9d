-- While a client has something under way, something can go on.
use Rattle.std.proofs.Common.{◌≡◌, ◌≢◌, ℕ, zero, suc, ◌+◌, ◌-◌, ◌<◌, ◌≤◌, ◌==◌, ◌&&◌, ◌||◌, Bool, true, false, not, cond, List, [], ◌∷◌, length, Option, Some, None, inl, inr, refl, sym, ap, subst, arith, if◌then◌else◌}
use Rattle.std.specs.Prelude.{IsSome}
use Rattle.std.specs.List.{list_any, list_all, position, position_or_len}
use Rattle.std.proofs.lemmas.Bool.{cases_lt}
use Rattle.std.proofs.lemmas.Bool.Decides.{nat_tests}
use Rattle.txn_model.specs.Places.{Places}
use Rattle.txn_model.specs.declared.place.Place.{Place}
use Rattle.stage_layout.specs.Regions.{region_of}
use Rattle.stage_layout.specs.declared.shape.Shape.{Shape}
use Rattle.switch_packet.specs.Packets.{PlainPacket}
use Rattle.switch_model.specs.Event.{advanced, may_leave, advanced_from, advance, entered_from, enter, first_entry, in_first_slot, with_flight, with_desk, taken, take_answer}
use Rattle.switch_model.specs.Flight.{Flight, no_flight, flight_at, is_done, is_waiting, is_in_slot, is_free, is_early, holds, is_held, may_enter, places_of}
use Rattle.switch_model.specs.Laws.{CanGoOn, AtStage, AtPort, AtDesk, NoPacketIsStuck}
use Rattle.switch_model.specs.Switch.{Switch, Desk, Vacant, Posted, Entered, desk_at}
use Rattle.switch_model.proofs.Facts.{Holds}
use Rattle.switch_model.proofs.HeldInTurn.{when_early, none_any}
use Rattle.switch_model.proofs.Kept as kept
use Rattle.switch_model.proofs.Kept.{posted_there, entered_there}
use Rattle.switch_model.proofs.Tests.{both_true, or_left, or_right, equal, is_equal, is_below, found, none_passes, taken_slot}

-- ---- the flight in a taken slot is found

first_below : {X : Type 0} (test : X → Bool) (xs : List X) → list_any test xs ≡ true → position_or_len test xs < length xs
first_below test [] e = cc
first_below test (x ∷ xs) e = by (test x) e (first_below test xs)
  where
    by : (b : Bool) → (b || list_any test xs) ≡ true → (list_any test xs ≡ true → position_or_len test xs < length xs) → cond (not b) (1 + position_or_len test xs) 0 < suc (length xs)
    by true e go = omega arith
    by false e go = omega (arith, go e)

position_there : {X : Type 0} (test : X → Bool) (xs : List X) → list_any test xs ≡ true → (k : ℕ) × (position test xs ≡ Some k)
position_there test xs e = (position_or_len test xs, ap (λ (b : Bool). cond b (Some (position_or_len test xs)) None) (is_below _ _ (first_below test xs e)))

if_some : {X : Type 0} (b : Bool) (x : X) → b ≡ true → IsSome (if b then Some x else None)
if_some true x e = refl
if_some false x e = cc

can_leave : (shape : Shape) (s : Switch) (x : ℕ) → list_any (is_in_slot x) s.flights ≡ true → may_leave shape s.flights x ≡ true → IsSome (advance shape s x)
unfolding advance
can_leave shape s x taken may =
    let k = position_there (is_in_slot x) s.flights taken in
    subst (λ (o : Option ℕ). IsSome (advanced_from shape s x o)) (sym k.1) (if_some (may_leave shape s.flights x) (advanced shape s x k.0) may)

-- ---- where a packet stands in a slot, a stage can go on

stage_goes : (shape : Shape) (s : Switch) (d x : ℕ) → x + d + 1 ≡ shape.stages → list_any (is_in_slot x) s.flights ≡ true → CanGoOn shape s
stage_goes shape s zero x last taken = AtStage x (omega arith) (can_leave shape s x taken (or_left (x + 1 == shape.stages) _ (is_equal _ _ (omega arith))))
stage_goes shape s (suc d) x last taken = by (list_any (is_in_slot (x + 1)) s.flights) refl (stage_goes shape s d (x + 1) (omega arith))
  where
    by : (b : Bool) → list_any (is_in_slot (x + 1)) s.flights ≡ b → (list_any (is_in_slot (x + 1)) s.flights ≡ true → CanGoOn shape s) → CanGoOn shape s
    by true next go = go next
    by false next go = AtStage x (omega arith) (can_leave shape s x taken (or_right (x + 1 == shape.stages) _ (ap not next)))

slot_goes : (shape : Shape) (s : Switch) (i : ℕ) → i < length s.flights → 1 ≤ (flight_at s.flights i).depth → (flight_at s.flights i).depth ≤ shape.stages → CanGoOn shape s
slot_goes shape s i lt deep le =
    stage_goes shape s (shape.stages - (flight_at s.flights i).depth) ((flight_at s.flights i).depth - 1) (omega arith) (taken_slot s.flights ((flight_at s.flights i).depth - 1) i lt (omega arith))

-- ---- where slot 0 is free, a packet that isn't done stands in a slot or can enter

waits : (f : Flight) → f.depth ≡ 0 → 1 ≤ f.pass → (f.pass ≡ 1 → 1 ≤ f.depth) → f.pass ≤ f.packet.passes → is_waiting f ≡ true
waits f out one first to = grind (arith, nat_tests)

can_enter_again : (shape : Shape) (s : Switch) (c k : ℕ) → desk_at s c ≡ Entered k → is_waiting (flight_at s.flights k) ≡ true → is_free s.flights 0 ≡ true → IsSome (enter shape s c)
unfolding enter
can_enter_again shape s c k desk wait free =
    subst (λ (d : Desk). IsSome (entered_from shape s c d)) (sym desk) (if_some (is_waiting (flight_at s.flights k) && is_free s.flights 0) (with_flight s k (in_first_slot (flight_at s.flights k))) (both_true wait free))

can_enter_first : (shape : Shape) (s : Switch) (c : ℕ) (p : PlainPacket) → desk_at s c ≡ Posted p → may_enter shape s.flights p ≡ true → IsSome (enter shape s c)
unfolding enter
can_enter_first shape s c p desk may = subst (λ (d : Desk). IsSome (entered_from shape s c d)) (sym desk) (if_some (may_enter shape s.flights p) (first_entry s c p) may)

can_take : (s : Switch) (c k : ℕ) → desk_at s c ≡ Entered k → is_done (flight_at s.flights k) ≡ true → IsSome (take_answer s c)
unfolding take_answer
can_take s c k desk done = subst (λ (d : Desk). IsSome (taken s c d)) (sym desk) (if_some (is_done (flight_at s.flights k)) (with_desk s c Vacant) done)

flight_goes : (shape : Shape) (first : Places) (s : Switch) (i : ℕ) → Holds shape first s → i < length s.flights → (flight_at s.flights i).pass ≤ (flight_at s.flights i).packet.passes → is_free s.flights 0 ≡ true → CanGoOn shape s
flight_goes shape first s i h lt le free =
    let spot = h.positions.spot i lt in
    let desk = h.desks.under_way i lt le in
    elim (cases_lt 0 (flight_at s.flights i).depth) [
      | inl deep ↦ slot_goes shape s i lt (omega arith) spot.deepest
      | inr out ↦
          let c = (flight_at s.flights i).packet.client in
          AtPort c (entered_there s.desks c i desk) (can_enter_again shape s c i desk (waits (flight_at s.flights i) (omega arith) spot.from_one spot.first le) free)
    ]

-- ---- a packet that waits for its first pass can enter where no packet is early

all_pass : {X : Type 0} (test : X → Bool) (xs : List X) → ((x : X) → test x ≡ true) → list_all test xs ≡ true
all_pass test [] each = refl
all_pass test (x ∷ xs) each = both_true (each x) (all_pass test xs each)

none_held : (shape : Shape) (flights : List Flight) (region : ℕ) → list_any is_early flights ≡ false → is_held shape flights region ≡ false
none_held shape flights region none = none_any (holds shape region) flights no_flight (λ i lt. late (is_early (flight_at flights i)) _ (none_passes is_early flights no_flight none refl i))
  where
    late : (a b : Bool) → a ≡ false → (a && b) ≡ false
    late true b e = cc
    late false b e = refl

desk_goes : (shape : Shape) (first : Places) (s : Switch) (c : ℕ) (desk : Desk) → Holds shape first s → desk_at s c ≡ desk → desk ≢ Vacant → is_free s.flights 0 ≡ true → CanGoOn shape s
desk_goes shape first s c Vacant h at n free = absurd (n refl)
desk_goes shape first s c (Posted p) h at n free = by (list_any is_early s.flights) refl
  where
    by : (b : Bool) → list_any is_early s.flights ≡ b → CanGoOn shape s
    by true some = let f = found is_early s.flights no_flight some in flight_goes shape first s f.at h f.there (when_early (flight_at s.flights f.at) f.is).pass free
    by false none =
        AtPort c (posted_there s.desks c p at) (can_enter_first shape s c p at (both_true free
        (all_pass (λ (place : Place). not (is_held shape s.flights (region_of shape place.stage))) (places_of p) (λ place. ap not (none_held shape s.flights (region_of shape place.stage) none)))))
desk_goes shape first s c (Entered k) h at n free =
    let there = (h.desks.entered c k at).0 in
    elim (cases_lt (flight_at s.flights k).packet.passes (flight_at s.flights k).pass) [
      | inl done ↦ AtDesk c (entered_there s.desks c k at) (can_take s c k at (is_below _ _ done))
      | inr le ↦ flight_goes shape first s k h there le free
    ]

pub not_stuck : NoPacketIsStuck
not_stuck shape first s c reached n = by (list_any (is_in_slot 0) s.flights) refl
  where
    by : (b : Bool) → list_any (is_in_slot 0) s.flights ≡ b → CanGoOn shape s
    by true some =
        let h = kept.holds shape first s reached in
        let f = found (is_in_slot 0) s.flights no_flight some in
        slot_goes shape s f.at f.there (omega (arith, equal (flight_at s.flights f.at).depth 1 f.is)) (h.positions.spot f.at f.there).deepest
    by false none = desk_goes shape first s c (desk_at s c) (kept.holds shape first s reached) refl n (ap not none)
