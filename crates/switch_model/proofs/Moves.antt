-- What an event is: which of the moves it makes, and of what.
use Rattle.std.proofs.Common.{◌≡◌, ◌⊎◌, ℕ, ◌<◌, ◌&&◌, Bool, true, false, nat_lt, length, Option, Some, None, inl, inr, refl, if◌then◌else◌}
use Rattle.std.specs.List.{position}
use Rattle.stage_layout.specs.declared.shape.Shape.{Shape}
use Rattle.switch_packet.specs.Packets.{PlainPacket}
use Rattle.switch_model.specs.Event.{Event, Post, Enter, Advance, Take, step, with_desk, with_flight, posted, post, first_entry, in_first_slot, entered_from, enter, advanced, may_leave, advanced_from, advance, taken, take_answer}
use Rattle.switch_model.specs.Flight.{flight_at, is_done, is_waiting, is_in_slot, is_free, may_enter}
use Rattle.switch_model.specs.Switch.{Switch, Desk, Vacant, Posted, Entered, desk_at}
use Rattle.switch_model.proofs.Tests.{both, below}

pub record Posts (s next : Switch) (c : ℕ) (p : PlainPacket) : Type 0 where
  pub vacant : desk_at s c ≡ Vacant
  pub there : c < length s.desks
  pub is : next ≡ with_desk s c (Posted p)

pub record EntersFirst (shape : Shape) (s next : Switch) (c : ℕ) : Type 0 where
  pub p : PlainPacket
  pub desk : desk_at s c ≡ Posted p
  pub may : may_enter shape s.flights p ≡ true
  pub is : next ≡ first_entry s c p

pub record EntersLater (s next : Switch) (c : ℕ) : Type 0 where
  pub k : ℕ
  pub desk : desk_at s c ≡ Entered k
  pub waits : is_waiting (flight_at s.flights k) ≡ true
  pub free : is_free s.flights 0 ≡ true
  pub is : next ≡ with_flight s k (in_first_slot (flight_at s.flights k))

pub record LeavesStage (shape : Shape) (s next : Switch) (x : ℕ) : Type 0 where
  pub k : ℕ
  pub stands : position (is_in_slot x) s.flights ≡ Some k
  pub may : may_leave shape s.flights x ≡ true
  pub is : next ≡ advanced shape s x k

pub record Takes (s next : Switch) (c : ℕ) : Type 0 where
  pub k : ℕ
  pub desk : desk_at s c ≡ Entered k
  pub done : is_done (flight_at s.flights k) ≡ true
  pub is : next ≡ with_desk s c Vacant

abbrev pub Move : Shape → Switch → Switch → Event → Type 0
Move shape s next (Post c p) = Posts s next c p
Move shape s next (Enter c) = EntersFirst shape s next c ⊎ EntersLater s next c
Move shape s next (Advance x) = LeavesStage shape s next x
Move shape s next (Take c) = Takes s next c

-- the value of a choice that has one
record Chosen {X : Type 0} (b : Bool) (x y : X) : Type 0 where
  test : b ≡ true
  is : y ≡ x

chosen : {X : Type 0} (b : Bool) (x y : X) → (if b then Some x else None) ≡ Some y → Chosen b x y
chosen true x y e = record { test = refl; is = cc }
chosen false x y e = cc

post_move : (s next : Switch) (c : ℕ) (p : PlainPacket) (desk : Desk) → desk_at s c ≡ desk → posted s c p desk ≡ Some next → Posts s next c p
post_move s next c p Vacant at e = let h = chosen (nat_lt c (length s.desks)) (with_desk s c (Posted p)) next e in record { vacant = at; there = below c (length s.desks) h.test; is = h.is }
post_move s next c p (Posted q) at e = cc
post_move s next c p (Entered k) at e = cc

enter_move : (shape : Shape) (s next : Switch) (c : ℕ) (desk : Desk) → desk_at s c ≡ desk → entered_from shape s c desk ≡ Some next → EntersFirst shape s next c ⊎ EntersLater s next c
enter_move shape s next c Vacant at e = cc
enter_move shape s next c (Posted p) at e = let h = chosen (may_enter shape s.flights p) (first_entry s c p) next e in inl (record { p = p; desk = at; may = h.test; is = h.is })
enter_move shape s next c (Entered k) at e =
    let f = flight_at s.flights k in
    let h = chosen (is_waiting f && is_free s.flights 0) (with_flight s k (in_first_slot f)) next e in
    inr (record { k = k; desk = at; waits = (both _ _ h.test).0; free = (both _ _ h.test).1; is = h.is })

advance_move : (shape : Shape) (s next : Switch) (x : ℕ) (o : Option ℕ) → position (is_in_slot x) s.flights ≡ o → advanced_from shape s x o ≡ Some next → LeavesStage shape s next x
advance_move shape s next x None at e = cc
advance_move shape s next x (Some k) at e = let h = chosen (may_leave shape s.flights x) (advanced shape s x k) next e in record { k = k; stands = at; may = h.test; is = h.is }

take_move : (s next : Switch) (c : ℕ) (desk : Desk) → desk_at s c ≡ desk → taken s c desk ≡ Some next → Takes s next c
take_move s next c Vacant at e = cc
take_move s next c (Posted p) at e = cc
take_move s next c (Entered k) at e = let h = chosen (is_done (flight_at s.flights k)) (with_desk s c Vacant) next e in record { k = k; desk = at; done = h.test; is = h.is }

pub move_of : (shape : Shape) (s next : Switch) (event : Event) → step shape s event ≡ Some next → Move shape s next event
unfolding post enter advance take_answer
move_of shape s next (Post c p) e = post_move s next c p (desk_at s c) refl e
move_of shape s next (Enter c) e = enter_move shape s next c (desk_at s c) refl e
move_of shape s next (Advance x) e = advance_move shape s next x (position (is_in_slot x) s.flights) refl e
move_of shape s next (Take c) e = take_move s next c (desk_at s c) refl e
