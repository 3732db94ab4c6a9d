-- What is seen of the slots where packets enter or leave a stage.
use Rattle.std.proofs.Common.{◌≡◌, ℕ, ◌+◌, ◌<◌, ◌≤◌, ◌==◌, true, false, List, [], ◌∷◌, ◌++◌, map, set, length, get_or, position, Option, Some, None, inl, inr, refl, sym, ap, ◌∙◌, arith}
use Rattle.std.specs.List.{range_with_len}
use Rattle.std.specs.Option.{option_map}
use Rattle.std.proofs.Math.Seq.{get_or-append_seam}
use Rattle.std.proofs.lemmas.Bool.{cases_eq, cases_lt, cases_order, false_from_ne_true}
use Rattle.std.proofs.lemmas.List.{get_or-set_same, get_or-set_other, get_or_append_left, get_or_past, length-set}
use Rattle.std.proofs.lemmas.List.FromFn.{length-map-range_with_len}
use Rattle.std.proofs.lemmas.List.Quantifiers.{position-Some}
use Rattle.stage_layout.specs.declared.shape.Shape.{Shape}
use Rattle.switch_packet.specs.Packets.{PlainPacket}
use Rattle.switch_model.specs.Event.{in_first_slot}
use Rattle.switch_model.specs.Flight.{Flight, no_flight, fresh_flight, flight_at, is_in_slot, is_free}
use Rattle.switch_model.proofs.Facts.{Positions}
use Rattle.switch_model.proofs.Tests.{clash, equal, is_equal, not_true}
use Rattle.pipeline.specs.Plain.{PlainFlight}
use Rattle.pipeline.specs.Seen.{seen_flight, slot_of}
use Rattle.pipeline.proofs.ButOne.{but_one, values_but_one, value_at, option_map_same, nowhere, position-set_same, position-set_new, position-set_none, position-push_other, position-push_new}

-- a flight that entered as number k + 1
abbrev pub seen_as : Flight → ℕ → PlainFlight
seen_as f k = record { packet = f.packet; pairs = f.pairs; pass = f.pass; number = k + 1 }

pub not_equal : (a b : ℕ) → (a ≡ b → ⊥) → (a == b) ≡ false
not_equal a b n = false_from_ne_true (a == b) (λ e. n (equal a b e))

-- ---- flights of a changed list

pub seen_before : (flights : List Flight) (f : Flight) (k : ℕ) → k < length flights → seen_flight (flights ++ f ∷ []) k ≡ seen_flight flights k
seen_before flights f k lt = ap (λ (g : Flight). seen_as g k) (get_or_append_left flights (f ∷ []) no_flight k lt)

pub seen_last : (flights : List Flight) (f : Flight) → seen_flight (flights ++ f ∷ []) (length flights) ≡ seen_as f (length flights)
seen_last flights f = ap (λ (g : Flight). seen_as g (length flights)) (get_or-append_seam flights f [] no_flight)

pub seen_set : (flights : List Flight) (k : ℕ) (f : Flight) → k < length flights → seen_flight (set flights k f) k ≡ seen_as f k
seen_set flights k f lt = ap (λ (g : Flight). seen_as g k) (get_or-set_same flights k f no_flight lt)

pub seen_other : (flights : List Flight) (k : ℕ) (f : Flight) (j : ℕ) → (j ≡ k → ⊥) → seen_flight (set flights k f) j ≡ seen_flight flights j
seen_other flights k f j n = ap (λ (g : Flight). seen_as g j) (get_or-set_other flights k j f no_flight n)

-- ---- one slot

not_in : (x : ℕ) (f : Flight) → (f.depth ≡ x + 1 → ⊥) → is_in_slot x f ≡ false
not_in x f n = not_equal f.depth (x + 1) n

slot_push_other : (flights : List Flight) (f : Flight) (x : ℕ) → is_in_slot x f ≡ false → slot_of (flights ++ f ∷ []) x ≡ slot_of flights x
slot_push_other flights f x out =
    ap (option_map (seen_flight (flights ++ f ∷ []))) (position-push_other (is_in_slot x) no_flight flights f out)
    ∙ option_map_same (seen_flight (flights ++ f ∷ [])) (seen_flight flights) (position (is_in_slot x) flights)
    (λ k e. seen_before flights f k (position-Some (is_in_slot x) flights k no_flight e).0)

slot_push_new : (flights : List Flight) (f : Flight) (x : ℕ) → is_free flights x ≡ true → is_in_slot x f ≡ true → slot_of (flights ++ f ∷ []) x ≡ Some (seen_as f (length flights))
slot_push_new flights f x free here =
    ap (option_map (seen_flight (flights ++ f ∷ []))) (position-push_new (is_in_slot x) no_flight flights f (not_true _ free) here) ∙ ap Some (seen_last flights f)

slot_set_same : (flights : List Flight) (k : ℕ) (f : Flight) (x : ℕ) → is_in_slot x f ≡ false → is_in_slot x (flight_at flights k) ≡ false → slot_of (set flights k f) x ≡ slot_of flights x
slot_set_same flights k f x out was =
    ap (option_map (seen_flight (set flights k f))) (position-set_same (is_in_slot x) no_flight flights k f (out ∙ sym was))
    ∙ option_map_same (seen_flight (set flights k f)) (seen_flight flights) (position (is_in_slot x) flights)
    (λ j e. seen_other flights k f j (λ same. clash _ (position-Some (is_in_slot x) flights j no_flight e).1 (ap (λ (i : ℕ). is_in_slot x (flight_at flights i)) same ∙ was)))

slot_set_new : (flights : List Flight) (k : ℕ) (f : Flight) (x : ℕ) → k < length flights → is_free flights x ≡ true → is_in_slot x f ≡ true → slot_of (set flights k f) x ≡ Some (seen_as f k)
slot_set_new flights k f x lt free here =
    ap (option_map (seen_flight (set flights k f))) (position-set_new (is_in_slot x) no_flight flights k f lt (not_true _ free) here) ∙ ap Some (seen_set flights k f lt)

-- what else stands in the slot of a packet
pub none_else : (shape : Shape) (flights : List Flight) (k x j : ℕ) → Positions shape (length flights) (flight_at flights) → k < length flights → (flight_at flights k).depth ≡ x + 1 → j < length flights → (j ≡ k → ⊥) → (flight_at flights j).depth ≡ x + 1 → ⊥
none_else shape flights k x j held there slot lt n e = elim (cases_order j k) [
  | inl same ↦ n same
  | inr o ↦ elim o [
    | inl less ↦ held.single j k less there (omega arith) (e ∙ sym slot)
    | inr more ↦ held.single k j more lt (omega arith) (slot ∙ sym e)
  ]
]

slot_set_none : (shape : Shape) (flights : List Flight) (k : ℕ) (f : Flight) (x : ℕ) → Positions shape (length flights) (flight_at flights) → k < length flights → (flight_at flights k).depth ≡ x + 1 → is_in_slot x f ≡ false → slot_of (set flights k f) x ≡ None
slot_set_none shape flights k f x held lt slot out =
    ap (option_map (seen_flight (set flights k f))) (position-set_none (is_in_slot x) no_flight flights k f lt out (λ j below n. not_in x (flight_at flights j) (none_else shape flights k x j held lt slot below n)))

-- beyond the stages there is none
pub slot_beyond : (shape : Shape) (flights : List Flight) (x : ℕ) → Positions shape (length flights) (flight_at flights) → shape.stages ≤ x → slot_of flights x ≡ None
slot_beyond shape flights x held past =
    ap (option_map (seen_flight flights))
    (by (position (is_in_slot x) flights) refl)
  where
    by : (o : Option ℕ) → position (is_in_slot x) flights ≡ o → o ≡ None
    by None e = refl
    by (Some k) e = let p = position-Some (is_in_slot x) flights k no_flight e in absurd (omega (arith, equal (flight_at flights k).depth (x + 1) p.1, (held.spot k p.0).deepest))

-- an empty slot is seen as one
pub slot_free : (flights : List Flight) (x : ℕ) → is_free flights x ≡ true → slot_of flights x ≡ None
slot_free flights x free = ap (option_map (seen_flight flights)) (nowhere (is_in_slot x) no_flight flights (not_true _ free))

-- ---- all slots

abbrev pub slots_of : Shape → List Flight → List (Option PlainFlight)
slots_of shape flights = map (slot_of flights) (range_with_len 0 shape.stages)

pub slot_seen : (shape : Shape) (flights : List Flight) (x : ℕ) → Positions shape (length flights) (flight_at flights) → get_or (slots_of shape flights) x None ≡ slot_of flights x
slot_seen shape flights x held = value_at None (slot_of flights) shape.stages x (slot_beyond shape flights x held)

pub first_entry_slots : (shape : Shape) (flights : List Flight) (p : PlainPacket) → 1 ≤ shape.stages → is_free flights 0 ≡ true
    → slots_of shape (flights ++ fresh_flight p ∷ []) ≡ set (slots_of shape flights) 0 (Some (seen_as (fresh_flight p) (length flights)))
first_entry_slots shape flights p stages free =
    let f = fresh_flight p in
    values_but_one None (slot_of flights) (slot_of (flights ++ f ∷ [])) shape.stages 0 (Some (seen_as f (length flights))) (omega arith)
    (slot_push_new flights f 0 free refl)
    (λ x n. slot_push_other flights f x (not_in x f (λ e. n (omega arith))))

pub later_entry_slots : (shape : Shape) (flights : List Flight) (k : ℕ) → 1 ≤ shape.stages → k < length flights → (flight_at flights k).depth ≡ 0 → is_free flights 0 ≡ true
    → slots_of shape (set flights k (in_first_slot (flight_at flights k))) ≡ set (slots_of shape flights) 0 (Some (seen_flight flights k))
later_entry_slots shape flights k stages lt out free =
    let f = in_first_slot (flight_at flights k) in
    values_but_one None (slot_of flights) (slot_of (set flights k f)) shape.stages 0 (Some (seen_flight flights k)) (omega arith)
    (slot_set_new flights k f 0 lt free refl)
    (λ x n. slot_set_same flights k f x (not_in x f (λ e. n (omega arith))) (not_in x (flight_at flights k) (λ e. omega arith)))

-- from the last stage
pub last_stage_slots : (shape : Shape) (flights : List Flight) (k x : ℕ) (f : Flight) → Positions shape (length flights) (flight_at flights) → k < length flights → (flight_at flights k).depth ≡ x + 1 → x < shape.stages → f.depth ≡ 0
    → slots_of shape (set flights k f) ≡ set (slots_of shape flights) x None
last_stage_slots shape flights k x f held lt slot below out =
    values_but_one None (slot_of flights) (slot_of (set flights k f)) shape.stages x None below
    (slot_set_none shape flights k f x held lt slot (not_in x f (λ e. omega arith)))
    (λ y n. slot_set_same flights k f y (not_in y f (λ e. omega arith)) (not_in y (flight_at flights k) (λ e. n (omega arith))))

-- from one before the last
pub next_slots : (shape : Shape) (flights : List Flight) (k x : ℕ) (f : Flight) → Positions shape (length flights) (flight_at flights) → k < length flights → (flight_at flights k).depth ≡ x + 1 → x + 1 < shape.stages → is_free flights (x + 1) ≡ true → f.depth ≡ x + 2
    → slots_of shape (set flights k f) ≡ set (set (slots_of shape flights) x None) (x + 1) (Some (seen_as f k))
next_slots shape flights k x f held lt slot below free deep =
    let size = length-map-range_with_len (slot_of flights) 0 shape.stages in
    let size_now = length-map-range_with_len (slot_of (set flights k f)) 0 shape.stages in
    let cleared = length-set (slots_of shape flights) x None in
    but_one None (set (slots_of shape flights) x None) (slots_of shape (set flights k f)) (x + 1) (Some (seen_as f k)) (size_now ∙ sym size ∙ sym cleared) (omega (arith, cleared, size))
    (at (x + 1) below ∙ slot_set_new flights k f (x + 1) lt free (is_equal f.depth (x + 1 + 1) (omega arith)))
    (λ y n. elim (cases_lt y shape.stages) [
      | inl inside ↦ at y inside ∙ elim (cases_eq y x) [
        | inl e ↦
            ap (slot_of (set flights k f)) e
            ∙ slot_set_none shape flights k f x held lt slot (not_in x f (λ d. omega arith))
            ∙ sym (ap (λ (j : ℕ). get_or (set (slots_of shape flights) x None) j None) e ∙ get_or-set_same (slots_of shape flights) x None None (omega (arith, size)))
        | inr m ↦
            slot_set_same flights k f y (not_in y f (λ d. n (omega arith))) (not_in y (flight_at flights k) (λ d. m (omega arith)))
            ∙ sym (was y inside)
            ∙ sym (get_or-set_other (slots_of shape flights) x y None None m)
      ]
      | inr outside ↦ past (slots_of shape (set flights k f)) y (omega (arith, size_now)) ∙ sym (past (set (slots_of shape flights) x None) y (omega (arith, size, cleared)))
    ])
  where
    at : (y : ℕ) → y < shape.stages → get_or (slots_of shape (set flights k f)) y None ≡ slot_of (set flights k f) y
    at y inside = value_at None (slot_of (set flights k f)) shape.stages y (λ out. absurd (omega arith))

    was : (y : ℕ) → y < shape.stages → get_or (slots_of shape flights) y None ≡ slot_of flights y
    was y inside = value_at None (slot_of flights) shape.stages y (λ out. absurd (omega arith))

    past : (l : List (Option PlainFlight)) (y : ℕ) → length l ≤ y → get_or l y None ≡ None
    past l y out = get_or_past l y None out
