-- Who is seen to hold the halves where packets enter or leave a stage.
use Rattle.std.proofs.Common.{◌≡◌, ℕ, ◌+◌, ◌<◌, ◌≤◌, ◌==◌, ◌&&◌, ◌||◌, ◌^◌, Bool, true, false, not, nat_lt, nat_le, List, [], ◌∷◌, ◌++◌, set, length, position, Option, Some, None, is_some, inl, inr, refl, sym, ap, ◌∙◌, arith, if◌then◌else◌}
use Rattle.std.specs.Prelude.{is_none}
use Rattle.std.specs.List.{list_all}
use Rattle.std.specs.Option.{option_map}
use Rattle.std.proofs.Math.Seq.{get_or-append_seam}
use Rattle.std.proofs.lemmas.Bool.{cases_eq, false_from_ne_true}
use Rattle.std.proofs.lemmas.Bool.Decides.{nat_tests}
use Rattle.std.proofs.lemmas.List.{get_or-set_same, get_or-set_other, get_or_append_left}
use Rattle.std.proofs.lemmas.List.Quantifiers.{position-Some}
use Rattle.txn_model.specs.declared.pairs.Pair.{Pair}
use Rattle.txn_model.specs.declared.place.Place.{Place}
use Rattle.stage_layout.specs.Regions.{region_of, touches, halves_of}
use Rattle.stage_layout.specs.declared.shape.Shape.{Shape}
use Rattle.stage_layout.proofs.Firsts.{fails_at}
use Rattle.switch_packet.specs.Packets.{PlainPacket}
use Rattle.pipeline_locks.specs.Holders.{Holders, has_half, is_held_by, first_held, given, without}
use Rattle.switch_model.specs.Event.{in_first_slot}
use Rattle.switch_model.specs.Flight.{Flight, no_flight, fresh_flight, flight_at, places_of, packet_touches, is_early, holds, is_held}
use Rattle.switch_model.specs.Switch.{Switch, Entered, desk_at}
use Rattle.switch_model.proofs.Facts.{Desks}
use Rattle.switch_model.proofs.HeldInTurn.{when_early}
use Rattle.switch_model.proofs.Tests.{both, equal, is_equal}
use Rattle.pipeline.specs.Seen.{holder_of}
use Rattle.pipeline.proofs.ButOne.{option_map_same, is_some-option_map, nowhere, some_position, position-set_same, position-set_none, position-set_other, position-push_other, position-push_new}

abbrev pub holders_of : Shape → List Flight → Holders
holders_of shape flights = holder_of shape flights 0 ∷ holder_of shape flights 1 ∷ []

abbrev client_at : List Flight → ℕ → ℕ
client_at flights k = (flight_at flights k).packet.client

-- ---- the halves of a packet

left_half : (shape : Shape) (places : List Place) → has_half (halves_of shape places) 0 ≡ touches shape places 0
left_half shape places = by (touches shape places 0) (touches shape places 1)
  where
    by : (a b : Bool) → has_half ((if a then 2 ^ 0 else 0) + (if b then 2 ^ 1 else 0)) 0 ≡ a
    by true true = refl
    by true false = refl
    by false true = refl
    by false false = refl

right_half : (shape : Shape) (places : List Place) → has_half (halves_of shape places) 1 ≡ touches shape places 1
right_half shape places = by (touches shape places 0) (touches shape places 1)
  where
    by : (a b : Bool) → has_half ((if a then 2 ^ 0 else 0) + (if b then 2 ^ 1 else 0)) 1 ≡ b
    by true true = refl
    by true false = refl
    by false true = refl
    by false false = refl

-- ---- whether they are free

one_held : (a b : Bool) (x y : Option ℕ) → is_none (if a && is_some x then x else (if b && is_some y then y else None)) ≡ (not (a && is_some x) && not (b && is_some y))
one_held true b (Some h) y = refl
one_held true true None (Some h) = refl
one_held true true None None = refl
one_held true false None y = refl
one_held false true x (Some h) = refl
one_held false true x None = refl
one_held false false x y = refl

-- no region that the places touch is held, where neither of the two is held and touched
two_regions : (shape : Shape) (held : ℕ → Bool) (places : List Place) → list_all (λ place. not (held (region_of shape place.stage))) places ≡ (not (touches shape places 0 && held 0) && not (touches shape places 1 && held 1))
two_regions shape held [] = refl
two_regions shape held (place ∷ places) =
    ap (λ (b : Bool). not (held (region_of shape place.stage)) && b) (two_regions shape held places)
    ∙ by (nat_lt place.stage shape.split) (touches shape places 0) (touches shape places 1)
  where
    joined : (h g a b : Bool) → (not h && (not (a && h) && not (b && g))) ≡ (not h && not (b && g))
    joined true g a b = refl
    joined false g true b = refl
    joined false g false b = refl

    joined_right : (h g a b : Bool) → (not g && (not (a && h) && not (b && g))) ≡ (not (a && h) && not g)
    joined_right h true true b = grind arith
    joined_right h true false b = refl
    joined_right h false a true = refl
    joined_right h false a false = refl

    by : (left a b : Bool)
        → (not (held (if left then 0 else 1)) && (not (a && held 0) && not (b && held 1)))
        ≡ (not ((((if left then 0 else 1) == 0) || a) && held 0) && not ((((if left then 0 else 1) == 1) || b) && held 1))
    by true a b = joined (held 0) (held 1) a b
    by false a b = joined_right (held 0) (held 1) a b

pub held_seen : (shape : Shape) (flights : List Flight) (region : ℕ) → is_some (holder_of shape flights region) ≡ is_held shape flights region
held_seen shape flights region = is_some-option_map (client_at flights) (position (holds shape region) flights) ∙ some_position (holds shape region) no_flight flights

-- all halves that the packet touches are seen to be free exactly where no region that it touches is held
pub free_seen : (shape : Shape) (flights : List Flight) (p : PlainPacket) → p.halves ≡ halves_of shape (places_of p)
    → is_none (first_held p.halves (holders_of shape flights)) ≡ list_all (λ place. not (is_held shape flights (region_of shape place.stage))) (places_of p)
free_seen shape flights p planned =
    let left = ap (λ (n : ℕ). has_half n 0) planned ∙ left_half shape (places_of p) in
    let right = ap (λ (n : ℕ). has_half n 1) planned ∙ right_half shape (places_of p) in
    let x = holder_of shape flights 0 in
    let y = holder_of shape flights 1 in
    one_held (has_half p.halves 0) (has_half p.halves 1) x y
    ∙ (λ i. not (left i && held_seen shape flights 0 i) && not (right i && held_seen shape flights 1 i))
    ∙ sym (two_regions shape (is_held shape flights) (places_of p))

-- ---- a first entry

early_fresh : (p : PlainPacket) → is_early (fresh_flight p) ≡ nat_le 2 p.passes
early_fresh p = grind (arith, nat_tests)

first_holder : (shape : Shape) (flights : List Flight) (p : PlainPacket) (region : ℕ) → (packet_touches shape p region ≡ true → is_held shape flights region ≡ false)
    → holder_of shape (flights ++ fresh_flight p ∷ []) region ≡ (if nat_le 2 p.passes && packet_touches shape p region then Some p.client else holder_of shape flights region)
first_holder shape flights p region free = by (nat_le 2 p.passes && packet_touches shape p region) refl
  where
    now : List Flight
    now = flights ++ fresh_flight p ∷ []

    test : (b : Bool) → (nat_le 2 p.passes && packet_touches shape p region) ≡ b → holds shape region (fresh_flight p) ≡ b
    test b e = ap (λ (a : Bool). a && packet_touches shape p region) (early_fresh p) ∙ e

    by : (b : Bool) → (nat_le 2 p.passes && packet_touches shape p region) ≡ b → holder_of shape (flights ++ fresh_flight p ∷ []) region ≡ (if b then Some p.client else holder_of shape flights region)
    by true e =
        ap (option_map (client_at (flights ++ fresh_flight p ∷ []))) (position-push_new (holds shape region) no_flight flights (fresh_flight p) (free (both _ _ e).1) (test true e))
        ∙ ap (λ (f : Flight). Some f.packet.client) (get_or-append_seam flights (fresh_flight p) [] no_flight)
    by false e =
        ap (option_map (client_at (flights ++ fresh_flight p ∷ []))) (position-push_other (holds shape region) no_flight flights (fresh_flight p) (test false e))
        ∙ option_map_same (client_at (flights ++ fresh_flight p ∷ [])) (client_at flights) (position (holds shape region) flights)
        (λ k at. ap (λ (f : Flight). f.packet.client) (get_or_append_left flights (fresh_flight p ∷ []) no_flight k (position-Some (holds shape region) flights k no_flight at).0))

pub first_entry_halves : (shape : Shape) (flights : List Flight) (p : PlainPacket) (c : ℕ) → p.halves ≡ halves_of shape (places_of p) → p.client ≡ c → ((region : ℕ) → packet_touches shape p region ≡ true → is_held shape flights region ≡ false)
    → holders_of shape (flights ++ fresh_flight p ∷ []) ≡ (if nat_le 2 p.passes then given p.halves c (holders_of shape flights) else holders_of shape flights)
first_entry_halves shape flights p c planned own free =
    let left = ap (λ (n : ℕ). has_half n 0) planned ∙ left_half shape (places_of p) in
    let right = ap (λ (n : ℕ). has_half n 1) planned ∙ right_half shape (places_of p) in
    let x = holder_of shape flights 0 in
    let y = holder_of shape flights 1 in
    (λ i. first_holder shape flights p 0 (free 0) i ∷ first_holder shape flights p 1 (free 1) i ∷ [])
    ∙ (λ i. (if nat_le 2 p.passes && sym left i then Some (own i) else x) ∷ (if nat_le 2 p.passes && sym right i then Some (own i) else y) ∷ [])
    ∙ by (nat_le 2 p.passes) (has_half p.halves 0) (has_half p.halves 1) x y
  where
    by : (two a b : Bool) (x y : Option ℕ)
        → ((if two && a then Some c else x) ∷ (if two && b then Some c else y) ∷ []) ≡ (if two then ((if a then Some c else x) ∷ (if b then Some c else y) ∷ []) else (x ∷ y ∷ []))
    by true a b x y = refl
    by false a b x y = refl

-- ---- a flight that changes

-- one that holds as much as before
pub same_halves : (shape : Shape) (flights : List Flight) (k : ℕ) (f : Flight) → k < length flights → f.packet ≡ (flight_at flights k).packet → is_early f ≡ is_early (flight_at flights k)
    → holders_of shape (set flights k f) ≡ holders_of shape flights
same_halves shape flights k f lt packet early = λ i. one 0 i ∷ one 1 i ∷ []
  where
    one : (region : ℕ) → holder_of shape (set flights k f) region ≡ holder_of shape flights region
    one region =
        ap (option_map (client_at (set flights k f))) (position-set_same (holds shape region) no_flight flights k f (λ i. early i && packet_touches shape (packet i) region))
        ∙ option_map_same (client_at (set flights k f)) (client_at flights) (position (holds shape region) flights) (λ j at. elim (cases_eq j k) [
          | inl e ↦ ap (client_at (set flights k f)) e ∙ ap (λ (g : Flight). g.packet.client) (get_or-set_same flights k f no_flight lt) ∙ ap (λ (p : PlainPacket). p.client) packet ∙ ap (client_at flights) (sym e)
          | inr n ↦ ap (λ (g : Flight). g.packet.client) (get_or-set_other flights k j f no_flight n)
        ])

-- ---- an entry for the last pass

held_by_it : (c d : ℕ) → d ≡ c → (if is_held_by c (Some d) then None else Some d) ≡ None
held_by_it c d e = ap (λ (b : Bool). if b then None else Some d) (is_equal d c e)

held_by_other : (c d : ℕ) → (d ≡ c → ⊥) → (if is_held_by c (Some d) then None else Some d) ≡ Some d
held_by_other c d n = ap (λ (b : Bool). if b then None else Some d) (false_from_ne_true (d == c) (λ e. n (equal d c e)))

same_desk : (i j : ℕ) → Entered i ≡ Entered j → i ≡ j
same_desk i j e = cc

-- the packet of client c gives back what it held
pub given_back : (shape : Shape) (s : Switch) (c k : ℕ) (f : Flight) → Desks shape s → desk_at s c ≡ Entered k → is_early f ≡ false
    → ((region : ℕ) → packet_touches shape (flight_at s.flights k).packet region ≡ true → is_held shape (set s.flights k f) region ≡ false)
    → holders_of shape (set s.flights k f) ≡ without c (holders_of shape s.flights)
given_back shape s c k f desks desk passed free = λ i. one 0 i ∷ one 1 i ∷ []
  where
    there : k < length s.flights
    there = (desks.entered c k desk).0

    out : (region : ℕ) → holds shape region f ≡ false
    out region = ap (λ (b : Bool). b && packet_touches shape f.packet region) passed

    by : (region : ℕ) (o : Option ℕ) → position (holds shape region) s.flights ≡ o
        → holder_of shape (set s.flights k f) region ≡ (if is_held_by c (option_map (client_at s.flights) o) then None else option_map (client_at s.flights) o)
    by region None at =
        ap (option_map (client_at (set s.flights k f)))
        (position-set_none (holds shape region) no_flight s.flights k f there (out region) (λ j lt n. fails_at (holds shape region) no_flight s.flights j at lt))
    by region (Some j) at = let p = position-Some (holds shape region) s.flights j no_flight at in elim (cases_eq j k) [
      | inl e ↦
          ap (option_map (client_at (set s.flights k f))) (nowhere (holds shape region) no_flight (set s.flights k f) (free region (ap (λ (i : ℕ). packet_touches shape (flight_at s.flights i).packet region) (sym e) ∙ (both _ _ p.1).1)))
          ∙ sym (held_by_it c (client_at s.flights j) (ap (client_at s.flights) e ∙ (desks.entered c k desk).1))
      | inr n ↦
          ap (option_map (client_at (set s.flights k f))) (position-set_other (holds shape region) no_flight s.flights k f j there (out region) at n)
          ∙ ap (λ (g : Flight). Some g.packet.client) (get_or-set_other s.flights k j f no_flight n)
          ∙ sym (held_by_other c (client_at s.flights j) (λ e. n (same_desk j k (sym (desks.under_way j p.0 (when_early (flight_at s.flights j) (both _ _ p.1).0).pass) ∙ ap (desk_at s) e ∙ desk))))
    ]

    one : (region : ℕ) → holder_of shape (set s.flights k f) region ≡ (if is_held_by c (holder_of shape s.flights region) then None else holder_of shape s.flights region)
    one region = by region (position (holds shape region) s.flights) refl

-- ---- what doesn't change it

pub early_on : (f : Flight) (pairs : List Pair) → 1 ≤ f.depth → is_early (record { packet = f.packet; pass = f.pass; depth = f.depth + 1; pairs = pairs }) ≡ is_early f
early_on f pairs deep = grind (arith, nat_tests)

pub early_out : (f : Flight) (pairs : List Pair) → 1 ≤ f.depth → is_early (record { packet = f.packet; pass = f.pass + 1; depth = 0; pairs = pairs }) ≡ is_early f
early_out f pairs deep = grind (arith, nat_tests)

pub early_later : (f : Flight) → f.depth ≡ 0 → f.pass ≤ f.packet.passes → (f.pass == f.packet.passes) ≡ false → is_early (in_first_slot f) ≡ is_early f
early_later f out to last = grind (arith, nat_tests)

pub passed_in_slot : (f : Flight) → (f.pass == f.packet.passes) ≡ true → is_early (in_first_slot f) ≡ false
passed_in_slot f last = grind (arith, nat_tests)
