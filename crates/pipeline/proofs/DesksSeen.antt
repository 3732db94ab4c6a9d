-- What is seen of clients: the packet that waits at the port, and the answer in the box.
use Rattle.std.proofs.Common.{◌≡◌, ℕ, ◌+◌, ◌<◌, ◌≤◌, Bool, true, false, List, [], ◌∷◌, ◌++◌, map, set, length, get_or, Option, Some, None, inl, inr, refl, sym, ap, ◌∙◌, arith, if◌then◌else◌}
use Rattle.std.specs.Option.{option_map}
use Rattle.std.proofs.Math.Seq.{get_or-append_seam}
use Rattle.std.proofs.lemmas.Bool.{cases_eq}
use Rattle.std.proofs.lemmas.Bool.Decides.{nat_tests}
use Rattle.std.proofs.lemmas.List.{ext_get_or, get_or-set_same, get_or-set_other, get_or_append_left, length-map, length-set, map-set, set-get_or}
use Rattle.stage_layout.specs.declared.shape.Shape.{Shape}
use Rattle.switch_packet.specs.Packets.{PlainPacket}
use Rattle.switch_model.specs.Flight.{Flight, no_flight, flight_at, is_done, is_waiting}
use Rattle.switch_model.specs.Switch.{Switch, Desk, Vacant, Posted, Entered, desk_at, answer_of_flight}
use Rattle.switch_model.proofs.Facts.{Desks}
use Rattle.pipeline.specs.Plain.{PlainFlight, PlainBox}
use Rattle.pipeline.specs.Seen.{waiting_on, boxed, box_on}
use Rattle.pipeline.proofs.ButOne.{but_one, mapped_at}
use Rattle.pipeline.proofs.SlotsSeen.{seen_as}

-- ---- whatever is seen of a client: nothing of a vacant desk, and of a packet that has entered what its flight shows

module _ {Y : Type 0} (on : List Flight → Desk → Option Y) (of_flight : ℕ → Flight → Option Y) (vacant : (flights : List Flight) → on flights Vacant ≡ None) (posted : (a b : List Flight) (p : PlainPacket) → on a (Posted p) ≡ on b (Posted p))
    (flown : (flights : List Flight) (k : ℕ) → on flights (Entered k) ≡ of_flight k (flight_at flights k)) where
  pub on_at : (flights : List Flight) (desks : List Desk) (c : ℕ) → get_or (map (on flights) desks) c None ≡ on flights (get_or desks c Vacant)
  on_at flights desks c = mapped_at (on flights) desks c Vacant None (vacant flights)

  -- a desk that shows the same in two states
  same_on : (a b : List Flight) (desk : Desk) → ((k : ℕ) → desk ≡ Entered k → of_flight k (flight_at a k) ≡ of_flight k (flight_at b k)) → on a desk ≡ on b desk
  same_on a b Vacant h = vacant a ∙ sym (vacant b)
  same_on a b (Posted p) h = posted a b p
  same_on a b (Entered k) h = flown a k ∙ h k refl ∙ sym (flown b k)

  -- the flight of one client changes
  pub flight_changes : (shape : Shape) (s : Switch) (c k : ℕ) (f : Flight) → Desks shape s → desk_at s c ≡ Entered k → c < length s.desks → map (on (set s.flights k f)) s.desks ≡ set (map (on s.flights) s.desks) c (of_flight k f)
  flight_changes shape s c k f own desk there =
      let now = set s.flights k f in
      let size = length-map s.desks (on s.flights) in
      but_one None (map (on s.flights) s.desks) (map (on now) s.desks) c (of_flight k f) (length-map s.desks (on now) ∙ sym size) (omega (arith, size))
      (on_at now s.desks c ∙ ap (on now) desk ∙ flown now k ∙ ap (of_flight k) (get_or-set_same s.flights k f no_flight (own.entered c k desk).0))
      (λ d n.
      on_at now s.desks d
      ∙ same_on now s.flights (desk_at s d)
      (λ i at. ap (of_flight i) (get_or-set_other s.flights k i f no_flight (λ e. n (sym (own.entered d i at).1 ∙ ap (λ (j : ℕ). (flight_at s.flights j).packet.client) e ∙ (own.entered c k desk).1))))
      ∙ sym (on_at s.flights s.desks d))

  -- a flight changes that shows the same as before
  pub flight_stays : (flights : List Flight) (desks : List Desk) (k : ℕ) (f : Flight) → k < length flights → of_flight k f ≡ of_flight k (flight_at flights k) → map (on (set flights k f)) desks ≡ map (on flights) desks
  flight_stays flights desks k f there same =
      let now = set flights k f in
      ext_get_or None (map (on now) desks) (map (on flights) desks) (length-map desks (on now) ∙ sym (length-map desks (on flights)))
      (λ d lt.
      on_at now desks d
      ∙ same_on now flights (get_or desks d Vacant)
      (λ i at. elim (cases_eq i k) [
        | inl e ↦ ap (λ (j : ℕ). of_flight j (flight_at now j)) e ∙ ap (of_flight k) (get_or-set_same flights k f no_flight there) ∙ same ∙ ap (λ (j : ℕ). of_flight j (flight_at flights j)) (sym e)
        | inr n ↦ ap (of_flight i) (get_or-set_other flights k i f no_flight n)
      ])
      ∙ sym (on_at flights desks d))

  -- a desk changes
  pub desk_changes : (flights : List Flight) (desks : List Desk) (c : ℕ) (desk : Desk) → map (on flights) (set desks c desk) ≡ set (map (on flights) desks) c (on flights desk)
  desk_changes flights desks c desk = map-set (on flights) desks c desk

  -- what is seen already
  pub stays_so : (flights : List Flight) (desks : List Desk) (c : ℕ) (v : Option Y) → on flights (get_or desks c Vacant) ≡ v → set (map (on flights) desks) c v ≡ map (on flights) desks
  stays_so flights desks c v e = ap (set (map (on flights) desks) c) (sym e ∙ sym (on_at flights desks c)) ∙ set-get_or (map (on flights) desks) c None

  -- a packet enters for its first pass
  pub flight_enters : (shape : Shape) (s : Switch) (c : ℕ) (f : Flight) → Desks shape s → c < length s.desks
      → map (on (s.flights ++ f ∷ [])) (set s.desks c (Entered (length s.flights))) ≡ set (map (on s.flights) s.desks) c (of_flight (length s.flights) f)
  flight_enters shape s c f own there =
      let n = length s.flights in
      let now = s.flights ++ f ∷ [] in
      let desks = set s.desks c (Entered n) in
      let size = length-map s.desks (on s.flights) in
      let size_now = length-map desks (on now) in
      let kept = length-set s.desks c (Entered n) in
      but_one None (map (on s.flights) s.desks) (map (on now) desks) c (of_flight n f) (size_now ∙ kept ∙ sym size) (omega (arith, size))
      (on_at now desks c ∙ ap (on now) (get_or-set_same s.desks c (Entered n) Vacant there) ∙ flown now n ∙ ap (of_flight n) (get_or-append_seam s.flights f [] no_flight))
      (λ d m.
      on_at now desks d
      ∙ ap (on now) (get_or-set_other s.desks c d (Entered n) Vacant m)
      ∙ same_on now s.flights (desk_at s d) (λ i at. ap (of_flight i) (get_or_append_left s.flights (f ∷ []) no_flight i (own.entered d i at).0))
      ∙ sym (on_at s.flights s.desks d))

-- ---- what waits at the port

abbrev pub waiting_flight : ℕ → Flight → Option PlainFlight
waiting_flight k f = if is_waiting f then Some (seen_as f k) else None

pub waiting_at : (flights : List Flight) (desks : List Desk) (c : ℕ) → get_or (map (waiting_on flights) desks) c None ≡ waiting_on flights (get_or desks c Vacant)
waiting_at = on_at waiting_on waiting_flight (λ _. refl) (λ _ _ _. refl) (λ _ _. refl)

pub waiting_changes : (shape : Shape) (s : Switch) (c k : ℕ) (f : Flight) → Desks shape s → desk_at s c ≡ Entered k → c < length s.desks → map (waiting_on (set s.flights k f)) s.desks ≡ set (map (waiting_on s.flights) s.desks) c (waiting_flight k f)
waiting_changes = flight_changes waiting_on waiting_flight (λ _. refl) (λ _ _ _. refl) (λ _ _. refl)

pub waiting_stays : (flights : List Flight) (desks : List Desk) (k : ℕ) (f : Flight) → k < length flights → waiting_flight k f ≡ waiting_flight k (flight_at flights k) → map (waiting_on (set flights k f)) desks ≡ map (waiting_on flights) desks
waiting_stays = flight_stays waiting_on waiting_flight (λ _. refl) (λ _ _ _. refl) (λ _ _. refl)

pub waiting_as_it_was : (flights : List Flight) (desks : List Desk) (c : ℕ) (v : Option PlainFlight) → waiting_on flights (get_or desks c Vacant) ≡ v → set (map (waiting_on flights) desks) c v ≡ map (waiting_on flights) desks
waiting_as_it_was = stays_so waiting_on waiting_flight (λ _. refl) (λ _ _ _. refl) (λ _ _. refl)

pub waiting_entered : (shape : Shape) (s : Switch) (c : ℕ) (f : Flight) → Desks shape s → c < length s.desks
    → map (waiting_on (s.flights ++ f ∷ [])) (set s.desks c (Entered (length s.flights))) ≡ set (map (waiting_on s.flights) s.desks) c (waiting_flight (length s.flights) f)
waiting_entered = flight_enters waiting_on waiting_flight (λ _. refl) (λ _ _ _. refl) (λ _ _. refl)

-- ---- what is in the box

abbrev pub boxed_flight : ℕ → Flight → Option PlainBox
boxed_flight k f = option_map boxed (answer_of_flight k f)

pub box_at : (flights : List Flight) (desks : List Desk) (c : ℕ) → get_or (map (box_on flights) desks) c None ≡ box_on flights (get_or desks c Vacant)
box_at = on_at box_on boxed_flight (λ _. refl) (λ _ _ _. refl) (λ _ _. refl)

pub box_changes : (shape : Shape) (s : Switch) (c k : ℕ) (f : Flight) → Desks shape s → desk_at s c ≡ Entered k → c < length s.desks → map (box_on (set s.flights k f)) s.desks ≡ set (map (box_on s.flights) s.desks) c (boxed_flight k f)
box_changes = flight_changes box_on boxed_flight (λ _. refl) (λ _ _ _. refl) (λ _ _. refl)

pub box_stays : (flights : List Flight) (desks : List Desk) (k : ℕ) (f : Flight) → k < length flights → boxed_flight k f ≡ boxed_flight k (flight_at flights k) → map (box_on (set flights k f)) desks ≡ map (box_on flights) desks
box_stays = flight_stays box_on boxed_flight (λ _. refl) (λ _ _ _. refl) (λ _ _. refl)

pub box_as_it_was : (flights : List Flight) (desks : List Desk) (c : ℕ) (v : Option PlainBox) → box_on flights (get_or desks c Vacant) ≡ v → set (map (box_on flights) desks) c v ≡ map (box_on flights) desks
box_as_it_was = stays_so box_on boxed_flight (λ _. refl) (λ _ _ _. refl) (λ _ _. refl)

pub box_entered : (shape : Shape) (s : Switch) (c : ℕ) (f : Flight) → Desks shape s → c < length s.desks
    → map (box_on (s.flights ++ f ∷ [])) (set s.desks c (Entered (length s.flights))) ≡ set (map (box_on s.flights) s.desks) c (boxed_flight (length s.flights) f)
box_entered = flight_enters box_on boxed_flight (λ _. refl) (λ _ _ _. refl) (λ _ _. refl)

-- ---- flights that show nothing

pub waits_not : (k : ℕ) (f : Flight) → is_waiting f ≡ false → waiting_flight k f ≡ None
waits_not k f e = ap (λ (b : Bool). if b then Some (seen_as f k) else None) e

pub waits : (k : ℕ) (f : Flight) → is_waiting f ≡ true → waiting_flight k f ≡ Some (seen_as f k)
waits k f e = ap (λ (b : Bool). if b then Some (seen_as f k) else None) e

pub not_boxed : (k : ℕ) (f : Flight) → is_done f ≡ false → boxed_flight k f ≡ None
not_boxed k f e = ap (λ (b : Bool). option_map boxed (if b then Some (record { number = k + 1; pairs = f.pairs }) else None)) e

pub is_boxed : (k : ℕ) (f : Flight) → is_done f ≡ true → boxed_flight k f ≡ Some (record { number = k + 1; pairs = f.pairs })
is_boxed k f e = ap (λ (b : Bool). option_map boxed (if b then Some (record { number = k + 1; pairs = f.pairs }) else None)) e

pub not_done : (f : Flight) → f.pass ≤ f.packet.passes → is_done f ≡ false
not_done f le = grind (arith, nat_tests)

pub is_over : (f : Flight) → f.packet.passes < f.pass → is_done f ≡ true
is_over f lt = grind (arith, nat_tests)

pub waits_in_no_slot : (f : Flight) → 1 ≤ f.depth → is_waiting f ≡ false
waits_in_no_slot f deep = grind (arith, nat_tests)

pub waits_no_more : (f : Flight) → f.packet.passes < f.pass → is_waiting f ≡ false
waits_no_more f over = grind (arith, nat_tests)

pub waits_for_next : (f : Flight) → f.depth ≡ 0 → 2 ≤ f.pass → f.pass ≤ f.packet.passes → is_waiting f ≡ true
waits_for_next f out two le = grind (arith, nat_tests)
