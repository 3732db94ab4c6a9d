-- An answer is dropped.
use Rattle.std.proofs.Common.{◌≡◌, ℕ, ◌<◌, ◌≤◌, List, length, map, set, get_or, Option, Some, None, IsSome, refl, sym, ap, subst, ◌∙◌}
use Rattle.std.proofs.lemmas.List.{get_or_default}
use Rattle.stage_layout.specs.declared.shape.Shape.{Shape}
use Rattle.switch_packet.specs.Packets.{room_of}
use Rattle.register_stage.specs.Registers.{Registers}
use Rattle.register_stage.specs.declared.flight.Flight.{Flight}
use Rattle.pipeline_locks.specs.Holders.{Holders}
use Rattle.pipeline.specs.Keeps.{AreSeated}
use Rattle.pipeline.specs.Rows.{dropped}
use Rattle.pipeline.specs.Seats.{no_seat, seat_at, boxed_seat}
use Rattle.pipeline.specs.declared.seat.Seat.{Seat}
use Rattle.pipeline.specs.declared.seat.Spot.TheVariants.{Vacant, AtPort, InSlot, InBox}
use Rattle.pipeline.proofs.Lists.{some_is}
use Rattle.pipeline.proofs.Seated.{others_same, reseated}
use Rattle.pipeline.proofs.Views.{view, boxed, boxed_there, elsewhere, slots_same, waiting_same, boxed_set, at_none, at_box, same_parts}

-- the client's seat has become vacant
pub record IsVacated (seats : List Seat) (c : ℕ) (seat : Seat) : Type 0 where
  pub there : c < length seats
  pub box : IsSome (get_or (map boxed_seat seats) c None)
  pub spot : seat.spot ≡ Vacant
  pub flight : seat.flight ≡ (seat_at seats c).flight

was_boxed : (seats : List Seat) (c : ℕ) → IsSome (get_or (map boxed_seat seats) c None) → (seat_at seats c).spot ≡ InBox
was_boxed seats c h = let o = some_is (get_or (map boxed_seat seats) c None) h in (boxed seats c o.0 o.1).spot

no_slot : (shape : Shape) (slots : List (Option ℕ)) (seats : List Seat) (c : ℕ) (seat : Seat) → AreSeated shape slots seats → IsVacated seats c seat → (y : ℕ) → get_or slots y None ≡ Some c → ⊥
no_slot shape slots seats c seat had v = elsewhere shape slots seats c (λ s. s ≡ InBox) had (was_boxed seats c v.box) (λ y e. cc)

pub vacated_keeps : (shape : Shape) (slots : List (Option ℕ)) (seats : List Seat) (c : ℕ) (seat : Seat) → AreSeated shape slots seats → IsVacated seats c seat → AreSeated shape slots (set seats c seat)
vacated_keeps shape slots seats c seat had v =
    let was = had.seat c v.there in
    reseated shape slots slots seats c seat had v.there (others_same c slots)
    (λ y e. absurd (no_slot shape slots seats c seat had v y e))
    (record {
      ops_room = subst (λ (f : Flight). 16 ≤ room_of f.packet.ops) (sym v.flight) was.ops_room;
      pairs_room = subst (λ (f : Flight). 16 ≤ room_of f.pairs) (sym v.flight) was.pairs_room;
      waits = λ e. let no : Vacant ≡ AtPort = sym v.spot ∙ e in cc;
      stands = λ x e. let no : Vacant ≡ InSlot x = sym v.spot ∙ e in cc;
    })

pub vacated_shown : (shape : Shape) (registers : List Registers) (slots : List (Option ℕ)) (seats : List Seat) (halves : Holders) (next c : ℕ) (seat : Seat) → AreSeated shape slots seats → IsVacated seats c seat
    → view shape registers slots (set seats c seat) halves next ≡ dropped (view shape registers slots seats halves next) c
vacated_shown shape registers slots seats halves next c seat had v =
    let was = was_boxed seats c v.box in
    same_parts _ _ (record {
      shape = refl;
      registers = refl;
      slots = slots_same seats slots c seat (no_slot shape slots seats c seat had v);
      waiting = waiting_same seats c seat ((at_none seat v.spot).0 ∙ sym (at_box (seat_at seats c) was).0);
      boxes = boxed_set seats c seat None (at_none seat v.spot).1;
      halves = refl;
      next = refl;
    })

-- from the seat as it was
pub vacated : (seats : List Seat) (c : ℕ) (old seat d : Seat) → old ≡ get_or seats c d → IsSome (get_or (map boxed_seat seats) c None) → seat.spot ≡ Vacant → seat.flight ≡ old.flight → IsVacated seats c seat
vacated seats c old seat d was box spot flight =
    let o = some_is (get_or (map boxed_seat seats) c None) box in
    let there = boxed_there seats c o.0 o.1 in
    record { there = there; box = box; spot = spot; flight = flight ∙ ap (λ (s : Seat). s.flight) (was ∙ get_or_default seats c d no_seat there) }
