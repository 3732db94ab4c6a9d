-- A client gets a packet at the port, or an answer in its box.
use Rattle.std.proofs.Common.{◌≡◌, ℕ, ◌<◌, List, length, map, set, Option, Some, refl, sym, ap, subst, ◌∙◌, arith, IsTrue}
use Rattle.std.specs.List.{AllByRecursion}
use Rattle.std.proofs.lemmas.List.{length-map}
use Rattle.txn_model.specs.declared.pairs.Pair.{Pair}
use Rattle.stage_layout.specs.Shape.{has_place}
use Rattle.stage_layout.specs.declared.shape.Shape.{Shape}
use Rattle.switch_packet.specs.Packets.{PlainPacket, plain}
use Rattle.switch_packet.specs.Ranges.{Fits, IsPacket}
use Rattle.switch_model.specs.Flight.{zero_pair}
use Rattle.register_stage.specs.Registers.{Registers}
use Rattle.pipeline_locks.specs.Holders.{Holders}
use Rattle.pipeline.specs.Keeps.{IsOnItsWay, AreSeated}
use Rattle.pipeline.specs.Planned.{HasPlan, IsPosting}
use Rattle.pipeline.specs.Rows.{IsVacant, posted, posted_flight, given_answer}
use Rattle.pipeline.specs.Seating.{HasRoom}
use Rattle.pipeline.specs.Seats.{plain_flight, answer_in, waiting_seat}
use Rattle.pipeline.specs.declared.seat.Seat.{Seat}
use Rattle.pipeline.specs.declared.seat.Spot.TheVariants.{AtPort, InSlot, InBox}
use Rattle.pipeline.proofs.Seated.{others_same, reseated}
use Rattle.pipeline.proofs.Views.{view, waiting_is, boxed_is, in_no_slot, slots_same, waiting_set, waiting_same, boxed_set, boxed_same, at_port, at_box, same_parts}

-- the client of whom nothing is seen has a new seat that is in no slot
pub unslotted_keeps : (shape : Shape) (registers : List Registers) (slots : List (Option ℕ)) (seats : List Seat) (halves : Holders) (next c : ℕ) (seat : Seat) → AreSeated shape slots seats → c < length seats
    → IsVacant (view shape registers slots seats halves next) c → HasRoom seat → ((x : ℕ) → seat.spot ≡ InSlot x → ⊥) → (seat.spot ≡ AtPort → IsOnItsWay shape c seat.flight)
    → AreSeated shape slots (set seats c seat)
unslotted_keeps shape registers slots seats halves next c seat had there vacant room none way =
    reseated shape slots slots seats c seat had there (others_same c slots)
    (λ y e. absurd (in_no_slot shape registers slots seats halves next c had vacant.slots y e))
    (record { ops_room = room.ops; pairs_room = room.pairs; waits = way; stands = λ x e. absurd (none x e) })

-- ---- posting

-- the seat has this packet for its first pass
pub record IsPostedSeat (p : PlainPacket) (seat : Seat) : Type 0 where
  pub spot : seat.spot ≡ AtPort
  pub packet : plain seat.flight.packet ≡ p
  pub pairs : seat.flight.pairs.items ≡ map (λ op. zero_pair) seat.flight.packet.ops.items
  pub pass : seat.flight.pass ≡ 1
  pub number : seat.flight.number ≡ 0
  pub room : HasRoom seat

on_its_way : (shape : Shape) (c : ℕ) (p : PlainPacket) (seat : Seat) → IsPacket p → HasPlan shape p → p.client ≡ c → IsPostedSeat p seat → IsOnItsWay shape c seat.flight
on_its_way shape c p seat is planned own now =
    let fits = subst Fits (sym now.packet) is.fits in
    record {
      own = ap (λ (q : PlainPacket). q.client) now.packet ∙ own;
      fits = fits;
      places = subst (λ (q : PlainPacket). AllByRecursion (λ op. IsTrue (has_place shape op.place)) q.ops) (sym now.packet) planned.places;
      from_one = omega (arith, now.pass);
      to_last = omega (arith, now.pass, fits.passes.0);
      paired = ap length now.pairs ∙ length-map seat.flight.packet.ops.items (λ op. zero_pair);
    }

pub posted_keeps : (shape : Shape) (registers : List Registers) (slots : List (Option ℕ)) (seats : List Seat) (halves : Holders) (next c : ℕ) (bytes : List ℕ) (seat : Seat) → AreSeated shape slots seats
    → (posting : IsPosting (view shape registers slots seats halves next) c bytes) → IsPostedSeat posting.packet seat → AreSeated shape slots (set seats c seat)
posted_keeps shape registers slots seats halves next c bytes seat had posting now =
    unslotted_keeps shape registers slots seats halves next c seat had (subst (λ (n : ℕ). c < n) (length-map seats waiting_seat) posting.there) posting.vacant now.room
    (λ x e. let no : AtPort ≡ InSlot x = sym now.spot ∙ e in cc)
    (λ _. on_its_way shape c posting.packet seat posting.is_packet posting.planned posting.own now)

posted_is : (p : PlainPacket) (seat : Seat) → IsPostedSeat p seat → plain_flight seat.flight ≡ posted_flight p
posted_is p seat now =
    let pairs : seat.flight.pairs.items ≡ map (λ op. zero_pair) p.ops = now.pairs ∙ ap (λ (q : PlainPacket). map (λ op. zero_pair) q.ops) now.packet in
    λ i. record { packet = now.packet i; pairs = pairs i; pass = now.pass i; number = now.number i }

pub posted_shown : (shape : Shape) (registers : List Registers) (slots : List (Option ℕ)) (seats : List Seat) (halves : Holders) (next c : ℕ) (p : PlainPacket) (seat : Seat) → AreSeated shape slots seats
    → IsVacant (view shape registers slots seats halves next) c → IsPostedSeat p seat
    → view shape registers slots (set seats c seat) halves next ≡ posted (view shape registers slots seats halves next) c p
posted_shown shape registers slots seats halves next c p seat had vacant now =
    same_parts _ _ (record {
      shape = refl;
      registers = refl;
      slots = slots_same seats slots c seat (in_no_slot shape registers slots seats halves next c had vacant.slots);
      waiting = waiting_set seats c seat (Some (posted_flight p)) ((at_port seat now.spot).0 ∙ ap Some (posted_is p seat now));
      boxes = boxed_same seats c seat ((at_port seat now.spot).1 ∙ sym (sym (boxed_is seats c) ∙ vacant.box));
      halves = refl;
      next = refl;
    })

-- ---- an answer

-- the seat has this answer
pub record IsGivenSeat (number : ℕ) (pairs : List Pair) (seat : Seat) : Type 0 where
  pub spot : seat.spot ≡ InBox
  pub number_is : seat.flight.number ≡ number
  pub pairs_are : seat.flight.pairs.items ≡ pairs
  pub room : HasRoom seat

pub given_keeps : (shape : Shape) (registers : List Registers) (slots : List (Option ℕ)) (seats : List Seat) (halves : Holders) (next c number : ℕ) (pairs : List Pair) (seat : Seat) → AreSeated shape slots seats
    → c < length seats → IsVacant (view shape registers slots seats halves next) c → IsGivenSeat number pairs seat → AreSeated shape slots (set seats c seat)
given_keeps shape registers slots seats halves next c number pairs seat had there vacant now =
    unslotted_keeps shape registers slots seats halves next c seat had there vacant now.room
    (λ x e. let no : InBox ≡ InSlot x = sym now.spot ∙ e in cc)
    (λ e. let no : InBox ≡ AtPort = sym now.spot ∙ e in cc)

answer_is : (number : ℕ) (pairs : List Pair) (seat : Seat) → IsGivenSeat number pairs seat → answer_in seat.flight ≡ record { number = number; pairs = pairs }
answer_is number pairs seat now = λ i. record { number = now.number_is i; pairs = now.pairs_are i }

pub given_shown : (shape : Shape) (registers : List Registers) (slots : List (Option ℕ)) (seats : List Seat) (halves : Holders) (next c number : ℕ) (pairs : List Pair) (seat : Seat) → AreSeated shape slots seats
    → IsVacant (view shape registers slots seats halves next) c → IsGivenSeat number pairs seat
    → view shape registers slots (set seats c seat) halves next ≡ given_answer (view shape registers slots seats halves next) c number pairs
given_shown shape registers slots seats halves next c number pairs seat had vacant now =
    same_parts _ _ (record {
      shape = refl;
      registers = refl;
      slots = slots_same seats slots c seat (in_no_slot shape registers slots seats halves next c had vacant.slots);
      waiting = waiting_same seats c seat ((at_box seat now.spot).0 ∙ sym (sym (waiting_is seats c) ∙ vacant.waiting));
      boxes = boxed_set seats c seat (Some (record { number = number; pairs = pairs })) ((at_box seat now.spot).1 ∙ ap Some (answer_is number pairs seat now));
      halves = refl;
      next = refl;
    })
