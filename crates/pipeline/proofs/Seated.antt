-- Slots and seats go on naming each other.
use Rattle.std.proofs.Common.{◌≡◌, ℕ, ◌<◌, List, length, set, get_or, Option, Some, None, inl, inr, refl, sym, ap, subst, ◌∙◌, arith, get_or-set_same, get_or-set_other}
use Rattle.std.proofs.lemmas.Bool.{cases_eq}
use Rattle.std.proofs.lemmas.List.{length-set}
use Rattle.stage_layout.specs.declared.shape.Shape.{Shape}
use Rattle.pipeline.specs.Keeps.{IsSeat, AreSeated}
use Rattle.pipeline.specs.Seats.{no_seat, seat_at}
use Rattle.pipeline.specs.declared.seat.Seat.{Seat}
use Rattle.pipeline.specs.declared.seat.Spot.TheVariants.{InSlot}

-- the slots of all other clients than c are as before
pub record OthersStay (c : ℕ) (slots now : List (Option ℕ)) : Type 0 where
  pub count : length now ≡ length slots
  pub from : (y d : ℕ) → (d ≡ c → ⊥) → get_or now y None ≡ Some d → get_or slots y None ≡ Some d
  pub to : (y d : ℕ) → (d ≡ c → ⊥) → get_or slots y None ≡ Some d → get_or now y None ≡ Some d

pub others_same : (c : ℕ) (slots : List (Option ℕ)) → OthersStay c slots slots
others_same c slots = record { count = refl; from = λ y d n e. e; to = λ y d n e. e }

pub others_trans : (c : ℕ) (a b d : List (Option ℕ)) → OthersStay c a b → OthersStay c b d → OthersStay c a d
others_trans c a b d f g = record { count = g.count ∙ f.count; from = λ y e n h. f.from y e n (g.from y e n h); to = λ y e n h. g.to y e n (f.to y e n h) }

-- a slot that nobody else has is given to nobody else
pub others_set : (c : ℕ) (slots : List (Option ℕ)) (x : ℕ) (o : Option ℕ) → x < length slots
    → ((d : ℕ) → get_or slots x None ≡ Some d → d ≡ c) → ((d : ℕ) → o ≡ Some d → d ≡ c) → OthersStay c slots (set slots x o)
others_set c slots x o within was now = record {
  count = length-set slots x o;
  from = λ y d n e. elim (cases_eq y x) [
    | inl same ↦ absurd (n (now d (sym (get_or-set_same slots x o None within) ∙ ap (λ (k : ℕ). get_or (set slots x o) k None) (sym same) ∙ e)))
    | inr other ↦ sym (get_or-set_other slots x y o None other) ∙ e
  ];
  to = λ y d n e. elim (cases_eq y x) [
    | inl same ↦ absurd (n (was d (ap (λ (k : ℕ). get_or slots k None) (sym same) ∙ e)))
    | inr other ↦ get_or-set_other slots x y o None other ∙ e
  ];
}

stays : (shape : Shape) (c d : ℕ) (slots now : List (Option ℕ)) (seat : Seat) → OthersStay c slots now → (d ≡ c → ⊥) → IsSeat shape slots d seat → IsSeat shape now d seat
stays shape c d slots now seat others n s = record {
  ops_room = s.ops_room;
  pairs_room = s.pairs_room;
  waits = s.waits;
  stands = λ x e. let was = s.stands x e in record { way = was.way; due = was.due; slot = others.to x d n was.slot };
}

-- a client has a new seat
pub reseated : (shape : Shape) (slots now : List (Option ℕ)) (seats : List Seat) (c : ℕ) (seat : Seat) → AreSeated shape slots seats → c < length seats → OthersStay c slots now
    → ((y : ℕ) → get_or now y None ≡ Some c → seat.spot ≡ InSlot y) → IsSeat shape now c seat → AreSeated shape now (set seats c seat)
reseated shape slots now seats c seat had there others spot is = record {
  count = others.count ∙ had.count;
  slot = λ x d e. elim (cases_eq d c) [
    | inl same ↦ record {
      there = omega (arith, there, same, length-set seats c seat);
      spot = ap (λ (k : ℕ). (seat_at (set seats c seat) k).spot) same ∙ ap (λ (s : Seat). s.spot) (get_or-set_same seats c seat no_seat there) ∙ spot x (e ∙ ap Some same);
    }
    | inr other ↦ let was = had.slot x d (others.from x d other e) in record {
      there = omega (arith, was.there, length-set seats c seat);
      spot = ap (λ (s : Seat). s.spot) (get_or-set_other seats c d seat no_seat other) ∙ was.spot;
    }
  ];
  seat = λ d lt. elim (cases_eq d c) [
    | inl same ↦
        let P : ℕ → Type 0 = λ k. IsSeat shape now k (seat_at (set seats c seat) k) in
        let Q : Seat → Type 0 = λ s. IsSeat shape now c s in
        subst P (sym same) (subst Q (sym (get_or-set_same seats c seat no_seat there)) is)
    | inr other ↦
        let Q : Seat → Type 0 = λ s. IsSeat shape now d s in
        subst Q (sym (get_or-set_other seats c d seat no_seat other)) (stays shape c d slots now (seat_at seats d) others other (had.seat d (omega (arith, lt, length-set seats c seat))))
  ];
}
