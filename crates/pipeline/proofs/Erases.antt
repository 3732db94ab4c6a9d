-- Everything is lost, and what stands then.
use Rattle.std.proofs.Common.{◌≡◌, ℕ, zero, suc, ◌<◌, pos, List, [], ◌∷◌, length, map, replicate, get_or, Option, Some, None, refl, sym, ap, ap₂, subst, ◌∙◌, arith}
use Rattle.std.proofs.lemmas.List.{length-map, length-replicate}
use Rattle.txn_model.specs.Places.{Places}
use Rattle.stage_layout.specs.declared.shape.Shape.{Shape}
use Rattle.register_stage.specs.Registers.{Registers}
use Rattle.pipeline_locks.specs.Holders.{Holders}
use Rattle.pipeline.specs.Keeps.{AreStages, AreSeated}
use Rattle.pipeline.specs.Numbers.{numbers_of}
use Rattle.pipeline.specs.Plain.{PlainPipeline, PlainFlight}
use Rattle.pipeline.specs.Rows.{erased, idle_pipeline}
use Rattle.pipeline.specs.Seating.{IsFree, AreFresh, AreEmpty, AreVacant, vacated}
use Rattle.pipeline.specs.Seats.{no_seat, seat_at, stage_at, number_in, slotted, waiting_seat, boxed_seat, cleared}
use Rattle.pipeline.specs.declared.seat.Seat.{Seat}
use Rattle.pipeline.specs.declared.seat.Spot.TheVariants.{Vacant, AtPort, InSlot}
use Rattle.pipeline.proofs.Registers.{cleared_numbers}
use Rattle.pipeline.proofs.Restores.{fresh_numbers}
use Rattle.pipeline.proofs.Views.{view, at_none, same_parts}

-- ---- lists of one item

map_constant : {A B : Type 0} (f : A → B) (l : List A) (d : A) (v : B) (n : ℕ) → length l ≡ n → ((x : ℕ) → x < length l → f (get_or l x d) ≡ v) → map f l ≡ replicate n v
map_constant f [] d v zero size h = refl
map_constant f [] d v (suc n) size h = absurd (omega (arith, size))
map_constant f (a ∷ l) d v zero size h = absurd (omega (arith, size))
map_constant {A} {B} f (a ∷ l) d v (suc n) size h =
    ap₂ (λ (b : B) (r : List B). b ∷ r) (h 0 (omega arith)) (map_constant f l d v n (omega (arith, size)) (λ x lt. h (suc x) (omega (arith, lt))))

-- ---- nobody is anywhere

pub vacant_seated : (shape : Shape) (slots : List (Option ℕ)) (seats : List Seat) (clients : ℕ) → AreEmpty shape.stages slots → AreVacant clients seats → AreSeated shape slots seats
vacant_seated shape slots seats clients empty free = record {
  count = empty.size;
  slot = λ x c e. let no : None ≡ Some c = sym (empty.each x) ∙ e in absurd cc;
  seat = λ c lt.
      let is = free.each c (omega (arith, lt, free.count)) in
      record {
        ops_room = is.room.ops;
        pairs_room = is.room.pairs;
        waits = λ e. let no : Vacant ≡ AtPort = sym is.spot ∙ e in cc;
        stands = λ x e. let no : Vacant ≡ InSlot x = sym is.spot ∙ e in cc;
      };
}

-- what is seen then
pub vacant_shown : (shape : Shape) (registers : List Registers) (slots : List (Option ℕ)) (seats : List Seat) (next clients : ℕ) → AreEmpty shape.stages slots → AreVacant clients seats
    → view shape registers slots seats (None ∷ None ∷ []) next ≡ idle_pipeline shape (numbers_of shape (number_in registers)) clients next
vacant_shown shape registers slots seats next clients empty free =
    same_parts _ _ (record {
      shape = refl;
      registers = refl;
      slots = map_constant (slotted seats) slots None None shape.stages empty.size (λ x lt. ap (slotted seats) (empty.each x));
      waiting = map_constant waiting_seat seats no_seat None clients free.count (λ c lt. (at_none (seat_at seats c) (free.each c (omega (arith, lt, free.count))).spot).0);
      boxes = map_constant boxed_seat seats no_seat None clients free.count (λ c lt. (at_none (seat_at seats c) (free.each c (omega (arith, lt, free.count))).spot).1);
      halves = refl;
      next = refl;
    })

-- ---- erasing

pub all_vacated : (shape : Shape) (slots : List (Option ℕ)) (old now : List Seat) → AreSeated shape slots old → length now ≡ length old → ((c : ℕ) → c < length old → seat_at now c ≡ vacated (seat_at old c)) → AreVacant (length old) now
all_vacated shape slots old now had size is = record {
  count = size;
  each = λ c lt.
      let was = had.seat c lt in
      let P : Seat → Type 0 = λ s. IsFree s in
      subst P (sym (is c lt)) (record { spot = refl; room = record { ops = was.ops_room; pairs = was.pairs_room } });
}

pub erased_shown : (shape : Shape) (registers now_registers : List Registers) (slots now_slots : List (Option ℕ)) (seats now : List Seat) (halves now_halves : Holders) (next : ℕ) → AreStages shape registers
    → AreVacant (length seats) now → AreEmpty shape.stages now_slots → now_halves ≡ None ∷ None ∷ []
    → ((x : ℕ) → x < length registers → stage_at now_registers x ≡ cleared (stage_at registers x))
    → view shape now_registers now_slots now now_halves 1 ≡ erased (view shape registers slots seats halves next)
erased_shown shape registers now_registers slots now_slots seats now halves now_halves next stood free empty freed is =
    ap (λ (h : Holders). view shape now_registers now_slots now h 1) freed
    ∙ vacant_shown shape now_registers now_slots now 1 (length seats) empty free
    ∙ ap (λ (m : Places). idle_pipeline shape m (length seats) 1) (cleared_numbers shape registers now_registers stood is)
    ∙ ap (λ (k : ℕ). idle_pipeline shape (numbers_of shape (λ _. pos 0)) k 1) (sym (length-map seats waiting_seat))

-- ---- a pipeline that was just made

pub idle_is : (shape : Shape) (registers : List Registers) (slots : List (Option ℕ)) (seats : List Seat) (halves : Holders) (clients : ℕ) → AreFresh shape shape.stages registers → AreEmpty shape.stages slots → AreVacant clients seats
    → halves ≡ None ∷ None ∷ [] → view shape registers slots seats halves 1 ≡ idle_pipeline shape (numbers_of shape (λ _. pos 0)) clients 1
idle_is shape registers slots seats halves clients fresh empty free freed =
    ap (λ (h : Holders). view shape registers slots seats h 1) freed
    ∙ vacant_shown shape registers slots seats 1 clients empty free
    ∙ ap (λ (m : Places). idle_pipeline shape m clients 1) (fresh_numbers shape registers fresh)

abbrev no_packet : Option PlainFlight
no_packet = None

-- it is erased
pub idle_erased : (p : PlainPipeline) (shape : Shape) (clients : ℕ) → p ≡ idle_pipeline shape (numbers_of shape (λ _. pos 0)) clients 1 → p ≡ erased p
idle_erased p shape clients e =
    e
    ∙ ap (λ (n : ℕ). idle_pipeline shape (numbers_of shape (λ _. pos 0)) n 1) (sym (length-replicate clients no_packet))
    ∙ sym (ap erased e)
