use Rattle.std.proofs.Common.{◌≡◌, ℕ, ◌<◌, List, length, take, ◌++◌, drop, Option, sym, ap, ap₂, subst, ◌∙◌}
use Rattle.register_stage.specs.Registers.{Registers}
use Rattle.pipeline.specs.Keeps.{AreStages, AreSeated}
use Rattle.pipeline.specs.Rows.{erased}
use Rattle.pipeline.specs.Seating.{AreEmpty, AreVacant, vacated}
use Rattle.pipeline.specs.Seats.{seat_at, stage_at, cleared}
use Rattle.pipeline.specs.declared.seat.Seat.{Seat}
use Rattle.pipeline.proofs.Erases.{all_vacated, vacant_seated, erased_shown}
use Rattle.pipeline.proofs.Registers.{cleared_stages, handed_back}
use Rattle.pipeline.proofs.Views.{view}
use Rattle.pipeline.proofs.pipeline.Pipeline.erase.Goals as goal

stages_back : (c : goal.After-self-5-1) → take c.self.inside.stages.len (c.clear_stages.new.stages ++ drop (length c.clear_stages.new.stages) c.self.inside.stages.items) ≡ c.clear_stages.new.stages
stages_back c = handed_back c.self.inside.stages.len c.clear_stages.new.stages c.self.inside.stages.items c.self.inside.stages.ok.0 (c.clear_stages.auto.stages ∙ ap length c.as_mut_slice.ensures.value)

seats_back : (c : goal.After-self-5-1) → take c.self.inside.seats.len (c.vacate_seats.new.seats ++ drop (length c.vacate_seats.new.seats) c.self.inside.seats.items) ≡ c.vacate_seats.new.seats
seats_back c = handed_back c.self.inside.seats.len c.vacate_seats.new.seats c.self.inside.seats.items c.self.inside.seats.ok.0 (c.vacate_seats.auto.seats ∙ ap length c.as_mut_slice-3.ensures.value)

are_cleared : (c : goal.After-self-5-1) → (x : ℕ) → x < length c.self.inside.stages.items → stage_at c.clear_stages.new.stages x ≡ cleared (stage_at c.self.inside.stages.items x)
are_cleared c x lt =
    let same = c.as_mut_slice.ensures.value in
    c.clear_stages.ensures x (subst (λ (l : List Registers). x < length l) (sym same) lt) ∙ ap (λ (l : List Registers). cleared (stage_at l x)) same

are_vacant : (c : goal.After-self-5-1) → AreVacant (length c.self.inside.seats.items) c.vacate_seats.new.seats
are_vacant c =
    let same = c.as_mut_slice-3.ensures.value in
    all_vacated c.self.inside.shape c.self.inside.slots.items c.self.inside.seats.items c.vacate_seats.new.seats c.self.invariant.seated (c.vacate_seats.auto.seats ∙ ap length same)
    (λ k lt. c.vacate_seats.ensures k (subst (λ (l : List Seat). k < length l) (sym same) lt) ∙ ap (λ (l : List Seat). vacated (seat_at l k)) same)

slots_back : (c : goal.After-self-5-1) → take c.self.inside.slots.len (c.clear_slots.new.slots ++ drop (length c.clear_slots.new.slots) c.self.inside.slots.items) ≡ c.clear_slots.new.slots
slots_back c = handed_back c.self.inside.slots.len c.clear_slots.new.slots c.self.inside.slots.items c.self.inside.slots.ok.0 (c.clear_slots.auto.slots ∙ ap length c.as_mut_slice-2.ensures.value)

slot_count : (c : goal.After-self-5-1) → length c.clear_slots.new.slots ≡ c.self.inside.shape.stages
slot_count c = c.clear_slots.auto.slots ∙ ap length c.as_mut_slice-2.ensures.value ∙ c.self.invariant.seated.count

are_empty : (c : goal.After-self-5-1) → AreEmpty c.self.inside.shape.stages c.clear_slots.new.slots
are_empty c = record { size = slot_count c; each = c.clear_slots.ensures }

pub invariant_of-self : goal.invariant_of-self
invariant_of-self c =
    let shape = c.self.inside.shape in
    let stages = cleared_stages shape c.self.inside.stages.items c.clear_stages.new.stages c.self.invariant.stages (c.clear_stages.auto.stages ∙ ap length c.as_mut_slice.ensures.value) (are_cleared c) in
    let seated = vacant_seated shape c.clear_slots.new.slots c.vacate_seats.new.seats (length c.self.inside.seats.items) (are_empty c) (are_vacant c) in
    record {
      stages = subst (AreStages shape) (sym (stages_back c)) stages;
      seated = subst (λ (l : List (Option ℕ)). AreSeated shape l (take c.self.inside.seats.len (c.vacate_seats.new.seats ++ drop (length c.vacate_seats.new.seats) c.self.inside.seats.items))) (sym (slots_back c))
          (subst (AreSeated shape c.clear_slots.new.slots) (sym (seats_back c)) seated);
    }

pub returns : goal.returns
returns c =
    let shape = c.self.inside.shape in
    ap₂ (λ (a : List Registers) (b : List Seat). view shape a (take c.self.inside.slots.len (c.clear_slots.new.slots ++ drop (length c.clear_slots.new.slots) c.self.inside.slots.items)) b c.free-self-inside.result 1) (stages_back c) (seats_back c)
    ∙ ap (λ (l : List (Option ℕ)). view shape c.clear_stages.new.stages l c.vacate_seats.new.seats c.free-self-inside.result 1) (slots_back c)
    ∙ erased_shown shape c.self.inside.stages.items c.clear_stages.new.stages c.self.inside.slots.items c.clear_slots.new.slots c.self.inside.seats.items c.vacate_seats.new.seats c.self.inside.halves
    c.free-self-inside.result c.self.inside.next c.self.invariant.stages (are_vacant c) (are_empty c) c.free-self-inside.ensures
    (are_cleared c)
    ∙ ap erased c.self.view_is
