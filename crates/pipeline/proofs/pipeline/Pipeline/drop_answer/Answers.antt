use Rattle.std.proofs.Common.{IsSome, refl, sym, ap, subst, ◌∙◌}
use Rattle.pipeline.specs.Plain.{PlainPipeline}
use Rattle.pipeline.specs.Rows.{box_of, dropped}
use Rattle.pipeline.specs.declared.seat.Seat.{Seat}
use Rattle.pipeline.specs.declared.seat.Spot.TheVariants.{Vacant}
use Rattle.pipeline.proofs.Drops.{IsVacated, vacated, vacated_keeps, vacated_shown}
use Rattle.pipeline.proofs.pipeline.Pipeline.drop_answer.Goals as goal

abbrev now_of : goal.After-self-1 → Seat
now_of c = record { spot = Vacant; flight = c.index_mut-seat.result.now.flight; due = c.index_mut-seat.result.now.due }

is_vacated : (c : goal.After-self-1) → IsVacated c.self.inside.seats.items c.args.client (now_of c)
is_vacated c =
    vacated c.self.inside.seats.items c.args.client c.index_mut-seat.result.now (now_of c) _ c.index_mut-seat.ensures.value
    (subst (λ (p : PlainPipeline). IsSome (box_of p c.args.client)) (sym c.self.view_is) c.requires) refl refl

pub invariant_of-self : goal.invariant_of-self
invariant_of-self c = record {
  stages = c.self.invariant.stages;
  seated = vacated_keeps c.self.inside.shape c.self.inside.slots.items c.self.inside.seats.items c.args.client (now_of c) c.self.invariant.seated (is_vacated c);
}

pub returns : goal.returns
returns c =
    vacated_shown c.self.inside.shape c.self.inside.stages.items c.self.inside.slots.items c.self.inside.seats.items c.self.inside.halves c.self.inside.next c.args.client (now_of c)
    c.self.invariant.seated (is_vacated c)
    ∙ ap (λ (p : PlainPipeline). dropped p c.args.client) c.self.view_is
