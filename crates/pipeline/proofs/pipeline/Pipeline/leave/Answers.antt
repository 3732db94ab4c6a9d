use Rattle.std.proofs.Common.{◌≡◌, ◌<◌, ◌≤◌, ◌+◌, ◌==◌, false, length, None, IsTrue, refl, sym, ap, subst, ◌∙◌, arith}
use Rattle.std.proofs.lemmas.List.{get_or_default}
use Rattle.pipeline.specs.Plain.{PlainPipeline, PlainFlight}
use Rattle.pipeline.specs.Rows.{may_leave, gone_on, with_slot}
use Rattle.pipeline.specs.Seats.{no_seat}
use Rattle.pipeline.specs.declared.seat.Seat.{Seat}
use Rattle.pipeline.specs.declared.seat.Spot.TheVariants.{InSlot}
use Rattle.pipeline.proofs.Executes.{stands_seen, stands_as}
use Rattle.pipeline.proofs.Leaves.{IsThrough, through, through_keeps, through_shown, IsNext, is_next, next_keeps, next_shown, same_test, other_test}
use Rattle.pipeline.proofs.Views.{Stands}
use Rattle.pipeline.proofs.pipeline.Pipeline.leave.Goals as goal

pub index_mut-seat-requires : goal.index_mut-seat-requires
index_mut-seat-requires c =
    let st = stands_seen c.self.inside.shape c.self.inside.stages.items c.self.inside.slots.items c.self.inside.seats.items c.self.inside.halves c.self.inside.next c.args.stage c.args.client c.args.self.now c.self.invariant.seated c.self.view_is c.requires.there in
    let there = st.1.there in
    omega (arith, there)

pub come_through-requires : goal.come_through-requires
come_through-requires c =
    let st = stands_seen c.self.inside.shape c.self.inside.stages.items c.self.inside.slots.items c.self.inside.seats.items c.self.inside.halves c.self.inside.next c.args.stage c.args.client c.args.self.now c.self.invariant.seated c.self.view_is c.requires.there in
    let same = c.index_mut-seat.ensures.value ∙ get_or_default c.self.inside.seats.items c.args.client _ no_seat st.1.there in
    subst (λ (s : Seat). s.flight.pass ≤ s.flight.packet.passes) (sym same) st.1.standing.way.to_last

is_through : (c : goal.After-self-then-stage-self-1) → c.args.client < length c.self.inside.seats.items → IsThrough c.self.inside.seats.items c.args.client c.come_through.new.self
is_through c there = through c.self.inside.seats.items c.args.client c.index_mut-seat.result.now _ c.come_through.new.self there c.index_mut-seat.ensures.value c.come_through.ensures.spot c.come_through.ensures.flight

pub invariant_of-self : goal.invariant_of-self
invariant_of-self c =
    let st = stands_seen c.self.inside.shape c.self.inside.stages.items c.self.inside.slots.items c.self.inside.seats.items c.self.inside.halves c.self.inside.next c.args.stage c.args.client c.args.self.now c.self.invariant.seated c.self.view_is c.requires.there in
    record {
      stages = c.self.invariant.stages;
      seated = through_keeps c.self.inside.shape c.self.inside.slots.items c.self.inside.seats.items c.args.stage c.args.client st.0 c.come_through.new.self c.self.invariant.seated st.1 (is_through c st.1.there);
    }

pub returns-then-stage-self : goal.returns-then-stage-self
returns-then-stage-self c flight there =
    let st = stands_as c.self.inside.shape c.self.inside.stages.items c.self.inside.slots.items c.self.inside.seats.items c.self.inside.halves c.self.inside.next c.args.stage c.args.client c.args.self.now flight c.self.invariant.seated c.self.view_is c.requires.there there in
    through_shown c.self.inside.shape c.self.inside.stages.items c.self.inside.slots.items c.self.inside.seats.items c.self.inside.halves c.self.inside.next c.args.stage c.args.client flight c.come_through.new.self
    c.self.invariant.seated st (is_through c st.there) (same_test (c.args.stage + 1) c.self.inside.shape.stages c.if-stage-self.true)
    ∙ ap (λ (p : PlainPipeline). gone_on (with_slot p c.args.stage None) c.args.stage flight) c.self.view_is

abbrev seat_now : goal.After-self-else-stage-self-2-1 → Seat
seat_now c = record { spot = InSlot (c.args.stage + 1); flight = c.index_mut-seat.result.now.flight; due = c.index_mut-seat.result.now.due }

more : (c : goal.After-self-else-stage-self-2-1) → c.args.stage + 1 == c.self.inside.shape.stages ≡ false
more c = other_test (c.args.stage + 1) c.self.inside.shape.stages c.if-stage-self.false

next_is : (c : goal.After-self-else-stage-self-2-1) (f : PlainFlight) → Stands c.self.inside.shape c.self.inside.slots.items c.self.inside.seats.items c.args.stage c.args.client f
    → IsNext c.self.inside.slots.items c.self.inside.seats.items c.args.stage c.args.client (seat_now c)
next_is c f st =
    is_next c.self.inside.shape c.self.inside.stages.items c.self.inside.slots.items c.self.inside.seats.items c.self.inside.halves c.self.inside.next c.args.stage c.args.client f c.index_mut-seat.result.now _ (seat_now c)
    c.self.invariant.seated st c.index_mut-seat.ensures.value (more c) (subst (λ (p : PlainPipeline). IsTrue (may_leave p c.args.stage)) (sym c.self.view_is) c.requires.may) refl refl refl

pub invariant_of-self-else-stage-self : goal.invariant_of-self-else-stage-self
invariant_of-self-else-stage-self c =
    let st = stands_seen c.self.inside.shape c.self.inside.stages.items c.self.inside.slots.items c.self.inside.seats.items c.self.inside.halves c.self.inside.next c.args.stage c.args.client c.args.self.now c.self.invariant.seated c.self.view_is c.requires.there in
    record {
      stages = c.self.invariant.stages;
      seated = next_keeps c.self.inside.shape c.self.inside.slots.items c.self.inside.seats.items c.args.stage c.args.client st.0 (seat_now c) c.self.invariant.seated st.1 (next_is c st.0 st.1);
    }

pub returns-else-stage-self : goal.returns-else-stage-self
returns-else-stage-self c flight there =
    let st = stands_as c.self.inside.shape c.self.inside.stages.items c.self.inside.slots.items c.self.inside.seats.items c.self.inside.halves c.self.inside.next c.args.stage c.args.client c.args.self.now flight c.self.invariant.seated c.self.view_is c.requires.there there in
    next_shown c.self.inside.shape c.self.inside.stages.items c.self.inside.slots.items c.self.inside.seats.items c.self.inside.halves c.self.inside.next c.args.stage c.args.client flight (seat_now c)
    c.self.invariant.seated st (next_is c flight st) (more c)
    ∙ ap (λ (p : PlainPipeline). gone_on (with_slot p c.args.stage None) c.args.stage flight) c.self.view_is
