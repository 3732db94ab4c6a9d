use Rattle.std.proofs.Common.{◌≡◌, nat_le, IsSome, IsTrue, if◌then◌else◌, sym, ap, subst, ◌∙◌}
use Rattle.pipeline_locks.specs.Entry.{IsTried}
use Rattle.pipeline_locks.specs.Holders.{first_held, given}
use Rattle.pipeline_locks.specs.declared.halves.Admission.{Admission}
use Rattle.pipeline_locks.specs.declared.halves.Admission.TheVariants.{Entered}
use Rattle.pipeline.specs.Plain.{PlainPipeline, PlainFlight}
use Rattle.pipeline.specs.Rows.{waiting_of, has_free_first_slot, first_entered}
use Rattle.pipeline.specs.Seats.{plain_flight, seat_at}
use Rattle.pipeline.proofs.Enters.{IsEntering, entering, entering_keeps, waiting_stages, first_shown}
use Rattle.pipeline.proofs.Views.{Waits, waits, was_is}
use Rattle.pipeline.proofs.pipeline.Pipeline.enter_first.Goals as goal

pub enter-requires : goal.enter-requires
enter-requires c =
    waiting_stages c.self.inside.shape c.self.inside.slots.items c.self.inside.seats.items c.args.client c.index_mut-seat.result.now _ c.self.invariant.seated c.index_mut-seat.ensures.value
    (subst (λ (p : PlainPipeline). IsSome (waiting_of p c.args.client)) (sym c.self.view_is) c.requires.waits)

is_entering : (c : goal.After-self-4-1) → IsEntering c.self.inside.shape c.self.inside.slots.items c.self.inside.seats.items c.args.client c.self.inside.next c.enter.new.self
is_entering c =
    entering c.self.inside.shape c.self.inside.stages.items c.self.inside.slots.items c.self.inside.seats.items c.self.inside.halves c.self.inside.next c.args.client c.self.inside.next
    c.index_mut-seat.result.now c.enter.new.self _ c.index_mut-seat.ensures.value
    (subst (λ (p : PlainPipeline). IsSome (waiting_of p c.args.client)) (sym c.self.view_is) c.requires.waits)
    (subst (λ (p : PlainPipeline). IsTrue (has_free_first_slot p)) (sym c.self.view_is) c.requires.free)
    c.enter.ensures.spot c.enter.ensures.flight c.enter.ensures.due

pub invariant_of-self-2 : goal.invariant_of-self-2
invariant_of-self-2 c = record {
  stages = c.self.invariant.stages;
  seated = entering_keeps c.self.inside.shape c.self.inside.slots.items c.self.inside.seats.items c.args.client c.self.inside.next c.enter.new.self c.self.invariant.seated (is_entering c);
}

pub returns : goal.returns
returns c flight waiting =
    let seats = c.self.inside.seats.items in
    let halves = c.self.inside.halves in
    let w : Waits (seat_at seats c.args.client) flight = waits seats c.args.client flight (ap (λ (p : PlainPipeline). waiting_of p c.args.client) c.self.view_is ∙ waiting) in
    let old : plain_flight c.index_mut-seat.result.now.flight ≡ flight = was_is c.self.inside.seats.items c.args.client c.index_mut-seat.result.now _ flight c.index_mut-seat.ensures.value (is_entering c).there w.flight in
    let tried : IsTried halves c.try_enter.new.self c.index_mut-seat.result.now.flight.packet.halves c.index_mut-seat.result.now.flight.packet.passes c.args.client Entered =
    subst (λ (a : Admission). IsTried halves c.try_enter.new.self c.index_mut-seat.result.now.flight.packet.halves c.index_mut-seat.result.now.flight.packet.passes c.args.client a) c.in_default.is c.try_enter.ensures in
    ap (λ (p : PlainPipeline). first_entered p c.args.client flight) (sym c.self.view_is)
    ∙ first_shown c.self.inside.shape c.self.inside.stages.items c.self.inside.slots.items seats halves c.try_enter.new.self c.self.inside.next c.args.client c.enter.new.self flight
    c.self.invariant.seated (is_entering c) w.flight
    (ap (λ (f : PlainFlight). first_held f.packet.halves halves) (sym old) ∙ tried.0)
    (tried.1 ∙ ap (λ (f : PlainFlight). if nat_le 2 f.packet.passes then given f.packet.halves c.args.client halves else halves) old)
