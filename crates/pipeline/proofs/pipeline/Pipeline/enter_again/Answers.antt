use Rattle.std.proofs.Common.{◌≡◌, ℕ, ◌==◌, IsSome, IsTrue, if◌then◌else◌, sym, ap, subst, ◌∙◌}
use Rattle.pipeline_locks.specs.Holders.{without}
use Rattle.pipeline.specs.Plain.{PlainPipeline, PlainFlight}
use Rattle.pipeline.specs.Rows.{waiting_of, has_free_first_slot, later_entry}
use Rattle.pipeline.specs.Seats.{plain_flight, seat_at}
use Rattle.pipeline.proofs.Enters.{IsEntering, entering, entering_keeps, waiting_stages, later_shown}
use Rattle.pipeline.proofs.Views.{Waits, waits, was_is}
use Rattle.pipeline.proofs.pipeline.Pipeline.enter_again.Goals as goal

pub enter-requires : goal.enter-requires
enter-requires c =
    waiting_stages c.self.inside.shape c.self.inside.slots.items c.self.inside.seats.items c.args.client c.index_mut-seat.result.now _ c.self.invariant.seated c.index_mut-seat.ensures.value
    (subst (λ (p : PlainPipeline). IsSome (waiting_of p c.args.client)) (sym c.self.view_is) c.requires.waits)

is_entering : (c : goal.After-self-2-1) → IsEntering c.self.inside.shape c.self.inside.slots.items c.self.inside.seats.items c.args.client c.index_mut-seat.result.now.flight.number c.enter.new.self
is_entering c =
    entering c.self.inside.shape c.self.inside.stages.items c.self.inside.slots.items c.self.inside.seats.items c.self.inside.halves c.self.inside.next c.args.client c.index_mut-seat.result.now.flight.number
    c.index_mut-seat.result.now c.enter.new.self _ c.index_mut-seat.ensures.value
    (subst (λ (p : PlainPipeline). IsSome (waiting_of p c.args.client)) (sym c.self.view_is) c.requires.waits)
    (subst (λ (p : PlainPipeline). IsTrue (has_free_first_slot p)) (sym c.self.view_is) c.requires.free)
    c.enter.ensures.spot c.enter.ensures.flight c.enter.ensures.due

pub invariant_of-self : goal.invariant_of-self
invariant_of-self c = record {
  stages = c.self.invariant.stages;
  seated = entering_keeps c.self.inside.shape c.self.inside.slots.items c.self.inside.seats.items c.args.client c.index_mut-seat.result.now.flight.number c.enter.new.self c.self.invariant.seated (is_entering c);
}

pub returns : goal.returns
returns c flight waiting =
    let seats = c.self.inside.seats.items in
    let halves = c.self.inside.halves in
    let w : Waits (seat_at seats c.args.client) flight = waits seats c.args.client flight (ap (λ (p : PlainPipeline). waiting_of p c.args.client) c.self.view_is ∙ waiting) in
    let old : plain_flight c.index_mut-seat.result.now.flight ≡ flight = was_is c.self.inside.seats.items c.args.client c.index_mut-seat.result.now _ flight c.index_mut-seat.ensures.value (is_entering c).there w.flight in
    let e : IsEntering c.self.inside.shape c.self.inside.slots.items seats c.args.client flight.number c.enter.new.self =
    subst (λ (n : ℕ). IsEntering c.self.inside.shape c.self.inside.slots.items seats c.args.client n c.enter.new.self) (ap (λ (f : PlainFlight). f.number) old) (is_entering c) in
    later_shown c.self.inside.shape c.self.inside.stages.items c.self.inside.slots.items seats halves c.leave_halves.new.halves c.self.inside.next c.args.client c.enter.new.self flight
    c.self.invariant.seated e w.flight
    (c.leave_halves.ensures ∙ ap (λ (f : PlainFlight). if f.pass == f.packet.passes then without c.args.client halves else halves) old)
    ∙ ap (λ (p : PlainPipeline). later_entry p c.args.client flight) c.self.view_is
