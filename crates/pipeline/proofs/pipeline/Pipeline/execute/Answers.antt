use Rattle.std.proofs.Common.{◌≡◌, ◌<◌, false, List, set, get_or, refl, sym, ap, ◌∙◌, arith}
use Rattle.std.proofs.lemmas.List.{get_or_default}
use Rattle.register_stage.specs.Registers.{Registers}
use Rattle.pipeline.specs.Plain.{PlainPipeline, PlainFlight}
use Rattle.pipeline.specs.Seats.{no_seat, seat_at, stage_at}
use Rattle.pipeline.specs.Walks.{with_executed}
use Rattle.pipeline.specs.declared.seat.Seat.{Seat}
use Rattle.pipeline.proofs.Executes.{stands_seen, stands_as, stage_of, visit_is, done_at, IsExecutedSeat, executed_seat, executed_keeps, executed_shown, unmarked_shown, visited_numbers, visited_stages}
use Rattle.pipeline.proofs.Lists.{set_itself}
use Rattle.pipeline.proofs.Views.{view, Stands}
use Rattle.pipeline.proofs.pipeline.Pipeline.execute.Goals as goal

pub index_mut-seat-requires : goal.index_mut-seat-requires
index_mut-seat-requires c =
    let st = stands_seen c.self.inside.shape c.self.inside.stages.items c.self.inside.slots.items c.self.inside.seats.items c.self.inside.halves c.self.inside.next c.args.stage c.args.client c.args.self.now c.self.invariant.seated c.self.view_is c.requires in
    let there = st.1.there in
    omega (arith, there)

pub visit-requires : goal.visit-requires
visit-requires c =
    let st = stands_seen c.self.inside.shape c.self.inside.stages.items c.self.inside.slots.items c.self.inside.seats.items c.self.inside.halves c.self.inside.next c.args.stage c.args.client c.args.self.now c.self.invariant.seated c.self.view_is c.requires in
    let lt = stage_of c.self.inside.shape c.self.inside.slots.items c.self.inside.seats.items c.args.stage c.args.client st.0 c.self.invariant.seated st.1 in
    visit_is c.self.inside.shape c.self.inside.stages.items c.self.inside.slots.items c.self.inside.seats.items c.args.stage c.args.client st.0 c.index_mut-seat.result.now _ c.index_mut.result.now _
    c.self.invariant.stages lt st.1 c.index_mut-seat.ensures.value c.index_mut.ensures.value

abbrev seat_now : goal.After-self-then-is_due-1 → Seat
seat_now c = record { spot = c.index_mut-seat.result.now.spot; flight = c.visit.new.flight; due = c.index_mut-seat.result.now.due }

lt_of : (c : goal.After-self-then-is_due-1) → c.args.stage < c.self.inside.shape.stages
lt_of c =
    let st = stands_seen c.self.inside.shape c.self.inside.stages.items c.self.inside.slots.items c.self.inside.seats.items c.self.inside.halves c.self.inside.next c.args.stage c.args.client c.args.self.now c.self.invariant.seated c.self.view_is c.requires in
    stage_of c.self.inside.shape c.self.inside.slots.items c.self.inside.seats.items c.args.stage c.args.client st.0 c.self.invariant.seated st.1

seat_is : (c : goal.After-self-then-is_due-1) (f : PlainFlight) → Stands c.self.inside.shape c.self.inside.slots.items c.self.inside.seats.items c.args.stage c.args.client f
    → IsExecutedSeat c.self.inside.stages.items c.self.inside.seats.items c.args.stage c.args.client (seat_now c)
seat_is c f st =
    executed_seat c.self.inside.shape c.self.inside.stages.items c.self.inside.slots.items c.self.inside.seats.items c.args.stage c.args.client f c.index_mut-seat.result.now _ c.index_mut.result.now _ c.visit.new.flight
    (seat_now c) c.self.invariant.stages (lt_of c) st c.index_mut-seat.ensures.value c.index_mut.ensures.value c.visit.ensures.kept c.visit.ensures.pairs c.visit.ensures.spare refl

stage_is : (c : goal.After-self-then-is_due-1) (f : PlainFlight) → Stands c.self.inside.shape c.self.inside.slots.items c.self.inside.seats.items c.args.stage c.args.client f
    → c.visit.new.self ≡ record { stage = (stage_at c.self.inside.stages.items c.args.stage).stage; numbers = (done_at c.self.inside.stages.items c.args.stage (seat_at c.self.inside.seats.items c.args.client).flight).after }
stage_is c f st =
    visited_numbers c.self.inside.shape c.self.inside.stages.items c.self.inside.slots.items c.self.inside.seats.items c.args.stage c.args.client f c.index_mut-seat.result.now _ c.index_mut.result.now _ c.visit.new.self
    c.self.invariant.stages (lt_of c) st c.index_mut-seat.ensures.value c.index_mut.ensures.value c.visit.ensures.numbers

pub invariant_of-self : goal.invariant_of-self
invariant_of-self c =
    let st = stands_seen c.self.inside.shape c.self.inside.stages.items c.self.inside.slots.items c.self.inside.seats.items c.self.inside.halves c.self.inside.next c.args.stage c.args.client c.args.self.now c.self.invariant.seated c.self.view_is c.requires in
    record {
      stages = visited_stages c.self.inside.shape c.self.inside.stages.items c.self.inside.slots.items c.self.inside.seats.items c.args.stage c.args.client st.0 c.visit.new.self c.self.invariant.stages (lt_of c) st.1 (stage_is c st.0 st.1);
      seated = executed_keeps c.self.inside.shape c.self.inside.stages.items c.self.inside.slots.items c.self.inside.seats.items c.args.stage c.args.client st.0 (seat_now c) c.self.invariant.seated st.1 (seat_is c st.0 st.1);
    }

pub returns-then-is_due : goal.returns-then-is_due
returns-then-is_due c flight there =
    let st = stands_as c.self.inside.shape c.self.inside.stages.items c.self.inside.slots.items c.self.inside.seats.items c.self.inside.halves c.self.inside.next c.args.stage c.args.client c.args.self.now flight c.self.invariant.seated c.self.view_is c.requires there in
    executed_shown c.self.inside.shape c.self.inside.stages.items c.self.inside.slots.items c.self.inside.seats.items c.self.inside.halves c.self.inside.next c.args.stage c.args.client flight c.visit.new.self (seat_now c)
    c.self.invariant.stages c.self.invariant.seated (lt_of c) st (seat_is c flight st) (ap (λ (r : Registers). r.numbers) (stage_is c flight st))
    ∙ ap (λ (p : PlainPipeline). with_executed p c.args.stage flight) c.self.view_is

pub returns-else-is_due : goal.returns-else-is_due
returns-else-is_due c flight there =
    let seats = c.self.inside.seats.items in
    let st = stands_as c.self.inside.shape c.self.inside.stages.items c.self.inside.slots.items c.self.inside.seats.items c.self.inside.halves c.self.inside.next c.args.stage c.args.client c.args.self.now flight c.self.invariant.seated c.self.view_is c.requires there in
    let same : c.index_mut-seat.result.now ≡ seat_at seats c.args.client = c.index_mut-seat.ensures.value ∙ get_or_default seats c.args.client _ no_seat st.there in
    let unmarked : get_or (seat_at seats c.args.client).due c.args.stage false ≡ false = ap (λ (s : Seat). get_or s.due c.args.stage false) (sym same) ∙ sym c.is_due.ensures ∙ c.if-is_due.false in
    ap (λ (l : List Seat). view c.self.inside.shape c.self.inside.stages.items c.self.inside.slots.items l c.self.inside.halves c.self.inside.next)
    (ap (set seats c.args.client) same ∙ set_itself seats no_seat c.args.client)
    ∙ unmarked_shown c.self.inside.shape c.self.inside.stages.items c.self.inside.slots.items seats c.self.inside.halves c.self.inside.next c.args.stage c.args.client flight st unmarked
    ∙ ap (λ (p : PlainPipeline). with_executed p c.args.stage flight) c.self.view_is
