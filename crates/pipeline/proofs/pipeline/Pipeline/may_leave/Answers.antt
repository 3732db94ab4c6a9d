use Rattle.std.proofs.Common.{◌<◌, length, map, sym, subst, arith}
use Rattle.std.proofs.lemmas.List.{length-map}
use Rattle.pipeline.specs.Plain.{PlainPipeline}
use Rattle.pipeline.specs.Seats.{slotted}
use Rattle.pipeline.proofs.pipeline.Pipeline.may_leave.Goals as goal

pub overflow_add-stage : goal.overflow_add-stage
overflow_add-stage c =
    let seen : c.args.stage < length (map (slotted c.self.inside.seats.items) c.self.inside.slots.items) = subst (λ (p : PlainPipeline). c.args.stage < length p.slots) (sym c.self.view_is) c.requires in
    let size = length-map c.self.inside.slots.items (slotted c.self.inside.seats.items) in
    let count = c.self.invariant.seated.count in
    omega (arith, seen, size, count)
