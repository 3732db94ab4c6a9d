use Rattle.std.proofs.Common.{◌<◌, length, List, ap, arith}
use Rattle.catalogue.specs.Plan.{PlainItem}
use Rattle.catalogue.specs.PlanOf.{plan_of}
use Rattle.fabric_model.specs.Bound as bound
use Rattle.fabric_core.proofs.Counts.{next_is_small}
use Rattle.fabric_core.proofs.room.move_bound.Goals as goal

pub items_bound-moves-requires-clause-small : goal.items_bound-moves-requires-clause-small
items_bound-moves-requires-clause-small c =
    let plan = plan_of c.args.session.now in
    let lt : c.loop-client.client < length plan.clients = omega arith in
    omega (arith, ap (λ (l : List PlainItem). bound.items_bound plan l) c.items.ensures.items, next_is_small plan c.loop-client.moves c.loop-client.client c.requires lt c.loop-client.invariant)

pub overflow_add-moves : goal.overflow_add-moves
overflow_add-moves c =
    let plan = plan_of c.args.session.now in
    let lt : c.loop-client.client < length plan.clients = omega arith in
    let small = next_is_small plan c.loop-client.moves c.loop-client.client c.requires lt c.loop-client.invariant in
    omega (arith, c.items_bound-moves.ensures, ap (λ (l : List PlainItem). bound.items_bound plan l) c.items.ensures.items, small)
