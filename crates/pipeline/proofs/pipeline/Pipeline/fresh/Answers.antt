use Rattle.std.proofs.Common.{IsSome, ap, subst, ◌∙◌}
use Rattle.std.specs.FinMap.{get}
use Rattle.txn_model.specs.Places.{Places}
use Rattle.switch_packet.specs.Replay.{register_at}
use Rattle.pipeline.specs.Numbers.{numbers_of}
use Rattle.pipeline.specs.Plain.{PlainPipeline}
use Rattle.pipeline.specs.Rows.{restored, idle_pipeline}
use Rattle.pipeline.proofs.Erases.{vacant_seated, idle_is, idle_erased}
use Rattle.pipeline.proofs.Restores.{fresh_stages, have_places, first_places}
use Rattle.pipeline.proofs.pipeline.Pipeline.fresh.Goals as goal

pub invariant_of-pipeline : goal.invariant_of-pipeline
invariant_of-pipeline c = record {
  stages = fresh_stages c.args.shape.now c.in_ok-fresh_stages.field-0.items c.in_ok-fresh_stages.ensures;
  seated = vacant_seated c.args.shape.now c.in_ok-empty_slots.field-0.items c.in_ok-vacant_seats.field-0.items c.args.clients c.in_ok-empty_slots.ensures c.in_ok-vacant_seats.ensures;
}

pub restore-requires-clause-erased : goal.restore-requires-clause-erased
restore-requires-clause-erased c =
    idle_erased _ c.args.shape.now c.args.clients
    (idle_is c.args.shape.now c.in_ok-fresh_stages.field-0.items c.in_ok-empty_slots.field-0.items c.in_ok-vacant_seats.field-0.items c.free.result c.args.clients c.in_ok-fresh_stages.ensures
    c.in_ok-empty_slots.ensures c.in_ok-vacant_seats.ensures c.free.ensures)

pub restore-requires-clause-places : goal.restore-requires-clause-places
restore-requires-clause-places c place there =
    first_places c.args.shape.now c.args.tuples.now c.args.layout.now (have_places c.args.shape.now c.args.tuples.now c.args.layout.now c.requires) place
    (subst (λ (m : Places). IsSome (get m place)) c.in_ok-first_cells.ensures there)

pub returns : goal.returns
returns c =
    c.restore.ensures
    ∙ ap (λ (p : PlainPipeline). restored p c.in_ok-first_cells.field-0 1)
    (idle_is c.args.shape.now c.in_ok-fresh_stages.field-0.items c.in_ok-empty_slots.field-0.items c.in_ok-vacant_seats.field-0.items c.free.result c.args.clients c.in_ok-fresh_stages.ensures
    c.in_ok-empty_slots.ensures c.in_ok-vacant_seats.ensures c.free.ensures)
    ∙ ap (λ (m : Places). idle_pipeline c.args.shape.now (numbers_of c.args.shape.now (register_at m)) c.args.clients 1) c.in_ok-first_cells.ensures
