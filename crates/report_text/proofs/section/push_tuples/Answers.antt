use Rattle.std.proofs.Common.{◌∙◌, ap}
use Rattle.std.specs.FinMap as fin
use Rattle.catalogue.specs.Plan.{Plan}
use Rattle.report_text.proofs.RowsThere.{row_there}
use Rattle.report_text.proofs.section.push_tuples.Goals as goal

pub tuple_now-requires : goal.tuple_now-requires
tuple_now-requires g c =
    row_there c.args.world.now.plan.tuples c.rows-rows.result.now c.loop-tuple.tuple-index _ (c.rows-rows.ensures ∙ ap (λ (p : Plan). fin.entries p.tuples) c.session.ensures.plan) c.loop-tuple-test.true
