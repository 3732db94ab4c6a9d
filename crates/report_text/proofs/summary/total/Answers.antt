use Rattle.std.proofs.Common.{◌+ℤ◌, ℤ, SFits, w64, to_z, ◌∙◌, ap, rules}
use Rattle.std.specs.FinMap as fin
use Rattle.catalogue.specs.Plan.{Plan}
use Rattle.std.proofs.lemmas.Int.{to_z-of_z}
use Rattle.txn_model.specs.Number.{wrap}
use Rattle.fabric_model.specs.Laws.{tuple_now}
use Rattle.fabric_core.specs.Running.{state_in}
use Rattle.report_text.proofs.RowsThere.{row_there}
use Rattle.report_text.proofs.SummaryLaws.{sum_more}
use Rattle.report_text.proofs.summary.total.Goals as goal

pub tuple_now-requires : goal.tuple_now-requires
tuple_now-requires g c =
    row_there c.args.world.now.plan.tuples c.rows-tuple-items.result.now c.loop-tuple.tuple-index _ (c.rows-tuple-items.ensures ∙ ap (λ (p : Plan). fin.entries p.tuples) c.session.ensures.plan) c.loop-tuple-test.true

pub loop-tuple-preserved : goal.loop-tuple-preserved
loop-tuple-preserved g c =
    let sum = to_z w64 c.loop-tuple.total-bits in
    let value_fits : SFits w64 c.tuple_now.result = search rules in
    let next_fits : SFits w64 c.plus-total.result = search rules in
    let next = to_z-of_z w64 c.plus-total.result next_fits ∙ c.plus-total.ensures ∙ ap (λ (v : ℤ). wrap (sum +ℤ v)) (to_z-of_z w64 c.tuple_now.result value_fits ∙ c.tuple_now.ensures) in
    sum_more (tuple_now c.args.world.now.plan (state_in c.args.world.now)) c.rows-tuple-items.result.now c.loop-tuple.tuple-index _ sum _ c.loop-tuple-test.true next ∙ c.loop-tuple.invariant
