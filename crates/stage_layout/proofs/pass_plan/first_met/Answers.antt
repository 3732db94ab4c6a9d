use Rattle.std.proofs.Common.{length, max, arith, ap, ◌∙◌}
use Rattle.std.proofs.lemmas.Option.{get_or_from_slice_get}
use Rattle.txn_model.specs.Needs.{needs_list}
use Rattle.txn_model.specs.declared.op.Need.{Need}
use Rattle.txn_model.specs.declared.op.Which.TheVariants.{Old}
use Rattle.stage_layout.specs.Passes.{step_at}
use Rattle.stage_layout.proofs.PlanLoops.{ord_max-max, after_range, met_more}
use Rattle.stage_layout.proofs.PassLaws.{upto_at}
use Rattle.stage_layout.proofs.pass_plan.first_met.Goals as goal

abbrev none : Need
none = record { from = 0; which = Old }

pub loop-i-preserved : goal.loop-i-preserved
loop-i-preserved c =
    let steps = c.args.steps.now in
    let needs = needs_list c.args.op.now.needs in
    let needed = step_at steps c.get.result.from in
    let is = get_or_from_slice_get needs c.loop-i.i c.get.result none c.get.ensures in
    let new = c.max-first.ensures ∙ ord_max-max c.loop-i.first c.first_pass_after.result ∙ ap (max c.loop-i.first) c.first_pass_after.ensures in
    let pass = upto_at (length steps) steps c.get.result.from c.requires.passes in
    record {
      range = rw new (after_range needed c.args.op.now.place.stage (length steps) c.loop-i.first pass c.loop-i.invariant.range.0 c.loop-i.invariant.range.1);
      so_far = rw new (met_more steps needs c.args.op.now.place.stage c.loop-i.i c.loop-i.first c.get.result none (omega arith) is c.loop-i.invariant.so_far);
    }
