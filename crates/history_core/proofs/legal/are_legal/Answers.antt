use Rattle.std.proofs.Common.{refl, ◌∙◌}
use Rattle.catalogue.specs.PlanOf.{plan_of}
use Rattle.catalogue.specs.Plan.{script_at}
use Rattle.history_core.specs.Own.{plain_kept}
use Rattle.history_core.proofs.Running.{there_at, all_there, there_after, ended, goes_on, agreed}
use Rattle.history_core.proofs.legal.are_legal.Goals as goal

pub run_item-requires-clause-there : goal.run_item-requires-clause-there
run_item-requires-clause-there c =
    let plan = plan_of c.args.session.now in
    let entry = c.in-Some.kept.now.entry in
    all_there c.loop-kept.tuples (script_at plan entry.client entry.seq) (c.loop-kept.invariant.there (script_at plan entry.client entry.seq) (there_at plan entry.client entry.seq c.requires))

pub returns-then-not-agrees : goal.returns-then-not-agrees
returns-then-not-agrees c = (
  λ never. cc,
  λ whole. c.if-not-agrees.ensures.1 (agreed (plan_of c.args.session.now) c.loop-kept.tuples _ c.loop-kept.entries _ (plain_kept c.in-Some.kept.now) c.in-Some.ensures c.loop-kept.invariant.rest
      c.as_slice.result.now (c.as_slice.ensures.items ∙ c.in_ok-pairs.ensures.reply) whole),
)

pub loop-kept-preserved : goal.loop-kept-preserved
loop-kept-preserved c =
    let plan = plan_of c.args.session.now in
    let entry = c.in-Some.kept.now.entry in
    record {
      there = λ ops h. there_after (script_at plan entry.client entry.seq) c.loop-kept.tuples _ ops c.in_ok-pairs.ensures.tuples (c.loop-kept.invariant.there ops h);
      rest = goes_on plan c.loop-kept.tuples _ c.loop-kept.entries _ (plain_kept c.in-Some.kept.now) c.in-Some.ensures c.loop-kept.invariant.rest
          c.as_slice.result.now (c.as_slice.ensures.items ∙ c.in_ok-pairs.ensures.reply) _ c.in_ok-pairs.ensures.tuples (c.if-not-agrees.ensures.0 refl);
    }

pub returns : goal.returns
returns c = (λ t. ended (plan_of c.args.session.now) c.loop-kept.tuples _ c.loop-kept.entries c.in_default.ensures.0 c.loop-kept.invariant.rest, λ whole. refl)
