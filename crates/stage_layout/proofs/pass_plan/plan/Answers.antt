use Rattle.std.proofs.Common.{◌≡◌, [], List, length, get_or, take, arith, refl, sym, ap, ◌∙◌, subst, zero-add}
use Rattle.std.proofs.lemmas.List.{length-map, length-take-le, take_all, take_more_set}
use Rattle.txn_model.specs.Needs.{needs_list, needs_of}
use Rattle.stage_layout.specs.declared.pass_plan.HotOp.{HotOp}
use Rattle.stage_layout.specs.Passes.{Plan, Step, least_pass, steps_of, plan_of, PassesUpTo, NeedsBelow}
use Rattle.stage_layout.proofs.PassLaws.{length-steps_of, steps_of-more, steps_of-upto}
use Rattle.stage_layout.proofs.PlanLoops.{needs_at}
use Rattle.stage_layout.proofs.pass_plan.plan.Goals as goal

abbrev none : HotOp
none = record { place = record { stage = 0; array = 0; cell = 0 }; needs = needs_of [] }

pub least_pass-pass-requires-clause-passes : goal.least_pass-pass-requires-clause-passes
least_pass-pass-requires-clause-passes c =
    subst (λ steps. PassesUpTo (length steps) steps) (sym c.loop-i.invariant) (steps_of-upto (take c.loop-i.i c.args.ops.now))

pub least_pass-pass-requires-clause-earlier : goal.least_pass-pass-requires-clause-earlier
least_pass-pass-requires-clause-earlier c =
    let ops = c.args.ops.now in
    let i = c.loop-i.i in
    let len : length (take i c.loop-i.steps) ≡ i = ap length c.loop-i.invariant ∙ length-steps_of (take i ops) ∙ length-take-le i ops (omega arith) in
    subst (λ n. NeedsBelow n (needs_list (get_or ops i none).needs)) (zero-add i ∙ sym len) (needs_at ops 0 i none c.requires.earlier (omega arith))

pub loop-i-preserved : goal.loop-i-preserved
loop-i-preserved c =
    let ops = c.args.ops.now in
    let i = c.loop-i.i in
    let op = get_or ops i none in
    let before = steps_of (take i ops) in
    let passes = c.least_pass-pass.ensures ∙ ap (λ (steps : List Step). least_pass steps op.place (needs_list op.needs)) c.loop-i.invariant in
    take_more_set c.loop-i.steps i _ (omega arith)
    ∙ rw (c.loop-i.invariant, passes) (sym (steps_of-more ops i none (omega arith)))

pub returns-clause-value : goal.returns-clause-value
unfolding plan_of
returns-clause-value c =
    let ops = c.args.ops.now in
    let n : c.loop-i.i ≡ length ops = omega arith in
    let all = ap (λ k. take k c.loop-i.steps) (sym n) ∙ c.loop-i.invariant ∙ ap (λ k. steps_of (take k ops)) n ∙ ap steps_of (take_all (length ops) ops (omega arith)) in
    c.of.ensures ∙ rw (all, c.halves.ensures) refl

pub returns-clause-each : goal.returns-clause-each
returns-clause-each c =
    let ops = c.args.ops.now in
    let steps = take (length ops) c.loop-i.steps in
    let n : length steps ≡ length ops = length-take-le (length ops) c.loop-i.steps (omega arith) in
    ap (λ (plan : Plan). length plan.passes) c.of.ensures ∙ length-map steps (λ (step : Step). step.pass) ∙ n
