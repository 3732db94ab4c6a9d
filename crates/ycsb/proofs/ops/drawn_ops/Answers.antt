use Rattle.std.proofs.Common.{◌-◌, ◌+◌, ap, sym, subst, ◌∙◌, arith}
use Rattle.schedule.specs.Dice.{words_of}
use Rattle.load_base.specs.Load.{IsFitFor}
use Rattle.ycsb.specs.Ycsb.{ycsb_size, drawn_op}
use Rattle.ycsb.proofs.DrawnOps.{one_more, all_drawn, is_fit}
use Rattle.ycsb.proofs.ops.drawn_ops.Goals as goal

pub loop-preserved : goal.loop-preserved
loop-preserved c =
    let left = c.args.plan.now.ops - (c.loop.counter + 1) in
    record {
      end = c.loop.invariant.end;
      bound = omega arith;
      rest =
          one_more c.args.plan.now left (c.args.plan.now.ops - c.loop.counter) c.loop.ops.items c.push.new.self.items c.drawn_op-op.result (words_of c.loop.dice) (words_of c.drawn_op-op.new.dice)
          c.in_ok-push.ensures.items (c.drawn_op-op.ensures ∙ ap (λ ops. drawn_op c.args.plan.now ops (words_of c.loop.dice)) c.as_slice.ensures.value) (omega arith)
          ∙ c.loop.invariant.rest;
    }

pub returns-clause-fit : goal.returns-clause-fit
returns-clause-fit c =
    let plan = c.args.plan.now in
    let drawn = all_drawn plan (plan.ops - c.loop.counter) c.loop.ops.items (words_of c.loop.dice) (omega arith) ∙ c.loop.invariant.rest in
    subst (IsFitFor (ycsb_size plan)) (sym (c.of.ensures.items ∙ ap (λ p. p.0) drawn)) (is_fit plan c.requires (words_of c.args.dice.now))
