use Rattle.std.proofs.Common.{not, arith, sym, ap, ◌∙◌}
use Rattle.std.proofs.lemmas.Grind.{common_steps}
use Rattle.stage_layout.proofs.Apart.{own_from, absent}
use Rattle.stage_layout.proofs.layout.tuples_of.Goals as goal

pub loop-i-preserved-then-differ : goal.loop-i-preserved-then-differ
loop-i-preserved-then-differ c =
    let old = c.loop-i.invariant in
    record {
      by_place = λ p. grind (arith, common_steps, old.by_place p);
      own = λ yes.
          let none = sym (old.by_place _) ∙ sym c.in_ok-later.ensures.old ∙ absent c.in_ok-later.later (c.is_none-differ.ensures ∙ ap not yes) in
          own_from c.args.rows.now c.loop-i.i (omega arith) (omega arith) none (old.own c.if-differ.true);
    }

pub loop-i-preserved : goal.loop-i-preserved
loop-i-preserved c =
    let old = c.loop-i.invariant in
    record { by_place = λ p. grind (arith, common_steps, old.by_place p); own = λ yes. cc (sym yes ∙ c.if-differ.false) }
