use Rattle.std.proofs.Common.{refl, sym, ◌∙◌, arith}
use Rattle.txn_model.proofs.SerialLaws.{sound_length}
use Rattle.client_phase.specs.ColdNumbers.{cold_count}
use Rattle.client_phase.proofs.Numbers.{count-next, count-skip, few-numbers, count-all}
use Rattle.client_phase.proofs.cold_numbers.cold_count.Goals.{then-not-has, else-not-has}
use Rattle.client_phase.proofs.cold_numbers.cold_count.Goals as goal

pub overflow_cast-result : goal.overflow_cast-result
overflow_cast-result c = omega (arith, c.len.ensures, sound_length _ c.requires.fit)

pub returns-then-is_empty-clause-value : goal.returns-then-is_empty-clause-value
returns-then-is_empty-clause-value c =
    c.len.ensures ∙ sym (count-all c.args.parts.now.hot 0 c.args.script.now.items (c.if-is_empty.ensures.0 refl))

pub returns-then-is_empty-clause-bound : goal.returns-then-is_empty-clause-bound
returns-then-is_empty-clause-bound c = omega (arith, c.len.ensures, sound_length _ c.requires.fit)

pub overflow_cast-op-end : goal.overflow_cast-op-end
overflow_cast-op-end c = omega (arith, c.len-op-end.ensures, sound_length _ c.requires.fit)

pub loop-op-preserved : goal.loop-op-preserved
loop-op-preserved c =
    let hot = c.args.parts.now.hot in
    let ops = c.args.script.now.items in
    let had = c.loop-op.invariant.counted in
    elim c.if-not-has.branch [
      | then-not-has w ↦ record {
        few = omega (arith, w.count-is, c.loop-op.invariant.few);
        counted = count-next hot c.loop-op.op ops c.loop-op.count c.if-not-has.count (cold_count c.args.parts.now ops) (omega arith) (sym c.has.ensures ∙ w.if-not-has.true) w.count-is had;
      }
      | else-not-has w ↦ record {
        few = omega (arith, w.count-is, c.loop-op.invariant.few);
        counted = count-skip hot c.loop-op.op ops c.loop-op.count c.if-not-has.count (cold_count c.args.parts.now ops) (omega arith) (sym c.has.ensures ∙ w.if-not-has.false) w.count-is had;
      }
    ]

pub returns-clause-bound : goal.returns-clause-bound
returns-clause-bound c =
    omega (arith, c.loop-op.invariant.counted, few-numbers c.args.parts.now.hot 0 c.args.script.now.items, sound_length _ c.requires.fit)
