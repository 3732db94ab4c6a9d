use Rattle.std.proofs.Common.{refl, sym, ap, ◌∙◌, length, arith}
use Rattle.txn_model.proofs.SerialLaws.{sound_length}
use Rattle.client_phase.specs.ColdNumbers.{cold_number}
use Rattle.client_phase.proofs.Numbers.{seek-skip, seek-next, seek-here, rest-none, count-all, number-all}
use Rattle.client_phase.proofs.cold_numbers.cold_number.Goals.{then-not-has+else-left-eq0, else-not-has}
use Rattle.client_phase.proofs.cold_numbers.cold_number.Goals as goal

pub returns-then-is_empty-clause-value : goal.returns-then-is_empty-clause-value
returns-then-is_empty-clause-value c =
    let hot = c.args.parts.now.hot in
    let ops = c.args.script.now.items in
    let empty = c.if-is_empty.ensures.0 refl in
    sym (number-all hot 0 ops c.args.nth empty (omega (arith, c.requires.there, count-all hot 0 ops empty)) ∙ omega arith)

pub returns-then-is_empty-clause-bound : goal.returns-then-is_empty-clause-bound
returns-then-is_empty-clause-bound c =
    omega (arith, c.requires.there, count-all c.args.parts.now.hot 0 c.args.script.now.items (c.if-is_empty.ensures.0 refl))

pub overflow_cast-op-end : goal.overflow_cast-op-end
overflow_cast-op-end c = omega (arith, c.len-op-end.ensures, sound_length _ c.requires.fit)

pub loop-op-init : goal.loop-op-init
loop-op-init c = record { some = c.requires.there; found = refl }

pub loop-op-preserved : goal.loop-op-preserved
loop-op-preserved c =
    let hot = c.args.parts.now.hot in
    let ops = c.args.script.now.items in
    let number = cold_number c.args.parts.now ops c.args.nth in
    elim c.if-not-has.branch [
      | then-not-has+else-left-eq0 w ↦ seek-next hot c.loop-op.op ops c.loop-op.left c.if-not-has.left number (omega arith) (sym c.has.ensures ∙ w.if-not-has.true) (omega (arith, w.left-is, w.if-left-eq0.false)) c.loop-op.invariant
      | else-not-has w ↦ seek-skip hot c.loop-op.op ops c.loop-op.left c.if-not-has.left number (omega arith) (sym c.has.ensures ∙ w.if-not-has.false) w.left-is c.loop-op.invariant
    ]

pub returns-then-left-eq0-clause-value : goal.returns-then-left-eq0-clause-value
returns-then-left-eq0-clause-value c =
    seek-here c.args.parts.now.hot c.loop-op.op c.args.script.now.items c.loop-op.left (cold_number c.args.parts.now c.args.script.now.items c.args.nth) (omega arith) (sym c.has.ensures ∙ c.if-not-has.true) c.if-left-eq0.true c.loop-op.invariant

pub unreachable-requires : goal.unreachable-requires
unreachable-requires c =
    omega (arith, c.loop-op.invariant.some, ap length (rest-none c.args.parts.now.hot c.loop-op.op c.args.script.now.items (omega arith)))
