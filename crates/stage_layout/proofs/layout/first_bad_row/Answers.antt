use Rattle.std.proofs.Common.{arith, rules, sym}
use Rattle.stage_layout.specs.Layout.{is_bad_row}
use Rattle.stage_layout.proofs.Firsts.{position_is, position_none}
use Rattle.stage_layout.proofs.NoRow.{no_row}
use Rattle.stage_layout.proofs.layout.first_bad_row.Goals as goal

pub returns-then-is_bad_row : goal.returns-then-is_bad_row
returns-then-is_bad_row c = sym (position_is (is_bad_row c.args.shape.now c.args.tuples.now) no_row c.args.rows.now c.loop-i.i (omega arith) c.loop-i.invariant (search rules))

pub returns : goal.returns
returns c = sym (position_none (is_bad_row c.args.shape.now c.args.tuples.now) no_row c.args.rows.now (λ k lt. c.loop-i.invariant k (omega arith)))
