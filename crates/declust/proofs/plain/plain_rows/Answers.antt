use Rattle.std.proofs.Common.{arith}
use Rattle.std.proofs.lemmas.Grind.{common_steps}
use Rattle.hot_set.specs.declared.ranking.HotRow.{HotRow}
use Rattle.declust.proofs.PlainRows.{plain_more}
use Rattle.declust.proofs.plain.plain_rows.Goals as goal

abbrev no_row : HotRow
no_row = record { tuple = record { 0 = 0 }; uses = 0 }

pub loop-i-preserved : goal.loop-i-preserved
loop-i-preserved c = grind (arith, common_steps, plain_more c.args.shape.now c.args.hot.now c.loop-i.i no_row (omega arith))
