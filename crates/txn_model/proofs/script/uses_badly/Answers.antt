use Rattle.std.proofs.Common.{◌||◌, nat_lt, not, ◌∙◌}
use Rattle.txn_model.specs.Needs.{needs_list}
use Rattle.txn_model.proofs.SerialLaws.{list_any_skip, is_earlier}
use Rattle.txn_model.proofs.script.uses_badly.Goals as goal

pub loop-i-preserved : goal.loop-i-preserved
loop-i-preserved c =
    list_any_skip (λ n. c.match-matches.matches || not (nat_lt n.from c.args.number)) (needs_list c.args.op.now.needs) c.loop-i.i c.get.result c.get.ensures (is_earlier _ c.get.result.from c.args.number c.if-is_read.false c.if-get-number.false)
    ∙ c.loop-i.invariant
