use Rattle.std.proofs.Common.{◌∙◌, sym, ap, arith, take_all}
use Rattle.pipeline_locks.specs.Holders.{given}
use Rattle.pipeline_locks.proofs.halves.Halves.give.Goals as goal

pub returns : goal.returns
returns c =
    let half = c.loop-half.half in
    rw (← c.self.view_is)
    (sym (take_all half c.loop-half.holder-items (omega arith))
    ∙ c.loop-half.invariant.done
    ∙ ap (given c.args.halves c.args.client) (take_all half c.self.inside.holders (omega arith)))
