use Rattle.std.proofs.Common.{◌∙◌, sym, ap, arith, take_all}
use Rattle.pipeline_locks.specs.Holders.{without}
use Rattle.pipeline_locks.proofs.halves.Halves.leave.Goals as goal

pub returns : goal.returns
returns c =
    let half = c.loop-holder.holder-index in
    rw (← c.self.view_is)
    (sym (take_all half c.loop-holder.holder-items (omega arith))
    ∙ c.loop-holder.invariant.done
    ∙ ap (without c.args.client) (take_all half c.self.inside.holders (omega arith)))
