use Rattle.std.proofs.Common.{◌∙◌, sym, ap, arith, drop_of_length-le}
use Rattle.pipeline_locks.specs.Holders.{first_held_from}
use Rattle.pipeline_locks.proofs.halves.Halves.first_held.Goals as goal

pub returns : goal.returns
returns c =
    let holders = c.self.inside.holders in
    rw (← c.self.view_is) (sym (ap (first_held_from c.args.halves c.loop-half.half) (drop_of_length-le holders {i = c.loop-half.half} (omega arith))) ∙ c.loop-half.invariant)
