use Rattle.warm_split.proofs.Bits.{set_bit}
use Rattle.warm_split.proofs.op_set.OpSet.with.Goals as goal

pub returns : goal.returns
returns c = λ k. set_bit c.args.self.0 c.args.op k c.requires
