use Rattle.std.proofs.lemmas.Nat.Bits.{bit_at_or}
use Rattle.warm_split.proofs.Bits.{max_of_bits}
use Rattle.warm_split.proofs.op_set.OpSet.or.Goals as goal

pub returns : goal.returns
returns c = λ k. rw (bit_at_or c.args.self.0 c.args.other.0 k) (max_of_bits c.args.self.0 c.args.other.0 k)
