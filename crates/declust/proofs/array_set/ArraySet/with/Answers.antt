use Rattle.declust.proofs.Bits.{set_bit}
use Rattle.declust.proofs.array_set.ArraySet.with.Goals as goal

pub returns : goal.returns
returns c = λ k. set_bit c.args.self.0 c.args.array k c.requires
