use Rattle.std.proofs.Common.{rules, w8}
use Rattle.std.proofs.lemmas.Nat.Bits.{bit_at-trailing_zeros}
use Rattle.host_locks.proofs.lock_word.lowest.Goals as goal

pub returns : goal.returns
returns c = bit_at-trailing_zeros w8 c.args.bits (search rules) (search rules)
