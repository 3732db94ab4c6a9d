use Rattle.std.proofs.Common.{◌<◌, ◌^◌, ◌≡◌, false, nat_lt, eqb, rules, sym, ap, ◌∙◌}
use Rattle.std.proofs.lemmas.Nat.Bits.{bit_at_above}
use Rattle.warm_split.proofs.op_set.OpSet.has.Goals as goal

pub returns-else-op-lt32 : goal.returns-else-op-lt32
returns-else-op-lt32 c =
    let fits : c.args.self.0 < 2 ^ 32 = search rules in
    let none = bit_at_above c.args.self.0 32 c.args.op fits c.if-op-lt32.false in
    let outside : nat_lt c.args.op 32 ≡ false = search rules in
    outside ∙ sym (ap (λ n. eqb n 1) none)
