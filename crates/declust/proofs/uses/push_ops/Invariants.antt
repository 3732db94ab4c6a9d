use Rattle.std.proofs.Common.{◌≡◌, ◌++◌, drop, map}
use Rattle.declust.proofs.uses.push_ops.Given as goal

-- what is left comes behind what was pushed
abbrev pub invariant-loop-op : goal.invariant-loop-op
invariant-loop-op l = l.list.items ++ map (λ op. record { tuple = op.tuple; item = l.number }) (drop l.op-index l.ops) ≡ l.fn.list.items ++ map (λ op. record { tuple = op.tuple; item = l.number }) l.ops
