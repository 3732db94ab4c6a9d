use Rattle.std.proofs.Common.{◌≡◌, ◌++◌, drop, map}
use Rattle.hot_set.proofs.used.push_ops.Given as goal

-- what is left comes behind what was pushed
abbrev pub invariant-loop-op : goal.invariant-loop-op
invariant-loop-op l = l.used.items ++ map (λ op. op.tuple) (drop l.op-index l.ops) ≡ l.fn.used.items ++ map (λ op. op.tuple) l.ops
