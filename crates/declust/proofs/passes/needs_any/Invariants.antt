use Rattle.std.proofs.Common.{◌≡◌, drop}
use Rattle.std.specs.List.{list_any}
use Rattle.txn_model.specs.Needs.{needs_list}
use Rattle.warm_split.specs.OpSet.{contains}
use Rattle.declust.proofs.passes.needs_any.Given as goal

-- no need so far is of an operation in the set
abbrev pub invariant-loop-i : goal.invariant-loop-i
invariant-loop-i l = list_any (λ need. contains l.set need.from) (drop l.i (needs_list l.needs)) ≡ list_any (λ need. contains l.set need.from) (needs_list l.needs)
