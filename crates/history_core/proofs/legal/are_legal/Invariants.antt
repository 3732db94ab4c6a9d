use Rattle.std.proofs.Common.{◌↔◌, List, length, IsSome}
use Rattle.std.specs.FinMap as fin
use Rattle.std.specs.List.{AllByRecursion}
use Rattle.txn_model.specs.declared.op.Op.{Op}
use Rattle.catalogue.specs.PlanOf.{plan_of}
use Rattle.history_model.specs.Legal.{IsLegal}
use Rattle.catalogue.specs.Plan.{script_at}
use Rattle.history_core.proofs.legal.are_legal.Given as goal

-- all first tuples are still there, and what is left is legal from here on exactly where the whole is
abbrev pub invariant-loop-kept : goal.invariant-loop-kept
invariant-loop-kept l = record {
  there : (ops : List Op) → AllByRecursion (λ op. IsSome (fin.get (plan_of l.session).tuples op.tuple)) ops → AllByRecursion (λ op. IsSome (fin.get l.tuples op.tuple)) ops;
  rest : IsLegal (script_at (plan_of l.session)) l.tuples l.entries ↔ IsLegal (script_at (plan_of l.session)) (plan_of l.session).tuples l.fn.entries;
}

abbrev pub decreases-loop-kept : goal.decreases-loop-kept
decreases-loop-kept l = length l.entries
