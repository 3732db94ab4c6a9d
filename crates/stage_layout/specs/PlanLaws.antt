-- What plans keep.
use Rattle.std.specs.Prelude.{◌≡◌, ◌↔◌, ℕ, ◌≤◌, ◌<◌, List, length, map, take, slice_get, Some}
use Rattle.std.specs.List.{AllByRecursion}
use Rattle.txn_model.specs.Needs.{needs_list}
use Rattle.stage_layout.specs.declared.pass_plan.HotOp.{HotOp}
use Rattle.stage_layout.specs.declared.shape.Shape.{Shape}
use Rattle.stage_layout.specs.Passes.{Step, step_at, OnOneArray, ComesBefore, IsLeastPass, steps_of, greatest, plan_of, NeedEarlier}

-- each step is at its operation's place, in the least pass behind the steps before it
pub record AreLeast (ops : List HotOp) (steps : List Step) : Type 0 where
  pub places : map (λ step. step.place) steps ≡ map (λ op. op.place) ops
  pub passes : (k : ℕ) (op : HotOp) → slice_get ops k ≡ Some op → IsLeastPass (take k steps) op.place (needs_list op.needs) (step_at steps k).pass

-- the steps of operations are those, and no others
abbrev pub PassesAreLeast : Type 0
PassesAreLeast = (ops : List HotOp) (steps : List Step) → AreLeast ops steps ↔ (steps ≡ steps_of ops)

-- what a packet with these steps may rely on in the switch
pub record AreInOrder (ops : List HotOp) (steps : List Step) : Type 0 where
  -- what an operation needs was executed in an earlier pass, or in the same one at an earlier stage
  pub needed : (k : ℕ) (op : HotOp) → slice_get ops k ≡ Some op → AllByRecursion (λ need. ComesBefore (step_at steps need.from) (step_at steps k).pass op.place.stage) (needs_list op.needs)
  -- two operations of one pass are on different register arrays
  pub apart : (j k : ℕ) → j < k → k < length steps → (step_at steps j).pass ≡ (step_at steps k).pass → ¬ OnOneArray (step_at steps j).place (step_at steps k).place

-- each pass is one of those that are made, of which there are at most as many as operations
pub record HasPasses (ops : List HotOp) (passes : List ℕ) : Type 0 where
  pub each : length passes ≡ length ops
  pub range : AllByRecursion (λ pass. (1 ≤ pass) × (pass ≤ greatest passes)) passes
  pub some : 1 ≤ length ops → 1 ≤ greatest passes
  pub most : greatest passes ≤ length ops

abbrev pub PlansAreInOrder : Type 0
PlansAreInOrder = (shape : Shape) (ops : List HotOp) → NeedEarlier 0 ops → AreInOrder ops (steps_of ops) × HasPasses ops (plan_of shape ops).passes
