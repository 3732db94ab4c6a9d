-- The passes of hot operations: in which pass through the pipeline each of them is executed. In one
-- pass each register array is reached once, and the stages are reached in order.
use Rattle.std.specs.Prelude.{◌≡◌, ◌≢◌, ℕ, zero, suc, ◌+◌, ◌≤◌, ◌<◌, ◌⊎◌, ◌==◌, ◌&&◌, ◌||◌, Bool, not, List, [], ◌∷◌, ◌++◌, length, map, max, fold, slice_index_or, nat_lt, if◌then◌else◌}
use Rattle.std.specs.List.{list_any, list_all, AllByRecursion}
use Rattle.txn_model.specs.Needs.{needs_list}
use Rattle.txn_model.specs.declared.op.Need.{Need}
use Rattle.txn_model.specs.declared.place.Place.{Place}
use Rattle.stage_layout.specs.declared.pass_plan.HotOp.{HotOp}
pub use Rattle.stage_layout.specs.declared.pass_plan.Step.{Step}
use Rattle.stage_layout.specs.declared.shape.Shape.{Shape}
use Rattle.stage_layout.specs.Regions.{halves_of}

-- ---- what is wanted

-- step k
abbrev pub step_at : List Step → ℕ → Step
step_at steps k = slice_index_or steps k (record { pass = 0; place = record { stage = 0; array = 0; cell = 0 } })

-- both places are on one register array
pub record OnOneArray (a b : Place) : Type 0 where
  pub stage : a.stage ≡ b.stage
  pub array : a.array ≡ b.array

-- the step is before this stage in pass p: in an earlier pass, or in the same one at an earlier stage
abbrev pub ComesBefore : Step → ℕ → ℕ → Type 0
ComesBefore step p stage = (step.pass < p) ⊎ ((step.pass ≡ p) × (step.place.stage < stage))

-- behind operations with these steps, one at this place with these needs can be executed in pass p
pub record CanPass (steps : List Step) (place : Place) (needs : List Need) (p : ℕ) : Type 0 where
  pub alone : AllByRecursion (λ step. OnOneArray step.place place → step.pass ≢ p) steps
  pub needed : AllByRecursion (λ need. ComesBefore (step_at steps need.from) p place.stage) needs

-- p is the least such pass, of those from 1 on
pub record IsLeastPass (steps : List Step) (place : Place) (needs : List Need) (p : ℕ) : Type 0 where
  pub from_one : 1 ≤ p
  pub fits : CanPass steps place needs p
  pub least : (q : ℕ) → 1 ≤ q → CanPass steps place needs q → p ≤ q

-- ---- the same as functions

abbrev pub same_array : Place → Place → Bool
same_array a b = a.stage == b.stage && a.array == b.array

abbrev pub comes_before : Step → ℕ → ℕ → Bool
comes_before step p stage = nat_lt step.pass p || (step.pass == p && nat_lt step.place.stage stage)

-- one of the steps is on the place's array in pass p
abbrev pub is_taken : List Step → Place → ℕ → Bool
is_taken steps place p = list_any (λ step. same_array step.place place && step.pass == p) steps

-- each of the needs is met before this stage in pass p
abbrev pub are_met : List Step → List Need → ℕ → ℕ → Bool
are_met steps needs p stage = list_all (λ need. comes_before (step_at steps need.from) p stage) needs

abbrev pub can_pass : List Step → Place → List Need → ℕ → Bool
can_pass steps place needs p = not (is_taken steps place p) && are_met steps needs p place.stage

-- the first number from p on that passes the test; of n numbers, and p + n where none of them does
abbrev pub first_from : (ℕ → Bool) → ℕ → ℕ → ℕ
first_from test zero p = p
first_from test (suc n) p = if test p then p else first_from test n (p + 1)

-- the least pass: one more than there are operations before is always enough
unfoldable pub least_pass : List Step → Place → List Need → ℕ
least_pass steps place needs = first_from (can_pass steps place needs) (length steps) 1

-- ---- a list of operations

-- the step of the operation behind those with these steps
abbrev pub next_step : List Step → HotOp → Step
next_step steps op = record { pass = least_pass steps op.place (needs_list op.needs); place = op.place }

-- the steps of all operations, behind those with these steps
abbrev pub steps_behind : List Step → List HotOp → List Step
steps_behind steps [] = steps
steps_behind steps (op ∷ ops) = steps_behind (steps ++ next_step steps op ∷ []) ops

-- the step of each operation, in the order of the script
abbrev pub steps_of : List HotOp → List Step
steps_of ops = steps_behind [] ops

-- the greatest of the numbers, and 0 where there is none
abbrev pub greatest : List ℕ → ℕ
greatest numbers = fold max 0 numbers

-- the pass of each operation, and the halves that they touch
pub record Plan : Type 0 where
  pub passes : List ℕ
  pub halves : ℕ

-- the plan of the hot operations of a script
unfoldable pub plan_of : Shape → List HotOp → Plan
plan_of shape ops = record { passes = map (λ step. step.pass) (steps_of ops); halves = halves_of shape (map (λ op. op.place) ops) }

-- no step has a pass above this one
abbrev pub PassesUpTo : ℕ → List Step → Type 0
PassesUpTo most steps = AllByRecursion (λ step. step.pass ≤ most) steps

-- each need is on one of the first k operations
abbrev pub NeedsBelow : ℕ → List Need → Type 0
NeedsBelow k needs = AllByRecursion (λ need. need.from < k) needs

-- each need is on an operation before; the first of these is operation k
abbrev pub NeedEarlier : ℕ → List HotOp → Type 0
NeedEarlier k [] = Unit {0}
NeedEarlier k (op ∷ ops) = NeedsBelow k (needs_list op.needs) × NeedEarlier (k + 1) ops
