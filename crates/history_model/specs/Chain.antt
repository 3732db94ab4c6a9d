-- Chains of values: what each operation on a tuple finds is what the one before on that tuple left.
use Rattle.std.specs.Prelude.{◌≡◌, ◌⊎◌, ℤ, true, false, List, [], ◌∷◌, ◌++◌, map, Bool, ◌==◌, if◌then◌else◌, MatchBool, ⊤}
use Rattle.std.specs.List.{flat_map, AllByRecursion}
pub use Rattle.txn_model.specs.Local.{IsLocalFrom}
use Rattle.txn_model.specs.Serial.{serial, serial_run}
use Rattle.txn_model.specs.Tuples.{Tuples, value_at}
use Rattle.txn_model.specs.declared.op.Op.{Op}
use Rattle.txn_model.specs.declared.op.TupleId.{TupleId}
use Rattle.txn_model.specs.declared.pairs.Pair.{Pair}

-- a script with the pairs of its operations
abbrev pub Answered : Type 0
Answered = List Op × List Pair

-- an operation with its pair
abbrev pub Step : Type 0
Step = Op × Pair

-- the operations of a script with their pairs
abbrev pub steps_of : List Op → List Pair → List Step
steps_of [] pairs = []
steps_of (op ∷ ops) [] = []
steps_of (op ∷ ops) (p ∷ ps) = (op, p) ∷ steps_of ops ps

-- the operations of all scripts with their pairs, in order
abbrev pub all_steps : List Answered → List Step
all_steps h = flat_map (λ e. steps_of e.0 e.1) h

-- the pairs of a script are local: they follow from what was found alone
abbrev pub IsLocal : Answered → Type 0
IsLocal e = IsLocalFrom [] e.0 e.1

abbrev pub names_tuple : TupleId → Step → Bool
names_tuple t step = step.0.tuple.0 == t.0

-- from v on, each step on the tuple finds what the one before left
abbrev pub Chain : TupleId → ℤ → List Step → Type 0
Chain t v [] = ⊤
Chain t v (step ∷ steps) = MatchBool (names_tuple t step) ((step.1.was ≡ v) × Chain t step.1.now steps) (Chain t v steps)

-- the value that the last step on the tuple left, and v where there is none
abbrev pub last_value : TupleId → ℤ → List Step → ℤ
last_value t v [] = v
last_value t v (step ∷ steps) = last_value t (if names_tuple t step then step.1.now else v) steps

-- no step names the tuple
abbrev pub IsAbsent : TupleId → List Step → Type 0
IsAbsent t steps = AllByRecursion (λ s. names_tuple t s ≡ false) steps

-- each step on the tuple leaves what it found
abbrev pub IsQuiet : TupleId → List Step → Type 0
IsQuiet t steps = AllByRecursion (λ s. names_tuple t s ≡ true → s.1.now ≡ s.1.was) steps

-- one tuple's part in putting steps before others: they don't name it; or they leave it and so do the others; or the others
-- don't name it
abbrev pub MayStandBefore : TupleId → (inserted others : List Step) → Type 0
MayStandBefore t inserted others = IsAbsent t inserted ⊎ ((IsQuiet t inserted × IsQuiet t others) ⊎ IsAbsent t others)

-- local scripts whose values form chains from this map on
pub record HasChains (h : List Answered) (m : Tuples) : Type 0 where
  pub local : AllByRecursion IsLocal h
  pub chains : (t : TupleId) → Chain t (value_at m t) (all_steps h)

-- running the scripts serially from this map gives their pairs, and leaves each tuple's last value
pub record IsRunOf (h : List Answered) (m : Tuples) : Type 0 where
  pub replies : (serial_run (map (λ e. e.0) h) m).replies ≡ map (λ e. e.1) h
  pub last : (t : TupleId) → value_at (serial_run (map (λ e. e.0) h) m).after t ≡ last_value t (value_at m t) (all_steps h)

-- the map that the scripts leave, run serially from this one
abbrev pub map_after : List Answered → Tuples → Tuples
map_after h m = (serial_run (map (λ e. e.0) h) m).after

-- a script with its reply on this map
abbrev pub answered_on : Tuples → List Op → Answered
answered_on m script = (script, (serial script m).reply)

-- the script was put before others, and is answered as it would be behind all; all others are answered as before, and the last
-- map is the one that the script leaves behind all
pub record IsInserted (a b : List Answered) (script : List Op) (m : Tuples) : Type 0 where
  pub run : IsRunOf (a ++ answered_on (map_after (a ++ b) m) script ∷ b) m
  pub last : (t : TupleId) → value_at (map_after (a ++ answered_on (map_after (a ++ b) m) script ∷ b) m) t ≡ value_at (serial script (map_after (a ++ b) m)).after t
