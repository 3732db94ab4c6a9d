-- The parts of a script as three sets of operation numbers.
use Rattle.std.specs.Prelude.{◌≡◌, ℕ, zero, suc, Bool, false, List, [], ◌∷◌}
use Rattle.txn_model.specs.declared.op.Op.{Op}
use Rattle.stage_layout.specs.Late.{Part, is_before, is_in_switch, is_after, part_at, parts_of}
use Rattle.stage_layout.specs.declared.layout.LayoutRow.{LayoutRow}
use Rattle.warm_split.specs.OpSet.{contains}
use Rattle.warm_split.specs.declared.op_set.OpSet.{OpSet}
use Rattle.warm_split.specs.declared.parts.Parts.{Parts}

-- there is an operation k, and its part passes the test
abbrev pub passes_at : (Part → Bool) → List Part → ℕ → Bool
passes_at test [] k = false
passes_at test (part ∷ parts) zero = test part
passes_at test (part ∷ parts) (suc k) = passes_at test parts k

-- the sets have exactly the operations of each of these parts
pub record AreSets (parts : List Part) (sets : Parts) : Type 0 where
  pub before : (k : ℕ) → contains sets.before k ≡ passes_at is_before parts k
  pub hot : (k : ℕ) → contains sets.hot k ≡ passes_at is_in_switch parts k
  pub after : (k : ℕ) → contains sets.after k ≡ passes_at is_after parts k

-- the set has exactly the operations in the switch
abbrev pub IsHotSet : List Part → OpSet → Type 0
IsHotSet parts set = (k : ℕ) → contains set k ≡ is_in_switch (part_at parts k)

-- the sets are the parts of the script
abbrev pub IsParts : List LayoutRow → List Op → Parts → Type 0
IsParts rows ops sets = AreSets (parts_of rows ops) sets
