-- The rules of operations: what is searched for in each script, and in which scripts it can be.
use Rattle.std.specs.Prelude.{◌≡◌, ℕ, ◌≤◌, List, length, position, Option, Some, None, is_none}
use Rattle.std.specs.FinMap.{get}
use Rattle.txn_model.specs.ScriptCheck.{first_repeat, first_bad_use, script_fault}
use Rattle.txn_model.specs.Tuples.{Tuples}
use Rattle.txn_model.specs.declared.op.Op.{Op}
use Rattle.txn_model.specs.declared.script.ScriptFault.{ScriptFault}
use Rattle.txn_model.specs.declared.script.ScriptFault.TheVariants.{Empty, TooLong, TupleTwice, BadUse}
use Rattle.stage_layout.specs.Late.{first_bad_turn}
use Rattle.catalogue.specs.Plan.{Plan, PlainItem, Run, Lose}
use Rattle.session_reader.specs.declared.rule.Rule.{Rule}
use Rattle.session_reader.specs.declared.rule.Rule.TheVariants.{KnownTuple, TupleOnce, EarlierNeeds, OneTurn}

-- the first place at which an operation has a tuple that isn't there
abbrev pub first_unknown : Tuples → List Op → Option ℕ
first_unknown tuples ops = position (λ op. is_none (get tuples op.tuple)) ops

-- the first operation of a script that breaks the rule
abbrev pub breaks : Rule → Plan → List Op → Option ℕ
breaks KnownTuple plan ops = first_unknown plan.tuples ops
breaks TupleOnce plan ops = first_repeat ops
breaks EarlierNeeds plan ops = first_bad_use ops
breaks OneTurn plan ops = first_bad_turn plan.layout ops

-- a script within the limit
pub record HasOps (ops : List Op) : Type 0 where
  pub some : 1 ≤ length ops
  pub few : length ops ≤ 16

-- the scripts in which a rule is looked at: those that keep the earlier rules
abbrev pub IsReady : Rule → List Op → Type 0
IsReady KnownTuple ops = HasOps ops
IsReady TupleOnce ops = HasOps ops
IsReady EarlierNeeds ops = HasOps ops × (first_repeat ops ≡ None)
IsReady OneTurn ops = script_fault ops ≡ None

-- the same of an item
abbrev pub OfScript : (List Op → Type 0) → PlainItem → Type 0
OfScript P (Run ops) = P ops
OfScript P Lose = Unit {0}

-- the operation of a fault of a script, where it is one of this kind
abbrev pub repeat_in : ScriptFault → Option ℕ
repeat_in Empty = None
repeat_in (TooLong ops) = None
repeat_in (TupleTwice op) = Some op
repeat_in (BadUse op) = None

abbrev pub bad_use_in : ScriptFault → Option ℕ
bad_use_in Empty = None
bad_use_in (TooLong ops) = None
bad_use_in (TupleTwice op) = None
bad_use_in (BadUse op) = Some op
