-- What the fault of a script says of its first operation that breaks a rule.
use Rattle.std.proofs.Common.{◌≡◌, ℕ, List, Option, Some, None, option_and_then, refl, ap, ◌∙◌, arith}
use Rattle.std.proofs.lemmas.Bool.Decides.{nat_tests}
use Rattle.txn_model.specs.ScriptCheck.{first_repeat, first_bad_use, first_of, script_fault}
use Rattle.txn_model.specs.declared.op.Op.{Op}
use Rattle.txn_model.specs.declared.script.ScriptFault.TheVariants.{TupleTwice, BadUse}
use Rattle.session_reader.specs.Rules.{HasOps, repeat_in, bad_use_in}

fault_within : (ops : List Op) → HasOps ops → script_fault ops ≡ first_of (first_repeat ops) TupleTwice (first_of (first_bad_use ops) BadUse None)
unfolding script_fault
fault_within ops h = let some = h.some in let few = h.few in grind (arith, nat_tests)

repeat_first : (r u : Option ℕ) → option_and_then repeat_in (first_of r TupleTwice (first_of u BadUse None)) ≡ r
repeat_first None None = refl
repeat_first None (Some k) = refl
repeat_first (Some k) u = refl

bad_use_next : (u : Option ℕ) → option_and_then bad_use_in (first_of None TupleTwice (first_of u BadUse None)) ≡ u
bad_use_next None = refl
bad_use_next (Some k) = refl

pub repeat_shown : (ops : List Op) → HasOps ops → option_and_then repeat_in (script_fault ops) ≡ first_repeat ops
repeat_shown ops h = ap (option_and_then repeat_in) (fault_within ops h) ∙ repeat_first _ _

pub bad_use_shown : (ops : List Op) → HasOps ops → first_repeat ops ≡ None → option_and_then bad_use_in (script_fault ops) ≡ first_bad_use ops
bad_use_shown ops h distinct =
    ap (option_and_then bad_use_in) (fault_within ops h) ∙ ap (λ r. option_and_then bad_use_in (first_of r TupleTwice (first_of (first_bad_use ops) BadUse None))) distinct ∙ bad_use_next _

-- a script that keeps each rule has no fault
pub no_fault : (ops : List Op) → HasOps ops → first_repeat ops ≡ None → first_bad_use ops ≡ None → script_fault ops ≡ None
no_fault ops h distinct earlier = fault_within ops h ∙ rw (distinct, earlier) refl
