-- How long a script is.
use Rattle.std.proofs.Common.{◌≡◌, ℕ, ◌≤◌, ◌==◌, nat_lt, Bool, true, false, List, length, Some, None, refl, arith, if◌then◌else◌}
use Rattle.std.proofs.lemmas.Bool.Decides.{nat_tests}
use Rattle.txn_model.specs.ScriptCheck.{first_repeat, first_bad_use, script_fault, first_of}
use Rattle.txn_model.specs.declared.op.Op.{Op}
use Rattle.txn_model.specs.declared.script.ScriptFault.TheVariants.{Empty, TooLong, TupleTwice, BadUse}

-- a script without a fault is short
pub short_script : (ops : List Op) → script_fault ops ≡ None → length ops ≤ 16
unfolding script_fault
short_script ops e = parts (length ops == 0) (nat_lt 16 (length ops)) refl e
  where
    not_below : (n : ℕ) → nat_lt 16 n ≡ false → n ≤ 16
    not_below n is = grind (arith, nat_tests)

    parts : (a b : Bool) → nat_lt 16 (length ops) ≡ b → (if a then Some Empty else (if b then Some (TooLong (length ops)) else first_of (first_repeat ops) TupleTwice (first_of (first_bad_use ops) BadUse None))) ≡ None → length ops ≤ 16
    parts true b is f = cc
    parts false true is f = cc
    parts false false is f = not_below (length ops) is
