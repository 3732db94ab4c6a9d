-- The scripts of a sound session name each tuple once.
use Rattle.std.proofs.Common.{◌≡◌, ℕ, ◌==◌, nat_lt, Bool, true, false, List, [], length, unwrap_or, Option, Some, None, refl, if◌then◌else◌}
use Rattle.txn_model.specs.ScriptCheck.{first_repeat, first_bad_use, script_fault, first_of}
use Rattle.txn_model.specs.declared.op.Op.{Op}
use Rattle.txn_model.specs.declared.script.ScriptFault.{ScriptFault}
use Rattle.txn_model.specs.declared.script.ScriptFault.TheVariants.{Empty, TooLong, TupleTwice, BadUse}
use Rattle.catalogue.proofs.SoundLaws.{sound_script}
use Rattle.catalogue.specs.Plan.{Plan, script_of, script_at}
use Rattle.catalogue.specs.Sound.{IsSound}
use Rattle.core_model.proofs.Decided.{IsDistinct, distinct_of}

-- a script without a fault has distinct tuples
no_repeat : (ops : List Op) → script_fault ops ≡ None → first_repeat ops ≡ None
unfolding script_fault
no_repeat ops e = parts (length ops == 0) (nat_lt 16 (length ops)) (length ops) (first_repeat ops) (first_of (first_bad_use ops) BadUse None) e
  where
    parts : (a b : Bool) (n : ℕ) (r : Option ℕ) (o : Option ScriptFault) → (if a then Some Empty else (if b then Some (TooLong n) else first_of r TupleTwice o)) ≡ None → r ≡ None
    parts true b n r o e = cc
    parts false true n r o e = cc
    parts false false n None o e = refl
    parts false false n (Some k) o e = cc

pub all_distinct : (plan : Plan) → IsSound plan → (c seq : ℕ) → IsDistinct (script_at plan c seq)
all_distinct plan sound c seq = by (script_of plan c seq) refl
  where
    by : (o : Option (List Op)) → script_of plan c seq ≡ o → IsDistinct (unwrap_or o [])
    by None is = tt
    by (Some ops) is = distinct_of ops (no_repeat ops (sound_script plan c seq ops sound is).script)
